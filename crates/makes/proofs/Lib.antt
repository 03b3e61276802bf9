pub mod Appended
pub mod Bodies
pub mod Instances
pub mod Making
pub mod Striking
pub mod Ticks

pub mod Bodies
pub mod Flats
pub mod Repeats
pub mod Strikes

pub mod Lined
pub mod Walked
pub mod Gapless
pub mod Replying

pub mod Meaning
pub mod Faults
pub mod Check
pub mod Judged

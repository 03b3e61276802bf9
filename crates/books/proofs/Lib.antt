pub mod First
pub mod Judging
pub mod Places
pub mod Verdicts
pub mod Literals

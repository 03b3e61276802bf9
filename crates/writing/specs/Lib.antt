pub mod Writes
pub mod Replies

pub mod Lines
pub mod Sites
pub mod Replies
pub mod Talks
pub mod Turns
pub mod Faults
pub mod Endings

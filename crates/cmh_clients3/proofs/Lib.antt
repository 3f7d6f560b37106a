pub mod Answered
pub mod Owning
pub mod Turns

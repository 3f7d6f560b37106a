pub mod Transitions
pub mod Meaning
pub mod Steps

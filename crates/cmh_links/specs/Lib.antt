pub mod Writing
pub mod Reading
pub mod Lent
pub mod Threads
pub mod TurnedAway

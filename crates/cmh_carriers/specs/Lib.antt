pub mod Memory
pub mod Streams
pub mod Table
pub mod Notes

pub mod Fault
pub mod Stream
pub mod Reader

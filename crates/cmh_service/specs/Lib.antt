pub mod ServiceFaults
pub mod Taken

pub mod Clocks
pub mod Tapes

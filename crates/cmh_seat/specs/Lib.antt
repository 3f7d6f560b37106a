pub mod Fills
pub mod Inlet
pub mod Inner
pub mod Seat

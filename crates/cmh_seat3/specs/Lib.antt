pub mod Entries
pub mod Inner
pub mod Seat
pub mod Journals
pub mod Links
pub mod Opening

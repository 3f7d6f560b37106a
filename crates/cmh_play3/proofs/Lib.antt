pub mod Cutting
pub mod Delivering
mod EntryLemmas
mod KeepLemmas
pub mod Lines
pub mod Moving
pub mod Places
mod PlayLemmas
mod SegmentLemmas
pub mod Stepping
pub mod Taking
pub mod Turns

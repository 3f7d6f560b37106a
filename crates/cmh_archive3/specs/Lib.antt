pub mod Names
pub mod Summaries
pub mod Archive
pub mod Lines
pub mod Reading
pub mod ListFaults
pub mod Listing
pub mod Recording

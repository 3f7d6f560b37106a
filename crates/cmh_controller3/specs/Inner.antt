-- This crate's own words. No contract of what it gives to its callers cites them.
pub mod Kept
pub mod Looks
pub mod Marks
pub mod Leading
pub mod Processes
pub mod SecondHalves
pub mod Between

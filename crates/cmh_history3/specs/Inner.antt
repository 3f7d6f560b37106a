-- This crate's own words. No contract of what it gives to its callers cites them.
pub mod Taking
pub mod Sets
pub mod Rows
pub mod Leading
pub mod Ends

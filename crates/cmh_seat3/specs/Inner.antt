-- This crate's own words. No contract of what it gives to its callers cites them.
pub mod Drafts
pub mod Faults
pub mod Kept
pub mod Owned

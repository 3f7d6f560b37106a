-- This crate's own words: of its tables and of its search. No contract of what it gives to its callers cites them.
pub mod Away
pub mod Inserting
pub mod Places
pub mod Steps
pub mod Summaries

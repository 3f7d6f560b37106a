-- This crate's own words: of its search and of its lists. No contract of what it gives to its callers cites them.
pub mod Bits
pub mod Known

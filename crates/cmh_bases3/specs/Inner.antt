-- This crate's own words. No contract of what it gives to its callers cites them.
pub mod Lists
pub mod Rows
pub mod Kinds

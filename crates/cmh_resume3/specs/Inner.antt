-- This crate's own words, of the steps of reading.
pub mod Parts

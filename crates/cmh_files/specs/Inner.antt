-- What is found on the way to an answer, and how the stop of files that were read twice is found. No contract of what
-- it gives to its callers cites these words.
pub mod Parts
pub mod Counts
pub mod Steps

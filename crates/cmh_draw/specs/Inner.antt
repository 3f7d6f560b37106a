-- The words of how a picture is made. No contract of what it gives to its callers cites them.
pub mod Columns
pub mod Ways
pub mod Marks
pub mod Steps

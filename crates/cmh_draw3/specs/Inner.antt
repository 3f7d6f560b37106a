-- The words of how a picture is made. No contract of what it gives to its callers cites them.
pub mod Ways
pub mod Lengths
pub mod Stands
pub mod Standing
pub mod Marks

-- The words of the search itself. No contract of what it gives to its callers cites them.
pub mod Levels
pub mod Leading

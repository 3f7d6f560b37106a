-- The words of the merge itself. No contract of what it gives to its callers cites them.
pub mod Merging
pub mod Rows
pub mod Takings

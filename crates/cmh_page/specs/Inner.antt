-- The words of how the parts of a page are made. No contract of what it gives to its callers cites them.
pub mod Settled

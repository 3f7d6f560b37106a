-- The words of how a text is made. No contract of what it gives to its callers cites them.
pub mod Adding

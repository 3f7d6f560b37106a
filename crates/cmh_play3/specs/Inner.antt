-- The words of the code alone. No contract of what it gives to its callers cites them.
pub mod Fresh
pub mod Shown
pub mod Stepped
pub mod Made
pub mod Ends

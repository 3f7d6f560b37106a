-- The words of the code alone. No contract of what it gives to its callers cites them.
pub mod Taken
pub mod Faulty

-- The words of the audit itself. No contract of what it gives to its callers cites them.
pub mod Lawful
pub mod Survey
pub mod Queues
pub mod Walks

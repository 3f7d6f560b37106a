-- The words of the code alone. No contract of what it gives to its callers cites them.
pub mod PairRows
pub mod ClockTables
pub mod Leavers
pub mod Stopped
pub mod Own
pub mod Pairs

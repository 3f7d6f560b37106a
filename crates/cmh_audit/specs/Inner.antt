-- The auditor's own words: of its merge, its counts and its search. No contract of what it gives to its callers cites
-- them.
pub mod Faults
pub mod Merging
pub mod Ready
pub mod Places
pub mod Turns
pub mod Declarations
pub mod FoundCycles
pub mod FoundStops
pub mod Reporting
pub mod AllSums
pub mod Orders
pub mod Walks

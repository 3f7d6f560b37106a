pub mod AtSites
pub mod Built
pub mod WellFormed

mod Tallies
pub mod ClusterEndings
pub mod Shortages

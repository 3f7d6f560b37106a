pub mod Limits
pub mod World
pub mod Rows
pub mod Topology
pub mod Inner

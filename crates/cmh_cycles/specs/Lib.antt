pub mod Cycles
pub mod FoundCycles
pub mod Graphs
pub mod Rows
pub mod Inner

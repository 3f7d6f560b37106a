pub mod RowLemmas
pub mod Members
pub mod GraphLemmas
pub mod LevelLemmas
pub mod CycleLemmas

pub mod Files
pub mod Set
pub mod Journals
pub mod Stops
pub mod Standing
pub mod Judged
pub mod Verdicts
pub mod Inner

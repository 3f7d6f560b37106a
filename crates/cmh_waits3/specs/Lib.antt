pub mod Held
pub mod Rows
pub mod Findings
pub mod Inner

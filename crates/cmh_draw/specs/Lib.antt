pub mod Each
pub mod Arrows
pub mod Marks
pub mod Kinds
pub mod Inner

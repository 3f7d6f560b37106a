pub mod Arrows
pub mod Marks
pub mod Draws
pub mod EpochParts
pub mod Epochs
pub mod Inner

pub mod Fronts
pub mod Wire
pub mod Mark
pub mod Inner

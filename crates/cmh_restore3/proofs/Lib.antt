pub mod Standing
pub mod Worlds
pub mod Histories
pub mod Beginnings
pub mod Fronts

pub mod Worlds
pub mod Chains
pub mod Laws
pub mod Splits

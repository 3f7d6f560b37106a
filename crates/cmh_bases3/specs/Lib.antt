pub mod Bases
pub mod FittingLinks
pub mod Inner
pub mod Laws

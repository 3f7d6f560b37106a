pub mod Faults
pub mod Fed
pub mod Kept
pub mod Owned
pub mod OwnedInlet

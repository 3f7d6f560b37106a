pub mod Restored
pub mod Laws
pub mod Reading
pub mod Keeping
pub mod Restores

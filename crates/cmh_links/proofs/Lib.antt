pub mod Known
pub mod Writes
pub mod Stopping
pub mod Beginnings
pub mod Lents
pub mod Batches
pub mod Places
pub mod Strangers

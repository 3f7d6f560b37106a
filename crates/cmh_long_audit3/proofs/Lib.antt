pub mod Zips
pub mod Ranges
pub mod Taking

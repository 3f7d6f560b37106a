pub mod Disks
pub mod Pairs

pub mod Read
pub mod Audits
pub mod Parts
pub mod Wholes

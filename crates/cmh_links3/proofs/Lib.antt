pub mod Hearing
pub mod Growing
pub mod Places
pub mod Giving
pub mod Taking

pub mod Files
pub mod Lists
pub mod Placed
pub mod Sendings3

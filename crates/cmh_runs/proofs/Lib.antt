pub mod Beginnings
pub mod Sent
pub mod Journals
pub mod Stops
pub mod Growing

pub mod Connections
pub mod Growing
pub mod Ahead
pub mod Hearing
pub mod Listening
pub mod Speaking

pub mod Questions
pub mod Following

pub mod Conversations
pub mod Desks
pub mod Feeds
pub mod Talks

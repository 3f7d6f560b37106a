pub mod Clients
pub mod Conversations
pub mod Desks
pub mod Http
pub mod Lines
pub mod Nexts
pub mod Talks
pub mod Wishes

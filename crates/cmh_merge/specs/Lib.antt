pub mod Queues
pub mod Walks
pub mod Merges
pub mod Inner

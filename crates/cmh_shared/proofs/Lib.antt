pub mod Sites
pub mod Queuing
pub mod Paired
pub mod Refill
pub mod Fronts
pub mod Adding
pub mod Sight
pub mod Keeping

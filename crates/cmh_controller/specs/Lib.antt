pub mod Beginnings
pub mod Controller
pub mod Destinations
pub mod Refusals
pub mod Replays
pub mod Steps

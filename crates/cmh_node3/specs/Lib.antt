pub mod Changes
pub mod Happenings
pub mod Links
pub mod Nodes
pub mod PeerChanges
pub mod Peers
pub mod Steps
pub mod Turns

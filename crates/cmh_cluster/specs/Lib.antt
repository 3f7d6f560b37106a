pub mod Settling
pub mod ClusterFaults
pub mod ClusterEndings
pub mod ClusterTalk
pub mod Descriptors

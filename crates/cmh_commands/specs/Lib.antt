pub mod Numbers
pub mod Paths
pub mod Later
pub mod Files
pub mod Drawing
pub mod Playing
pub mod Paging
pub mod NewWorld

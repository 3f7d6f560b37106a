pub mod AsBox
pub mod AsBoxInlet
pub mod Given
pub mod Pendings
pub mod Puts
pub mod Spelled

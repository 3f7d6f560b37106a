pub mod Fates
pub mod Moments
pub mod Held
pub mod PageFaults
pub mod Pages
pub mod Inner

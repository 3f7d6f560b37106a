pub mod Ordering
pub mod Going
pub mod Doing
pub mod Starting
pub mod Talking
pub mod Endings
pub mod OneAnswer
pub mod Homes

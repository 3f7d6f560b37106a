pub mod LinesSeen
pub mod Forms

pub mod Told
pub mod Pages

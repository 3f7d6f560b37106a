pub mod Endings
pub mod SiteTalk
pub mod Together

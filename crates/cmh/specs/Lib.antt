pub mod CommandLine
pub mod Serving
pub mod Playing
pub mod Listing
pub mod Commands

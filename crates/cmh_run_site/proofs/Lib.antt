pub mod Endings
mod Linking
mod Waiting

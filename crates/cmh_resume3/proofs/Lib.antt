pub mod Answers
pub mod Ends
pub mod Lines
pub mod Lists
pub mod Numbers
pub mod Places
pub mod Resuming
pub mod Spellings

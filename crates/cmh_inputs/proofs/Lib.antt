pub mod Cutting
mod FileLemmas
pub mod Furthest
mod JournalLemmas
pub mod Keeping
pub mod Places
mod ReadLemmas
pub mod SegmentFiles
pub mod Sites
pub mod TwoReads

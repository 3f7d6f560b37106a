pub mod LineLemmas
pub mod BadEntries
pub mod TurnLemmas
pub mod StopLemmas
pub mod ReasonLemmas
pub mod FileLemmas
pub mod Headlines
pub mod ShowLemmas
pub mod RunLemmas
mod ReadLemmas
mod TwoReads
mod CommonStops
mod WalkLemmas
mod LengthLemmas

pub mod StandLemmas
mod FileLemmas
mod FindingLemmas
mod LineLemmas
mod ShowLemmas
pub mod RunLineLemmas
pub mod TurnLemmas
pub mod OwnLemmas
pub mod StopLemmas
pub mod ReasonLemmas

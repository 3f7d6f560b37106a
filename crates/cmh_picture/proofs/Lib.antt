pub mod DrawnLemmas
pub mod CauseLemmas

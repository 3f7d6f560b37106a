pub mod SegmentLemmas
pub mod MarkLemmas

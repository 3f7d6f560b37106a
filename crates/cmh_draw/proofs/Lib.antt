pub mod EachLemmas
pub mod ColumnLemmas
pub mod SizeLemmas
pub mod StepLemmas
pub mod MarkLemmas
pub mod ArrowLemmas

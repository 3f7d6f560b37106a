mod ColumnLemmas
mod EpochLemmas
mod PageLemmas
mod RestoreLemmas

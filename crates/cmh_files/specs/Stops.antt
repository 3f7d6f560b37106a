-- Stops of journals: a length for each, so that what is kept is as if all sites had stopped at one moment.
use Rattle.std.specs.Prelude.{◌≡◌, ℕ, ◌<◌, ◌≤◌, List, [], length, take, slice_index_or}
use Rattle.cmh_frames.specs.declared.edition.Edition.TheVariants.{One}
use Rattle.cmh_frames.specs.Entries.{Entry}
use Rattle.cmh_frames.specs.Journals.{receipts_of, sendings_of}
use Rattle.cmh_journal.specs.Journal.{Journal}

-- A stop: for each journal, in their order, how many of its first entries are kept.
abbrev pub Stop : Type 0
Stop = List ℕ

abbrev pub length_at : Stop → ℕ → ℕ
length_at stop i = slice_index_or stop i 0

abbrev pub no_journal : Journal
no_journal = record { site = 0; edition = One; entries = []; reserved = 0 }

abbrev pub journal_at : List Journal → ℕ → Journal
journal_at journals i = slice_index_or journals i no_journal

-- what the stop keeps of the journal at a place
abbrev pub kept : List Journal → Stop → ℕ → List Entry
kept journals stop i = take (length_at stop i) (journal_at journals i).entries

-- on the link from the site of one journal to that of another: how many frames were sent, and how many were got
abbrev pub sent : List Journal → Stop → ℕ → ℕ → ℕ
sent journals stop a b = length (sendings_of (journal_at journals b).site (kept journals stop a))

abbrev pub got : List Journal → Stop → ℕ → ℕ → ℕ
got journals stop a b = length (receipts_of (journal_at journals a).site (kept journals stop b))

-- it keeps at least the first lengths, and no more than there is
pub record IsWithin (first : Stop) (journals : List Journal) (stop : Stop) : Type 0 where
  pub each : length stop ≡ length journals
  pub above : (i : ℕ) → i < length journals → length_at first i ≤ length_at stop i
  pub below : (i : ℕ) → i < length journals → length_at stop i ≤ length (journal_at journals i).entries

-- on each link the receipts are at most the sendings
abbrev pub IsConsistent : List Journal → Stop → Type 0
IsConsistent journals stop =
    (a b : ℕ) → a < length journals → b < length journals → got journals stop a b ≤ sent journals stop a b

-- it is consistent, and each other consistent stop keeps at least as much of each journal
pub record IsLowest (first : Stop) (journals : List Journal) (stop : Stop) : Type 0 where
  pub within : IsWithin first journals stop
  pub consistent : IsConsistent journals stop
  pub lowest : (other : Stop) → IsWithin first journals other → IsConsistent journals other
      → (i : ℕ) → i < length journals → length_at stop i ≤ length_at other i

-- no stop is consistent
abbrev pub NoneIsConsistent : Stop → List Journal → Type 0
NoneIsConsistent first journals = (stop : Stop) → IsWithin first journals stop → IsConsistent journals stop → ⊥

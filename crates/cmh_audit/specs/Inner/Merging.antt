-- How far the journals were taken, and what can be taken next.
use Rattle.std.specs.Prelude.{◌≡◌, ℕ, ◌+◌, ◌<◌, ◌≤◌, ◌==◌, ◌⊎◌, slice_index_or, Contains, List, [], ◌∷◌, ◌++◌, length, map, take, drop, if◌then◌else◌}
use Rattle.cmh_frames.specs.declared.frame.Frame.{Frame}
use Rattle.cmh_frames.specs.Topology.{Topology}
use Rattle.cmh_frames.specs.declared.event.Event.{Event}
use Rattle.cmh_frames.specs.declared.event.Event.TheVariants.{Got}
use Rattle.cmh_frames.specs.Entries.{Entry}
use Rattle.cmh_frames.specs.Journals.{IsLawful, frames_to, frame_from, sendings_of, receipts_of}
use Rattle.cmh_frames.specs.Runs.{IsBeginningOf, ComeFromRun}
use Rattle.cmh_journal.specs.Journal.{Journal}
use Rattle.cmh_audit.specs.Journals.{journal_of}
use Rattle.cmh_world.specs.Links.{Links, waiting}
use Rattle.cmh_audit.specs.Sums.{in_entries}
use Rattle.cmh_audit.specs.Transit.{sent_count}

-- the entries of a site that were taken, given how many of each journal were
abbrev pub taken_of : List Journal → List ℕ → ℕ → List Entry
taken_of [] counts site = []
taken_of (j ∷ journals) [] site = []
taken_of (j ∷ journals) (n ∷ counts) site = if j.site == site then take n j.entries else taken_of journals counts site

-- the site may take this entry next, where each site holds these entries
pub record CanGrow (t : Topology) (site : ℕ) (held : ℕ → List Entry) (e : Entry) : Type 0 where
  pub lawful : IsLawful t site (held site ++ e ∷ [])
  pub got : (a : ℕ) → IsBeginningOf (receipts_of a (held site ++ e ∷ [])) (sendings_of site (held a))

-- the frame that the event got, if it got one, is the next of its link
abbrev pub IsNextFrame : Links → ℕ → Event → Type 0
IsNextFrame links site event = (a : ℕ) → IsBeginningOf (frame_from a event) (waiting links a site)

-- the frame that the event got, if it got one, was the next of its link and is gone
abbrev pub ReceivesFrame : Links → Links → ℕ → Event → Type 0
ReceivesFrame old new site event =
    (a b : ℕ) → (if site == b then frame_from a event else []) ++ waiting new a b ≡ waiting old a b

-- the event got a frame of this site that is not the next of its link
pub record LacksFrame (links : Links) (site : ℕ) (event : Event) (from : ℕ) : Type 0 where
  pub frame : Frame
  pub got : event ≡ Got from frame
  pub not_next : IsNextFrame links site event → ⊥

-- the links after the site sent these frames
abbrev pub SendsFrames : Links → Links → ℕ → List (ℕ × Frame) → Type 0
SendsFrames old new site sent =
    (a b : ℕ) → waiting new a b ≡ waiting old a b ++ (if site == a then frames_to b sent else [])

-- the links after an entry of the site: what it got is gone, what it sent came in
abbrev pub MovesFrames : Links → Links → ℕ → Entry → Type 0
MovesFrames old new site entry =
    (a b : ℕ) → (if site == b then frame_from a entry.event else []) ++ waiting new a b
    ≡ waiting old a b ++ (if site == a then frames_to b entry.sent else [])

-- the longest lawful beginning has n entries
pub record IsLawfulLength (t : Topology) (site : ℕ) (entries : List Entry) (n : ℕ) : Type 0 where
  pub within : n ≤ length entries
  pub lawful : IsLawful t site (take n entries)
  pub stops : n < length entries → IsLawful t site (take (n + 1) entries) → ⊥

-- how many entries each journal has
abbrev pub entry_counts : List Journal → List ℕ
entry_counts journals = map (λ (j : Journal). length j.entries) journals

-- the entries of each journal
abbrev pub entries_each : List Journal → List (List Entry)
entries_each journals = map (λ (j : Journal). j.entries) journals

-- of each journal the entries after those that were taken
pub record AreLeftAt (journals : List Journal) (counts : List ℕ) (walks : List (List Entry)) : Type 0 where
  pub one_each : length walks ≡ length journals
  pub left : (k : ℕ) (j : Journal) → k < length journals → j ≡ slice_index_or journals k j
      → slice_index_or walks k [] ≡ drop (slice_index_or counts k 0) j.entries

-- one for each journal
abbrev pub AreLawfulLengths : Topology → List Journal → List ℕ → Type 0
AreLawfulLengths t [] [] = Unit {0}
AreLawfulLengths t [] (n ∷ limits) = ⊥
AreLawfulLengths t (j ∷ journals) [] = ⊥
AreLawfulLengths t (j ∷ journals) (n ∷ limits) =
    IsLawfulLength t j.site j.entries n × AreLawfulLengths t journals limits

-- a merge that can't go on: what was taken comes from a run, and no site can take its next entry
pub record IsStuck (t : Topology) (journals : List Journal) (counts : List ℕ) : Type 0 where
  pub each : length counts ≡ length journals
  pub comes : ComeFromRun t (taken_of journals counts)
  pub within : (site : ℕ) → IsBeginningOf (taken_of journals counts site) (journal_of journals site)
  pub stuck : (site : ℕ) (e : Entry)
      → IsBeginningOf (taken_of journals counts site ++ e ∷ []) (journal_of journals site)
      → CanGrow t site (taken_of journals counts) e → ⊥

-- all counts together
abbrev pub total : List ℕ → ℕ
total [] = 0
total (n ∷ counts) = n + total counts

-- how many frames the entries that were taken sent
abbrev pub sent_by : List Journal → List ℕ → ℕ
sent_by [] counts = 0
sent_by (j ∷ journals) [] = 0
sent_by (j ∷ journals) (n ∷ counts) = in_entries sent_count (take n j.entries) + sent_by journals counts

-- The looks that were made: one at each entry that was taken, and one at least, which failed, of each
-- journal that is neither whole nor on the list.
-- A site comes to the list at the start, after each of its entries, and for a frame that was sent to it;
-- it goes from it for a look, or because its journal is whole.
pub record AreTried (journals : List Journal) (counts ready : List ℕ) (tries : ℕ) : Type 0 where
  pub failed : List ℕ  -- the sites of the looks that failed
  pub passed : List ℕ  -- the sites that went from the list without a look
  pub within : (k : ℕ) (j : Journal) → k < length journals → j ≡ slice_index_or journals k j
      → slice_index_or counts k 0 ≤ length j.entries
  pub all : total counts + length failed ≤ tries
  pub caused : tries + (length passed + length ready) ≤ total counts + (sent_by journals counts + length journals)
  pub each : (k : ℕ) (j : Journal) → k < length journals → j ≡ slice_index_or journals k j
      → Contains ready k ⊎ ((Contains passed j.site × (length j.entries ≤ slice_index_or counts k 0))
      ⊎ (Contains failed j.site × (slice_index_or counts k 0 < length j.entries)))

-- the links have just what was sent and not got by the entries that were taken
abbrev pub AreLeft : List Journal → List ℕ → Links → Type 0
AreLeft journals counts links =
    (a b : ℕ) → receipts_of a (taken_of journals counts b) ++ waiting links a b
    ≡ sendings_of b (taken_of journals counts a)

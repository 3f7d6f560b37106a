-- The epochs of a world, from the journals of its sites. Each journal is a list of segments, in the order of their epochs.
use Rattle.std.specs.Prelude.{◌≡◌, ℕ, ◌*◌, ◌^◌, ◌<◌, ◌≤◌, ◌==◌, Bool, true, false, MatchBool, List, [], ◌∷◌, ◌++◌, length, map, flat_map, if◌then◌else◌, Option, None, Some, ⊤}
use Rattle.std.specs.List.{All, list_any}
use Rattle.cmh_model3.specs.declared.event.Event.TheVariants.{Turn}
use Rattle.cmh_segment3.specs.declared.entry.Entry.{Entry}
use Rattle.cmh_segment3.specs.declared.segment.Segment.{Segment}

-- ---- a journal in one epoch, whose segments of earlier epochs were taken out

-- the segment of an epoch that a site jumped over: it has no entries, and begins as the next one
abbrev pub without_entries : ℕ → Segment → Segment
without_entries epoch next = record {
  header = record { site = next.header.site; world = next.header.world; epoch = epoch; before = next.header.before };
  base = next.base;
  entries = [];
}

-- How a site stands in an epoch: with its segment of it, or with one that stands for it. With none where no segment is left.
abbrev pub standing : ℕ → List Segment → List Segment
standing epoch [] = []
standing epoch (next ∷ later) = (if next.header.epoch == epoch then next else without_entries epoch next) ∷ []

-- what is left of the journal behind the epoch
abbrev pub behind : ℕ → List Segment → List Segment
behind epoch [] = []
behind epoch (next ∷ later) = if next.header.epoch == epoch then later else next ∷ later

-- the site has begun a later epoch
abbrev pub IsClosed : ℕ → List Segment → Type 0
IsClosed epoch [] = ⊥
IsClosed epoch (next ∷ later) = MatchBool (next.header.epoch == epoch) (0 < length later) (epoch < next.header.epoch)

-- the journal goes on with this epoch
abbrev pub begins : ℕ → List Segment → Bool
begins epoch [] = false
begins epoch (next ∷ later) = next.header.epoch == epoch

abbrev pub next_epoch : List Segment → Option ℕ
next_epoch [] = None
next_epoch (next ∷ later) = Some next.header.epoch

-- it goes on with none before this one
abbrev pub IsNotBefore : ℕ → List Segment → Type 0
IsNotBefore epoch [] = ⊤
IsNotBefore epoch (next ∷ later) = epoch ≤ next.header.epoch

-- ---- an epoch that is open

-- A site's turn to an epoch. It is the head of a segment, and no entry of one.
abbrev pub turn_to : ℕ → Entry
turn_to epoch = record { event = Turn (epoch * 2 ^ 32); sent = []; declared = None }

-- the entries of segments, each behind the turn to it
abbrev pub turned : List Segment → List Entry
turned [] = []
turned (next ∷ later) = turn_to next.header.epoch ∷ next.entries ++ turned later

-- a segment with the entries of all behind it
abbrev pub followed : Segment → List Segment → Segment
followed g later = record { header = g.header; base = g.base; entries = g.entries ++ turned later }

-- how a site stands in an epoch, with all that follows
abbrev pub open_in : ℕ → List Segment → List Segment
open_in epoch journal = map (λ g. followed g (behind epoch journal)) (standing epoch journal)

-- ---- epochs, one after the other

-- what is left of the journals behind these epochs
abbrev pub left_behind : List ℕ → List (List Segment) → List (List Segment)
left_behind [] journals = journals
left_behind (epoch ∷ epochs) journals = left_behind epochs (map (behind epoch) journals)

-- how all sites stand in each of these epochs
abbrev pub standing_in : List ℕ → List (List Segment) → List (List Segment)
standing_in [] journals = []
standing_in (epoch ∷ epochs) journals = flat_map (standing epoch) journals ∷ standing_in epochs (map (behind epoch) journals)

-- at the end of each of these epochs each site has begun a later one
abbrev pub AreClosed : List ℕ → List (List Segment) → Type 0
AreClosed [] journals = ⊤
AreClosed (epoch ∷ epochs) journals = All (IsClosed epoch) journals × AreClosed epochs (map (behind epoch) journals)

-- The epochs of journals: closed ones, and then the open one with all that follows. No epoch with which a journal goes on
-- there is closed, and none is before the open one.
pub record AreEpochs (journals epochs : List (List Segment)) : Type 0 where
  pub closed : List ℕ
  pub last : ℕ
  pub are_closed : AreClosed closed journals
  pub is_open : (epoch : ℕ) → list_any (begins epoch) (left_behind closed journals) ≡ true
      → ¬ All (IsClosed epoch) (left_behind closed journals)
  pub is_next : All (IsNotBefore last) (left_behind closed journals)
  pub epochs_are : epochs ≡ standing_in closed journals ++ flat_map (open_in last) (left_behind closed journals) ∷ []

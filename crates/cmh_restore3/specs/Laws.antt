-- What a restored world is to the run of the older one.
use Rattle.std.specs.Prelude.{◌≡◌, ℕ, ◌++◌, Contains, List, [], ◌∷◌, if◌then◌else◌, map}
use Rattle.std.specs.Bool.{nat_lt}
use Rattle.cmh_epochs3.specs.Chains.{joined}
use Rattle.cmh_epochs3.specs.Laws.{Chain, Epoch, IsRunFrom, LeadsTo, World}
use Rattle.cmh_topology3.specs.Topology.{Topology, site_of, sites_of}
use Rattle.cmh_segment3.specs.declared.head.Head.{Head}
use Rattle.cmh_segment3.specs.declared.segment.Segment.{Segment}
use Rattle.cmh_history3.specs.EpochSet.{AreOfEpoch}
use Rattle.cmh_history3.specs.Turns.{Follow, IsEpoch, turns_of}
use Rattle.cmh_history3.specs.Worlds.{world_of}
use Rattle.cmh_history3.specs.Epochs.{standing}
use Rattle.cmh_history3.specs.Journals.{IsJournal}
use Rattle.cmh_restore3.specs.Restored.{StandsFor, restored}

-- the older world has another number, and the same sites with the same processes
pub record IsOlder (t old : Topology) : Type 0 where
  pub rows : old.rows ≡ t.rows

abbrev pub head_of : Segment → Head
head_of g = record { header = g.header; base = g.base }

-- what is made of segments that stand for the epoch
abbrev pub restored_of : Topology → ℕ → List Segment → List Segment
restored_of t epoch segments = map (λ (g : Segment). restored t epoch (head_of g)) segments

-- ---- which segments

-- what is left of a journal from an epoch on
abbrev pub from_epoch : ℕ → List Segment → List Segment
from_epoch epoch [] = []
from_epoch epoch (g ∷ later) = if nat_lt g.header.epoch epoch then from_epoch epoch later else g ∷ later

-- The segment of a journal that stands for an epoch is the one that stands for it where epochs are audited one by one: what is
-- made of it is what is made of that.
abbrev pub OneStands : Topology → Type 0
OneStands t =
    (epoch : ℕ) (journal : List Segment) (g : Segment) → IsJournal journal → Contains journal g → StandsFor epoch (head_of g)
    → restored_of t epoch (standing epoch (from_epoch epoch journal)) ≡ restored t epoch (head_of g) ∷ []

-- ---- their world

-- The restored world is that of the bases that stand for the epoch.
abbrev pub IsSameWorld : Topology → Type 0
IsSameWorld t =
    (old : Topology) (epoch : ℕ) (next : List Segment) → IsOlder t old → AreOfEpoch epoch next
    → world_of t (restored_of t epoch next) ≡ world_of old next

-- Where those bases follow the end of the epoch before, the restored ones do. So the turns lead from that end to the restored
-- world.
pub record RestoredFollow (t : Topology) (end : World) (epoch : ℕ) (next : List Segment) : Type 0 where
  pub follow : Follow t end epoch (restored_of t epoch next)
  pub turn : IsEpoch t end (turns_of epoch (sites_of t)) (world_of t (restored_of t epoch next))

abbrev pub RestoredFollowAll : Topology → Type 0
RestoredFollowAll t =
    (old : Topology) (end : World) (epoch : ℕ) (next : List Segment) → IsOlder t old → AreOfEpoch epoch next
    → Follow old end epoch next → RestoredFollow t end epoch next

-- ---- its history, and what comes after

-- epochs, then the one in which all sites turn to the restored bases, and later ones
abbrev pub with_turns : Topology → List Epoch → ℕ → List Segment → List Epoch → List Epoch
with_turns t epochs epoch next later =
    epochs ++ record { events = turns_of epoch (sites_of t); next = world_of t (restored_of t epoch next) } ∷ later

-- Each chain of epochs that begins at the restored world goes on with these: it is one with them, from where they begin, and
-- so one run. With no later epoch it leads to just the restored world.
pub record HasHistory (t : Topology) (first : World) (epochs : List Epoch) (epoch : ℕ) (next : List Segment) : Type 0 where
  pub chain : (later : List Epoch) (last : World) → Chain (site_of t) (world_of t (restored_of t epoch next)) later last
      → Chain (site_of t) first (with_turns t epochs epoch next later) last
  pub run : (later : List Epoch) (last : World) → Chain (site_of t) (world_of t (restored_of t epoch next)) later last
      → IsRunFrom (site_of t) first (joined (with_turns t epochs epoch next later))
      × LeadsTo (site_of t) first (joined (with_turns t epochs epoch next later)) last

-- So it is with epochs of the older world that are accepted and that the bases follow.
abbrev pub RestoredHaveHistories : Topology → Type 0
RestoredHaveHistories t =
    (old : Topology) (first end : World) (epochs : List Epoch) (epoch : ℕ) (next : List Segment) → IsOlder t old
    → AreOfEpoch epoch next → Chain (site_of old) first epochs end → Follow old end epoch next
    → HasHistory t first epochs epoch next

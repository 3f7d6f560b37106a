-- The journals of a world that is played, as they are kept.
use Rattle.std.specs.Prelude.{◌≡◌, ℕ, List, [], ◌∷◌, map, replicate}
use Rattle.std.specs.List.{AllByRecursion}
use Rattle.cmh_model3.specs.Entries.{WorldEvent}
use Rattle.cmh_model3.specs.Runs.{IsRun, entries_of}
use Rattle.cmh_report3.specs.Kept.{without_sent}
use Rattle.cmh_segment3.specs.declared.head.Header.{Header}
use Rattle.cmh_segment3.specs.Base.{empty_base}
use Rattle.cmh_segment3.specs.Segment.{Writes}
use Rattle.cmh_segment3.specs.Steps.{HasEntry, entries_from}
use Rattle.cmh_topology3.specs.Topology.{Topology, site_of}

-- the events are those of a run of this world, but for what they sent
pub record AreOfRun (t : Topology) (run events : List WorldEvent) : Type 0 where
  pub is_run : IsRun (site_of t) run
  pub kept_are : map without_sent events ≡ map without_sent run

-- each of the events has an entry in a segment
abbrev pub HaveEntries : List WorldEvent → Type 0
HaveEntries events = AllByRecursion (λ (e : WorldEvent). HasEntry e.entry.event) events

-- of epoch 0, in a world of zeros
abbrev pub first_header : ℕ → Header
first_header s = record { site = s; world = replicate 16 0; epoch = 0; before = 0 }

-- The bytes are the file of the first segment of the site's journal after these events: it begins with nothing, has the
-- entries of the site, and no tail.
abbrev pub IsJournalFile : ℕ → List WorldEvent → List ℕ → Type 0
IsJournalFile s events bytes = Writes (first_header s) empty_base (entries_from 0 (entries_of s events)) [] bytes

-- of these sites the journals after these events were kept, one after the other
abbrev pub KeepsEach : {K : Type 0} → (K → ℕ → List ℕ → K → Type 0) → List WorldEvent → List ℕ → K → K → Type 0
KeepsEach Keeps events [] old new = new ≡ old
KeepsEach {K} Keeps events (s ∷ sites) old new =
    (bytes : List ℕ) × (next : K) × IsJournalFile s events bytes × Keeps old s bytes next × KeepsEach Keeps events sites next new

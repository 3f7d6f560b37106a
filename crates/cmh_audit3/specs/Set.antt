-- What the segments of one audit have to be.
use Rattle.std.specs.Prelude.{◌≡◌, ℕ, Bool, not, ◌&&◌, ◌==◌, if◌then◌else◌, List, length, map, Option, None, Some}
use Rattle.std.specs.List.{list_any}
use Rattle.std.specs.Bool.{nat_eq}
use Rattle.std.specs.Cmp.Lexicographic.{pointwise}
use Rattle.cmh_frames.specs.Rows.{repeats}
use Rattle.cmh_topology3.specs.Topology.{Topology, is_site, sites_of}
use Rattle.cmh_segment3.specs.declared.base.Base.{Base}
use Rattle.cmh_segment3.specs.declared.segment.Segment.{Segment}
use Rattle.cmh_audit3.specs.declared.set.SetFault.{SetFault}
use Rattle.cmh_audit3.specs.declared.set.SetFault.TheVariants.{OtherWorld, UnknownSite, RepeatedSite, MissingSite, LaterEpoch}

-- the number that stands for a fault in a fault line
abbrev pub fault_number : SetFault → ℕ
fault_number UnknownSite = 1
fault_number RepeatedSite = 3
fault_number MissingSite = 4
fault_number OtherWorld = 5
fault_number LaterEpoch = 6

-- the sites of the segments
abbrev pub sites_in : List Segment → List ℕ
sites_in segments = map (λ (g : Segment). g.header.site) segments

abbrev pub has_site : List ℕ → ℕ → Bool
has_site sites s = list_any (λ q. q == s) sites

-- the segment has the number of this world
abbrev pub is_of_world : List ℕ → Segment → Bool
is_of_world world g = pointwise nat_eq g.header.world world

-- it is of a site of the topology
abbrev pub is_known : Topology → Segment → Bool
is_known t g = is_site t g.header.site

-- one of these sites has no segment
abbrev pub lacks_site : List ℕ → List ℕ → Bool
lacks_site sites there = list_any (λ s. not (has_site there s)) sites

-- nothing has happened in the state: none of its lists has a row
abbrev pub is_empty_base : Base → Bool
is_empty_base b =
    (length b.waits == 0) && ((length b.leaving == 0) && ((length b.owed == 0) && ((length b.dependents == 0)
    && ((length b.declared == 0) && ((length b.stamps == 0) && (length b.links == 0))))))

-- a journal begins with the segment
abbrev pub begins_world : Segment → Bool
begins_world g = (g.header.epoch == 0) && is_empty_base g.base

-- The first fault that holds over all segments: one of another world, one of a site that the topology doesn't have, two of
-- one site, or none of some site; and where there is none of these, what is given.
abbrev pub fault_or : Topology → List Segment → Option SetFault → Option SetFault
fault_or t segments other =
    if list_any (λ (g : Segment). not (is_of_world t.world g)) segments then Some OtherWorld
    else (if list_any (λ (g : Segment). not (is_known t g)) segments then Some UnknownSite
    else (if repeats (sites_in segments) then Some RepeatedSite
    else (if lacks_site (sites_of t) (sites_in segments) then Some MissingSite
    else other)))

-- each segment is of a site of this world, and each site has just one
abbrev pub AreOfWorld : Topology → List Segment → Type 0
AreOfWorld t segments = fault_or t segments None ≡ None

-- the first fault, with that of one that doesn't begin a journal as the last
abbrev pub fault_of : Topology → List Segment → Option SetFault
fault_of t segments =
    fault_or t segments (if list_any (λ (g : Segment). not (begins_world g)) segments then Some LaterEpoch else None)

-- each segment begins the journal of a site of this world, and each site has just one
abbrev pub IsSet : Topology → List Segment → Type 0
IsSet t segments = fault_of t segments ≡ None

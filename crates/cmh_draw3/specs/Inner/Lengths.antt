-- How many entries each site has.
use Rattle.std.specs.Prelude.{ℕ, List, length, map}
use Rattle.cmh_topology3.specs.Topology.{Topology, sites_of}
use Rattle.cmh_segment3.specs.declared.segment.Segment.{Segment}
use Rattle.cmh_audit3.specs.Journals.{journal_of}

abbrev pub lengths_of : Topology → List Segment → List ℕ
lengths_of t segments = map (λ site. length (journal_of segments site)) (sites_of t)

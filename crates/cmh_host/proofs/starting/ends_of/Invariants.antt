use Rattle.std.proofs.Common.{◌≡◌, ◌==◌, filter, map, not, take}
use Rattle.cmh_frames.specs.Topology.{sites_of}
use Rattle.cmh_talk.specs.Ends.{ends_with}
use Rattle.cmh_host.proofs.starting.ends_of.Given as goal

abbrev pub invariant-loop-other : goal.invariant-loop-other
invariant-loop-other l = record {
  rows : l.rows.items ≡ map (ends_with l.table) (filter (λ s. not (s == l.site)) (take l.other-index (sites_of l.topology)));
}

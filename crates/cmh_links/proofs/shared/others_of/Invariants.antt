use Rattle.std.proofs.Common.{◌≡◌, ◌==◌, not, take, filter}
use Rattle.cmh_frames.specs.Topology.{sites_of}
use Rattle.cmh_links.proofs.shared.others_of.Given as goal

abbrev pub invariant-loop-other : goal.invariant-loop-other
invariant-loop-other l = record {
  sites : l.sites.items ≡ filter (λ s. not (s == l.site)) (take l.other-index (sites_of l.topology));
}

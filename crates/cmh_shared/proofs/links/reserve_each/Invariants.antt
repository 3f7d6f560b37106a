use Rattle.std.proofs.Common.{◌≡◌, ℕ, ◌<◌, length, get_or}
use Rattle.cmh_shared.specs.declared.link.Link.{Link}
use Rattle.cmh_shared.specs.Backlogs.{seen, HasRoom}
use Rattle.cmh_shared.proofs.links.reserve_each.Given as goal

abbrev pub invariant-loop-link : goal.invariant-loop-link
invariant-loop-link g l = record {
  done : (k : ℕ) (d : Link g.row.F.Denot) → k < l.link-index → HasRoom l.count (get_or l.links k d);
  same : (k : ℕ) (d : Link g.row.F.Denot) → k < length l.links → seen (get_or l.links k d) ≡ seen (get_or l.initial.links k d);
}

use Rattle.std.proofs.Common.{◌≡◌, ℕ, ◌<◌, ◌≤◌, length, get_or}
use Rattle.cmh_shared.specs.declared.link.Link.{Link}
use Rattle.cmh_shared.specs.Backlogs.{seen}
use Rattle.cmh_shared.specs.Links.{Tap, Through}
use Rattle.cmh_shared.proofs.links.reconcile_each.Given as goal

abbrev pub invariant-loop-at : goal.invariant-loop-at
invariant-loop-at g l = record {
  done : (k : ℕ) (d : Link g.row.F.Denot) (e : Tap g.row.F.Denot) → k < l.at → Through (seen (get_or l.initial.links.items k d)) (get_or l.initial.taps.items k e);
  count : length l.links.items ≡ length l.initial.links.items;
  count_taps : length l.taps.items ≡ length l.initial.taps.items;
  rest : (k : ℕ) (d : Link g.row.F.Denot) → l.at ≤ k → get_or l.links.items k d ≡ get_or l.initial.links.items k d;
  rest_taps : (k : ℕ) (d : Tap g.row.F.Denot) → l.at ≤ k → get_or l.taps.items k d ≡ get_or l.initial.taps.items k d;
}

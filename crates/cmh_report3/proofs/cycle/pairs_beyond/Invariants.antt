use Rattle.std.proofs.Common.{◌≡◌, ℕ, filter, not, take}
use Rattle.cmh_report3.specs.Inner.Pairs.{has_pair}
use Rattle.cmh_report3.proofs.cycle.pairs_beyond.Given as goal

abbrev pub invariant-loop-first : goal.invariant-loop-first
invariant-loop-first l = l.beyond.items ≡ filter (λ (pair : ℕ × ℕ). not (has_pair l.set pair.0 pair.1)) (take l.first-index l.pairs)

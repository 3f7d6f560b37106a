-- The other sites of a world, ascending.
use Rattle.std.proofs.Common.{ℕ, List, ◌==◌, not}
use Rattle.std.specs.List.Sorted.{IsStrictlyIncreasing}
use Rattle.std.proofs.lemmas.List.Kept.{IsStrictlyIncreasing-filter}
use Rattle.cmh_node3.specs.Peers.{others}

pub others_ascend : (s : ℕ) (sites : List ℕ) → IsStrictlyIncreasing sites → IsStrictlyIncreasing (others s sites)
others_ascend s sites rising = IsStrictlyIncreasing-filter (λ (x : ℕ). not (x == s)) sites rising

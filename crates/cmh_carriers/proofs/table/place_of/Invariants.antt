use Rattle.std.proofs.Common.{◌≢◌, ℕ, ◌<◌, get_or}
use Rattle.cmh_carriers.specs.declared.table.LinkState.{LinkState}
use Rattle.cmh_carriers.proofs.table.place_of.Given as goal

abbrev pub invariant-loop-i : goal.invariant-loop-i
invariant-loop-i l = (k : ℕ) (d : ℕ × LinkState) → k < l.i → (get_or l.rows k d).0 ≢ l.site

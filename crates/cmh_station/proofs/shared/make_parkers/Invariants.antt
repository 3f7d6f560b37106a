use Rattle.std.proofs.Common.{◌≡◌, vec_len}
use Rattle.cmh_station.proofs.shared.make_parkers.Given as goal

abbrev pub invariant-loop-tap : goal.invariant-loop-tap
invariant-loop-tap l = vec_len l.parkers ≡ l.tap-index

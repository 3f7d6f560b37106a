use Rattle.std.proofs.Common.{◌≡◌, ◌≤◌, ◌+◌, vec_len, vec_capacity, length}
use Rattle.cmh_station.proofs.shared.with_parkers.Given as goal

abbrev pub invariant-loop-tap : goal.invariant-loop-tap
invariant-loop-tap l = record {
  parkers : vec_len l.parkers + length l.yielded ≡ vec_len l.fn.taps;
  parking : vec_len l.parking ≡ length l.yielded;
  room : vec_len l.fn.taps ≤ vec_capacity l.parking;
  same : l.parking.items ≡ l.yielded;
}

use Rattle.std.proofs.Common.{◌≡◌, length, map, vec_len, vec_capacity}
use Rattle.cmh_links.specs.Threads.{leads_to, site_of}
use Rattle.cmh_links.proofs.threads.taps_of.Given as goal

abbrev pub invariant-loop-place : goal.invariant-loop-place
invariant-loop-place g l = record {
  can : (goal.iterator-loop-place g).can_next l.place-iterator;
  ends : (goal.iterator-loop-place g).is_finite l.place-iterator;
  count : vec_len l.taps ≡ length l.yielded;
  room : vec_capacity l.taps ≡ vec_capacity l.fn.room;
  sites : map site_of l.taps.items ≡ map leads_to l.yielded;
}

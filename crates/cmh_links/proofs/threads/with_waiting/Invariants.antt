use Rattle.std.proofs.Common.{◌≡◌, ◌+◌, ◌≤◌, ◌++◌, map, vec_len, vec_capacity}
use Rattle.std.specs.Prelude.{reverse}
use Rattle.cmh_links.specs.Threads.{site_of}
use Rattle.cmh_links.proofs.threads.with_waiting.Given as goal

abbrev pub invariant-loop-tap : goal.invariant-loop-tap
invariant-loop-tap l = record {
  room : vec_len l.taps + vec_len l.waiting ≤ vec_capacity l.taps;
  sites : map site_of l.taps.items ++ map site_of (reverse l.waiting.items) ≡ map site_of l.fn.taps.items ++ map site_of (reverse l.fn.waiting.items);
}

abbrev pub decreases-loop-tap : goal.decreases-loop-tap
decreases-loop-tap l = vec_len l.waiting

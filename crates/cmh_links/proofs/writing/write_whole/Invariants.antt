use Rattle.std.proofs.Common.{length, ◌-◌, ◌≡◌, ◌≤◌, take}
use Rattle.cmh_journal.specs.Sink.{known_and}
use Rattle.cmh_links.proofs.writing.write_whole.Given as goal

abbrev pub invariant-loop-at : goal.invariant-loop-at
invariant-loop-at g l = record {
  within : l.at ≤ length l.bytes;
  taken : g.O.Outgoing.taken l.out ≡ known_and (g.O.Outgoing.taken l.fn.out) (take l.at l.bytes);
  failures : g.O.Outgoing.failures l.out ≡ g.O.Outgoing.failures l.fn.out;
}

abbrev pub decreases-loop-at : goal.decreases-loop-at
decreases-loop-at g l = length l.bytes - l.at

use Rattle.std.proofs.Common.{◌≡◌, ℕ, List, None}
use Rattle.cmh_frames.specs.declared.frame.Frame.{Frame}
use Rattle.cmh_reader.specs.Reader.{ExpectsSame}
use Rattle.cmh_reader.specs.Stream.{fault_of}
use Rattle.cmh_journal.specs.Sink.{known_and}
use Rattle.cmh_links.specs.Reading.{Goes}
use Rattle.cmh_links.proofs.reading.run_reader.Given as goal

abbrev pub invariant-loop : goal.invariant-loop
invariant-loop g l = record {
  can : (goal.iterator-loop g).can_next l.iterator';
  ends : (goal.iterator-loop g).is_finite l.iterator';
  failures : g.I.Incoming.failures l.incoming ≡ g.I.Incoming.failures l.fn.incoming;
  bytes : List ℕ;
  given : g.I.Incoming.given l.incoming ≡ known_and (g.I.Incoming.given l.fn.incoming) bytes;
  frames : List Frame;
  goes : Goes bytes frames l.reader (g.H.Handover.accepted l.fn.handover) (g.H.Handover.accepted l.handover) (g.H.Handover.refused l.handover);
  no_fault : fault_of l.reader.standing ≡ None;
  kept : ExpectsSame l.fn.reader l.reader;
}

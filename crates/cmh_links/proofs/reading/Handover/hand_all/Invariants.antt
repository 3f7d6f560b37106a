use Rattle.std.proofs.Common.{◌≡◌, take}
use Rattle.cmh_journal.specs.Sink.{known_and}
use Rattle.cmh_links.specs.Reading.{from_site}
use Rattle.cmh_links.proofs.reading.Handover.hand_all.Given as goal

abbrev pub invariant-loop-frame : goal.invariant-loop-frame
invariant-loop-frame g l = record {
  told : g.Self.Handover.accepted l.self ≡ known_and (g.Self.Handover.accepted l.fn.self) (from_site l.from (take l.frame-index l.frames));
  refused : g.Self.Handover.refused l.self ≡ g.Self.Handover.refused l.fn.self;
}

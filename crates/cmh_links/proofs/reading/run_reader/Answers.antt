use Rattle.std.proofs.Common.{◌≡◌, ◌+◌, true, Ok, rules, [], ◌++◌, take, refl, sym, ap, ◌∙◌}
use Rattle.cmh_journal.specs.Sink.{known_and}
use Rattle.cmh_links.specs.Reading.{end_of}
use Rattle.cmh_carriers.specs.declared.table.LinkFault.TheVariants.{Read, Ended}
use Rattle.cmh_journal.proofs.Telling.{known_and_both, known_and_nothing}
use Rattle.cmh_links.proofs.Stopping.{fresh_goes, fresh_faultless, same_kept, stops_between}
use Rattle.cmh_links.proofs.reading.run_reader.Goals as goal

pub loop-init : goal.loop-init
loop-init g c = record {
  can = tt;
  ends = tt;
  failures = refl;
  bytes = [];
  given = sym (known_and_nothing (g.I.Incoming.given c.args.incoming.now));
  frames = [];
  goes = fresh_goes c.args.reader.now (g.H.Handover.accepted c.args.handover.now) (g.H.Handover.refused c.args.handover.now) c.requires.fresh c.requires.fed c.requires.willing;
  no_fault = fresh_faultless c.args.reader.now c.requires.fresh;
  kept = record { edition = refl; senders = refl };
}

pub returns-in-Some-take_whole-clause-stops : goal.returns-in-Some-take_whole-clause-stops
returns-in-Some-take_whole-clause-stops g c =
    let v = c.loop.invariant in
    let piece = take c.in-Ok.count c.read.new.buffer in (
      v.bytes ++ piece,
      c.in-Ok.ensures.given ∙ ap (λ o. known_and o piece) v.given ∙ known_and_both (g.I.Incoming.given c.args.incoming.now) v.bytes piece,
      c.in-Some-take_whole.ensures.stops v.bytes v.frames (g.H.Handover.accepted c.args.handover.now) v.goes
          (g.I.Incoming.is_over c.read.new.self) (g.I.Incoming.failures c.args.incoming.now) (g.I.Incoming.failures c.read.new.self),
    )

pub loop-preserved : goal.loop-preserved
loop-preserved g c =
    let v = c.loop.invariant in
    let piece = take c.in-Ok.count c.read.new.buffer in
    let w = c.in_default.ensures.goes v.bytes v.frames (g.H.Handover.accepted c.args.handover.now) v.goes in
    record {
      can = tt;
      ends = tt;
      failures = c.in-Ok.ensures.count ∙ v.failures;
      bytes = v.bytes ++ piece;
      given = c.in-Ok.ensures.given ∙ ap (λ o. known_and o piece) v.given ∙ known_and_both (g.I.Incoming.given c.args.incoming.now) v.bytes piece;
      frames = v.frames ++ w.0;
      goes = w.1;
      no_fault = w.2;
      kept = same_kept c.args.reader.now c.loop.reader c.take_whole.new.reader v.kept c.take_whole.ensures.kept;
    }

pub returns-in-Err-clause-stops : goal.returns-in-Err-clause-stops
returns-in-Err-clause-stops g c =
    let v = c.loop.invariant in
    let fails : g.I.Incoming.failures c.read.new.self ≡ g.I.Incoming.failures c.args.incoming.now + 1 = c.in-Err.ensures.count ∙ ap (λ n. n + 1) v.failures in (
      v.bytes,
      c.in-Err.ensures.none ∙ v.given,
      stops_between v.bytes v.frames c.loop.reader (g.H.Handover.accepted c.args.handover.now) (g.H.Handover.accepted c.loop.handover) (g.H.Handover.refused c.loop.handover)
          (g.I.Incoming.is_over c.read.new.self) (g.I.Incoming.failures c.args.incoming.now) (g.I.Incoming.failures c.read.new.self)
          c.closed.result Read v.goes (v.goes.fed, v.no_fault, fails) (c.closed.ensures ∙ ap (λ o. end_of o Read) c.sender.ensures),
    )

pub returns-then-count-eq0-clause-stops : goal.returns-then-count-eq0-clause-stops
returns-then-count-eq0-clause-stops g c =
    let v = c.loop.invariant in
    let over : g.I.Incoming.is_over c.read.new.self ≡ true = c.in-Ok.ensures.over (ap Ok c.if-count-eq0.true) (search rules) in (
      v.bytes,
      c.in-Ok.ensures.given ∙ ap (λ n. known_and (g.I.Incoming.given c.loop.incoming) (take n c.read.new.buffer)) c.if-count-eq0.true ∙ known_and_nothing (g.I.Incoming.given c.loop.incoming) ∙ v.given,
      stops_between v.bytes v.frames c.loop.reader (g.H.Handover.accepted c.args.handover.now) (g.H.Handover.accepted c.loop.handover) (g.H.Handover.refused c.loop.handover)
          (g.I.Incoming.is_over c.read.new.self) (g.I.Incoming.failures c.args.incoming.now) (g.I.Incoming.failures c.read.new.self)
          c.closed-then-count-eq0.result Ended v.goes (v.goes.fed, v.no_fault, over) (c.closed-then-count-eq0.ensures ∙ ap (λ o. end_of o Ended) c.sender-then-count-eq0.ensures),
    )

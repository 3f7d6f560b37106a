use Rattle.std.proofs.Common.{◌≡◌, Err, ap, sym, ◌∙◌, subst}
use Rattle.cmh_reader.specs.Stream.{sender_of}
use Rattle.cmh_journal.specs.Sink.{known_and}
use Rattle.cmh_frames.specs.Runs.{IsBeginningOf}
use Rattle.cmh_links.specs.declared.reading.ReaderEnd.TheVariants.{Closed}
use Rattle.cmh_links.specs.Reading.{FaultedBy, from_site}
use Rattle.cmh_links.proofs.Stopping.{goes_on, goes_unknown, stops_refused, stops_faulted, stops_unwilling}
use Rattle.cmh_links.proofs.reading.take_piece.Goals as goal

pub returns-in-Err-clause-stops : goal.returns-in-Err-clause-stops
returns-in-Err-clause-stops g c bs fs a goes over n m =
    let e = c.in-Err.ensures in
    let by = subst (λ o. FaultedBy c.in-Err.fault o (sender_of c.feed.new.self.standing) c.faulted.result) c.sender-before.ensures
    (subst (λ o. FaultedBy c.in-Err.fault c.sender-before.result o c.faulted.result) c.sender.ensures c.faulted.ensures) in
    stops_faulted bs c.args.piece.now fs c.args.reader.now c.feed.new.self a (g.H.Handover.accepted c.args.handover.now) (g.H.Handover.refused c.args.handover.now)
    c.faulted.result c.in-Err.fault over n m goes e.fault e.no_frames e.kept (λ other. e.fed (λ x. other (cc))) (λ x. e.memory (ap Err x)) (λ x. e.wanted (ap Err x) bs fs goes.stands) by

pub returns-in-None-clause-goes : goal.returns-in-None-clause-goes
returns-in-None-clause-goes g c bs fs a goes =
    let e = c.in-Ok.ensures in (
      c.in-Ok.frames.items,
      goes_unknown bs c.args.piece.now fs c.in-Ok.frames.items c.args.reader.now c.feed.new.self a (g.H.Handover.accepted c.args.handover.now) (g.H.Handover.refused c.args.handover.now)
          goes e.frames e.kept (e.fed (λ x. cc)) (sym c.sender-2.ensures ∙ c.in-None.is),
      e.no_fault,
    )

pub returns-then-not-is_claimed-clause-stops : goal.returns-then-not-is_claimed-clause-stops
returns-then-not-is_claimed-clause-stops g c bs fs a goes over n m =
    let e = c.in-Ok.ensures in
    stops_refused bs c.args.piece.now fs c.in-Ok.frames.items c.args.reader.now c.feed.new.self a (g.H.Handover.accepted c.args.handover.now) (g.H.Handover.refused c.args.handover.now) c.in-Some.site over n m
    goes e.frames e.kept (e.fed (λ x. cc)) (sym c.sender-before.ensures ∙ c.is_claimed.ensures c.if-not-is_claimed.true) (sym c.sender-2.ensures ∙ c.in-Some.is)

pub returns-in-Ok-hand_all-clause-goes : goal.returns-in-Ok-hand_all-clause-goes
returns-in-Ok-hand_all-clause-goes g c bs fs a goes =
    let e = c.in-Ok.ensures in
    let h = c.in-Ok-hand_all.ensures in (
      c.in-Ok.frames.items,
      goes_on bs c.args.piece.now fs c.in-Ok.frames.items c.args.reader.now c.feed.new.self a (g.H.Handover.accepted c.args.handover.now) (g.H.Handover.accepted c.hand_all.new.self)
          (g.H.Handover.refused c.args.handover.now) (g.H.Handover.refused c.hand_all.new.self) c.in-Some.site goes e.frames e.kept (e.fed (λ x. cc)) (sym c.sender-2.ensures ∙ c.in-Some.is)
          (subst (λ fs. g.H.Handover.accepted c.hand_all.new.self ≡ known_and (g.H.Handover.accepted c.args.handover.now) (from_site c.in-Some.site fs)) c.as_slice.ensures.value h.ok) h.last,
      e.no_fault,
    )

pub returns-clause-stops : goal.returns-clause-stops
returns-clause-stops g c bs fs a goes over n m =
    let e = c.in-Ok.ensures in
    let h = c.in-Err-hand_all.ensures in
    stops_unwilling bs c.args.piece.now fs c.in-Ok.frames.items h.part.0 c.args.reader.now c.feed.new.self a (g.H.Handover.accepted c.args.handover.now) (g.H.Handover.accepted c.hand_all.new.self)
    (g.H.Handover.refused c.args.handover.now) (g.H.Handover.refused c.hand_all.new.self) c.in-Some.site c.in-Err-hand_all.refusal c.closed.result over n m
    goes e.frames e.kept (e.fed (λ x. cc)) (sym c.sender-2.ensures ∙ c.in-Some.is) h.part.2 (subst (IsBeginningOf h.part.0) c.as_slice.ensures.value h.part.1) h.last (c.closed.ensures ∙ ap (Closed c.in-Some.site) c.fault_of.ensures)

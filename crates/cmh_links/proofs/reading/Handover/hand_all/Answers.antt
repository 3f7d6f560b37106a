use Rattle.cmh_links.proofs.Batches.{HandedPart, handed_some, on_err}
use Rattle.cmh_links.proofs.reading.Handover.hand_all.Goals as goal

pub returns-in_err-hand-clause-part : goal.returns-in_err-hand-clause-part
returns-in_err-hand-clause-part g c =
    let accepted = g.Self.Handover.accepted in
    on_err c.from_residual.result (HandedPart c.args.from c.args.frames.now (accepted c.args.self.now) (accepted c.hand.new.self))
    (handed_some c.args.from c.loop-frame.frame-index c.args.frames.now (accepted c.args.self.now) (accepted c.loop-frame.self) (accepted c.hand.new.self)
    c.loop-frame.invariant.told c.in_err-hand.ensures.none)

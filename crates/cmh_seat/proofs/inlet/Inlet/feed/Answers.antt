use Rattle.std.proofs.Common.{◌≡◌, ◌+◌, ◌≤◌, Err, List, length, ap, arith}
use Rattle.cmh_frames.specs.Wire.{spelled}
use Rattle.cmh_frames.specs.declared.frame.Frame.{Frame}
use Rattle.cmh_seat.proofs.Given.{fed_fault, fed_on, gave, gave_nothing, room_for}
use Rattle.cmh_seat.proofs.inlet.Inlet.feed.Goals as goal

pub put_frames-requires : goal.put_frames-requires
put_frames-requires c =
    let all = c.in-Ok.ensures in
    let given = c.in-Ok.frames.items in
    let most : length (spelled given) ≤ length c.args.piece.now + 6 =
    room_for c.in-Ok.frames c.self.inside.reader c.feed.new.self c.args.piece.now given c.self.invariant all.frames all.stays in
    let shown : length (spelled c.deref.result.now) ≡ length (spelled given) = ap (λ (fs : List Frame). length (spelled fs)) c.deref.ensures.value in
    omega (arith, most, shown, c.if-out-piece.false, c.if-out-piece-lt-FRAME_LEFT.false)

pub invariant_of-self-2 : goal.invariant_of-self-2
invariant_of-self-2 c = fed_on c.self.inside.reader c.feed.new.self c.args.piece.now c.in-Ok.frames.items c.self.invariant c.in-Ok.ensures.frames

pub invariant_of-self : goal.invariant_of-self
invariant_of-self c =
    let all = c.in-Err.ensures in
    fed_fault c.self.inside.reader c.feed.new.self c.args.piece.now c.in-Err.fault c.self.invariant all.no_frames (λ e. all.memory (ap Err e))

pub returns-clause-gave : goal.returns-clause-gave
returns-clause-gave c =
    let all = c.in-Ok.ensures in
    gave c.self.inside.reader c.args.self.now c.feed.new.self c.args.piece.now c.args.out.now c.put_frames.new.out c.put_frames.result
    c.in-Ok.frames.items c.deref.result.now c.self.view_is c.deref.ensures.value all.frames all.no_fault all.kept all.link c.put_frames.ensures.bytes c.put_frames.ensures.count

pub returns-in-Err-clause-fault : goal.returns-in-Err-clause-fault
returns-in-Err-clause-fault c =
    let all = c.in-Err.ensures in
    gave_nothing c.self.inside.reader c.args.self.now c.feed.new.self c.args.piece.now (length c.args.out.now) c.in-Err.fault c.self.view_is
    all.fault all.no_frames all.kept (λ e. all.memory (ap Err e)) (λ e. all.wanted (ap Err e))

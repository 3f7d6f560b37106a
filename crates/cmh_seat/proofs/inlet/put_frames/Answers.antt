use Rattle.std.proofs.Common.{◌≡◌, ◌+◌, ◌-◌, ◌++◌, length, drop, take, ap, ◌∙◌, arith}
use borrow.Rule.Slice.PartMut.{put_mid}
use Rattle.cmh_frames.specs.Wire.{spelled, spelling}
use Rattle.cmh_seat.proofs.Puts.{put_next, spelled_next}
use Rattle.cmh_seat.proofs.inlet.put_frames.Goals as goal

pub loop-frame-preserved : goal.loop-frame-preserved
loop-frame-preserved c =
    let at = c.loop-frame.at in
    let i = c.loop-frame.frame-index in
    let bytes = spelling c.frame-item.result in
    let copied : c.copy_from_slice.new.self ≡ bytes = c.copy_from_slice.ensures.after ∙ c.as_slice.ensures.value ∙ c.encode-bytes.ensures in
    let len : c.len.result ≡ length bytes = c.len.ensures ∙ ap length c.encode-bytes.ensures in
    let so_many : at + c.len.result - at ≡ c.len.result = omega arith in
    put_next c.args.out.now (spelled c.args.frames.now) c.loop-frame.out at c.len.result (spelled (drop i c.args.frames.now)) bytes
    (spelled (drop (i + 1) c.args.frames.now)) (put_mid at (at + c.len.result - at) c.loop-frame.out c.copy_from_slice.new.self)
    c.loop-frame.invariant (spelled_next c.args.frames.now i c.frame-item.result c.loop-frame-test.true c.frame-item.is) len
    (ap (λ ys. take at c.loop-frame.out ++ (ys ++ drop (at + c.len.result - at) (drop at c.loop-frame.out))) copied
    ∙ ap (λ n. take at c.loop-frame.out ++ (bytes ++ drop n (drop at c.loop-frame.out))) so_many)

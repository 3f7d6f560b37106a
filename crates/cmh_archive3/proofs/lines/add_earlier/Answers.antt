use Rattle.std.proofs.Common.{◌-◌, Vec, length, ap, arith, ◌∙◌}
use Rattle.std.proofs.lemmas.List.{length-drop}
use Rattle.std.specs.Global.{Global}
use Rattle.cmh_archive3.specs.declared.lines.SegmentLine.{SegmentLine}
use Rattle.cmh_archive3.proofs.Lists.{lines_more}
use Rattle.cmh_archive3.proofs.lines.add_earlier.Goals as goal
use Rattle.cmh_archive3.proofs.lines.add_earlier.Goals.{in-Some+in_ok-push, in_default}

pub loop-at-preserved : goal.loop-at-preserved
loop-at-preserved c = elim c.match-split_first.branch [
  | in-Some+in_ok-push w ↦
      lines_more c.args.lines.now.items c.loop-at.lines.items c.match-split_first.lines.items c.args.newest.now c.args.earlier.now c.split_at.result.1.now
      w.in-Some.before.now w.in-Some.segment.now c.loop-at.at w.line_of.result
      c.loop-at.invariant (ap (λ (lines : Vec SegmentLine Global). lines.items) w.lines-is ∙ w.in_ok-push.ensures.items) w.line_of.ensures
      c.loop-at-test.true c.split_at.ensures.back w.in-Some.ensures.cases.0
  | in_default w ↦
      let none = w.in_default.ensures.cases in
      let n = ap length c.split_at.ensures.back ∙ length-drop (length c.args.earlier.now - 1 - c.loop-at.at) c.args.earlier.now in
      let inside = c.loop-at-test.true in
      absurd (omega (arith, none, n, inside))
]

use Rattle.std.proofs.Common.{List, Option, Vec, map, rules}
use Rattle.std.specs.Global.{Global}
use Rattle.std.proofs.Output.{has_written_append, has_written_of_eq, has_written_to_eq}
use Rattle.cmh_page.specs.declared.fate.Fate.{Fate}
use Rattle.cmh_page.proofs.MomentLemmas.{moment_more, moment_none}
use Rattle.cmh_page.proofs.moment.MomentsDisplay.fmt.Goals as goal
use Rattle.cmh_page.proofs.moment.MomentsDisplay.fmt.Goals.{in-Some+in_ok-write, in_default}

pub loop-step-preserved : goal.loop-step-preserved
loop-step-preserved g c = λ plain.
    let journals = c.args.self.now.journals.now in
    let fates : List (List (Option Fate)) = map (λ (row : Vec (Option Fate) Global). row.items) c.args.self.now.fates.now in
    let steps = c.args.self.now.steps.now in
    let so_far = c.loop-step.invariant plain in
    elim c.match-moment_of.branch [
      | in-Some+in_ok-write w ↦
          let m = w.in-Some.moment in
          let written = w.write.ensures.writes so_far.plain (search rules) in
          has_written_of_eq _ _ _ _ _
          (moment_more journals fates steps c.loop-step.step-index _ c.loop-step-test.true m.site m.number m.entry.now m.fate
          w.in-Some.ensures.0 w.in-Some.ensures.1 w.in-Some.ensures.2)
          (has_written_to_eq _ _ _ _ _ w.f-is (has_written_append _ _ _ _ _ _ so_far written))
      | in_default w ↦
          has_written_of_eq _ _ _ _ _
          (moment_none journals fates steps c.loop-step.step-index _ c.loop-step-test.true w.in_default.ensures)
          (has_written_to_eq _ _ _ _ _ w.f-is so_far)
    ]

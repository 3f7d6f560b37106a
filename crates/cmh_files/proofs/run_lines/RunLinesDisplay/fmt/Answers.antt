use Rattle.std.proofs.Common.{rules}
use Rattle.std.proofs.Output.{has_written_append, has_written_of_eq, has_written_to_eq}
use Rattle.cmh_files.proofs.RunLemmas.{line_more, line_none}
use Rattle.cmh_files.proofs.run_lines.RunLinesDisplay.fmt.Goals as goal
use Rattle.cmh_files.proofs.run_lines.RunLinesDisplay.fmt.Goals.{in-Some+in_ok-write, in_default}

pub loop-step-preserved : goal.loop-step-preserved
loop-step-preserved g c = λ plain.
    let journals = c.args.self.now.journals.now in
    let steps = c.args.self.now.steps.now in
    let so_far = c.loop-step.invariant plain in
    elim c.match-line_of.branch [
      | in-Some+in_ok-write w ↦
          let line = w.in-Some.line in
          let written = w.write.ensures.writes so_far.plain (search rules) in
          has_written_of_eq _ _ _ _ _
          (line_more journals steps c.loop-step.step-index _ c.loop-step-test.true line.site line.number line.entry.now w.in-Some.ensures.0 w.in-Some.ensures.1)
          (has_written_to_eq _ _ _ _ _ w.f-is (has_written_append _ _ _ _ _ _ so_far written))
      | in_default w ↦
          has_written_of_eq _ _ _ _ _
          (line_none journals steps c.loop-step.step-index _ c.loop-step-test.true w.in_default.ensures)
          (has_written_to_eq _ _ _ _ _ w.f-is so_far)
    ]

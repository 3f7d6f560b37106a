use Rattle.std.proofs.Common.{rules, ◌≡◌, ◌<◌, ℕ, List, ◌++◌, None, Some, length, take, get_or, codes, subst, sym, ap, ◌∙◌, append-nil}
use Rattle.std.specs.Fmt.{decimal}
use Rattle.std.proofs.Output.{has_written_append, has_written_of_eq, has_written_to_eq}
use Rattle.std.specs.List.{flat_map}
use Rattle.cmh_audit.specs.Reports.{cycle_of}
use Rattle.cmh_frames.specs.Texts.{processes_text}
use Rattle.cmh_files.specs.AuditTexts.{deadlock_text}
use Rattle.cmh_frames.proofs.ListLemmas.{joined_five, texts_written}
use Rattle.cmh_files.proofs.audit_text.DeadlocksDisplay.fmt.Goals as goal
use Rattle.cmh_files.proofs.audit_text.DeadlocksDisplay.fmt.Goals.{in-Some+in_ok-write, in_default}

pub loop-process-preserved : goal.loop-process-preserved
loop-process-preserved g c = λ plain.
    let report = c.args.self.now.report.now in
    let process = c.process-item.result in
    let text : ℕ → List ℕ = λ p. deadlock_text p (cycle_of report p) in
    let is = c.declared-process-items.ensures in
    let step = texts_written text report.declared c.loop-process.process-index process
    (subst (λ (l : List ℕ). c.loop-process.process-index < length l) is c.loop-process-test.true)
    (c.process-item.is ∙ ap (λ (l : List ℕ). get_or l c.loop-process.process-index process) is) in
    let so_far = c.loop-process.invariant plain in
    elim c.match-cycle.branch [
      | in-Some+in_ok-write w ↦
          let found : cycle_of report process ≡ Some w.in-Some.members.now = w.in-Some.ensures.some in
          let line = has_written_of_eq _ _ _ _ _
          (joined_five (codes "declared ") (decimal process) (codes " cycle") (processes_text w.in-Some.members.now) (codes "\n") ∙ ap (deadlock_text process) (sym found))
          (w.write.ensures.writes so_far.plain (search rules)) in
          has_written_of_eq _ _ _ _ _ step (has_written_to_eq _ _ _ _ _ w.f-is (has_written_append _ _ _ _ _ _ so_far line))
      | in_default w ↦
          let none : cycle_of report process ≡ None = search rules in
          has_written_of_eq _ _ _ _ _
          (sym (append-nil (flat_map text (take c.loop-process.process-index report.declared)))
          ∙ ap (λ (l : List ℕ). flat_map text (take c.loop-process.process-index report.declared) ++ l) (ap (deadlock_text process) (sym none)) ∙ step)
          (has_written_to_eq _ _ _ _ _ w.f-is so_far)
    ]

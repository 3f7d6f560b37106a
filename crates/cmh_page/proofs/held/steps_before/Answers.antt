use Rattle.std.proofs.Common.{ℕ, List, ◌++◌, length, take, ap, ◌∙◌}
use Rattle.cmh_audit.specs.declared.step.Step.{Step}
use Rattle.cmh_files.specs.Reasons.{held_before}
use Rattle.cmh_page.specs.Held.{first_steps, steps_before}
use Rattle.cmh_page.proofs.HeldLemmas.{steps_more}
use Rattle.cmh_page.proofs.held.steps_before.Goals as goal

pub loop-place-preserved : goal.loop-place-preserved
loop-place-preserved c =
    let stops = c.args.stops.now in
    let journals = c.args.journals.now in
    let place = c.loop-place.place in
    let counted = ap length c.entries_before-entries.ensures ∙ ap (λ (s : ℕ). length (held_before journals stops s)) c.site.ensures in
    c.in_ok-push_steps.ensures
    ∙ ap (λ (l : List Step). l ++ first_steps place (length c.entries_before-entries.result.now)) c.loop-place.invariant
    ∙ ap (λ (n : ℕ). steps_before stops journals 0 (take place journals) ++ first_steps place n) counted
    ∙ steps_more stops journals journals place c.index-journals-place.result c.loop-place-test.true c.index-journals-place.is

use Rattle.std.proofs.Common.{◌≡◌, true, true≢false, List, inl, inr, sym, subst, ◌∙◌, take_all}
use Rattle.std.specs.List.{list_any}
use Rattle.std.proofs.lemmas.Bool.{or_cases}
use Rattle.std.proofs.lemmas.List.Folds.{list_any_more}
use Rattle.cmh_segment3.specs.declared.segment.Segment.{Segment}
use Rattle.cmh_history3.specs.Epochs.{begins, IsClosed}
use Rattle.std.specs.List.{All}
use Rattle.cmh_history3.proofs.Taking.{begins_first, begins_none}
use Rattle.cmh_history3.proofs.epochs.next_closed.Goals as goal
use Rattle.cmh_history3.proofs.epochs.next_closed.Goals.{in-Some+else-have_closed, in_default}

pub loop-journal-preserved : goal.loop-journal-preserved
loop-journal-preserved c epoch any all =
    let js = c.args.journals.now in
    let i = c.loop-journal.journal-index in
    let item = c.journal-item.result in
    elim (or_cases _ _ (sym (list_any_more (begins epoch) js i item c.loop-journal-test.true) ∙ any)) [
      | inl earlier ↦ c.loop-journal.invariant epoch earlier all
      | inr here ↦
          let now = subst (λ (q : List Segment). begins epoch q ≡ true) (sym c.journal-item.is) here in
          elim c.match-next_epoch.branch [
            | in-Some+else-have_closed w ↦
                let same = begins_first item epoch w.in-Some.epoch (sym c.next_epoch.ensures ∙ w.in-Some.is) now in
                true≢false (sym (w.have_closed.ensures.1 (subst (λ e. All (IsClosed e) js) (sym same) all)) ∙ w.if-have_closed.false)
            | in_default w ↦ begins_none item epoch (sym c.next_epoch.ensures ∙ w.in_default.is) now
          ]
    ]

pub returns : goal.returns
returns c epoch any all =
    c.loop-journal.invariant epoch
    (subst (λ (l : List (List Segment)). list_any (begins epoch) l ≡ true) (sym (take_all c.loop-journal.journal-index c.args.journals.now c.loop-journal-test.false)) any) all

use Rattle.std.proofs.Common.{◌≡◌, ◌+◌, min, ap, subst, sym, ◌∙◌, take, take_all}
use Rattle.std.specs.List.{All}
use Rattle.std.proofs.Math.Nat.{min-le_left}
use Rattle.std.proofs.lemmas.List.Elements.{All-more}
use Rattle.cmh_history3.specs.Epochs.{IsNotBefore}
use Rattle.cmh_history3.proofs.Taking.{all_lower, lower, lowered, none_before}
use Rattle.cmh_history3.proofs.epochs.least_epoch.Goals as goal
use Rattle.cmh_history3.proofs.epochs.least_epoch.Goals.{in-Some, in_default}

pub loop-journal-preserved : goal.loop-journal-preserved
loop-journal-preserved c =
    let js = c.args.journals.now in
    let i = c.loop-journal.journal-index in
    let item = c.journal-item.result in
    let least = c.loop-journal.least in
    elim c.match-next_epoch.branch [
      | in-Some w ↦
          let n = w.in-Some.epoch in
          let is : c.match-next_epoch.least ≡ min least n = w.least-is ∙ w.min-least.ensures ∙ ap (min least) w.get.ensures in
          subst (λ m. All (IsNotBefore m) (take (i + 1) js)) (sym is)
          (All-more (IsNotBefore (min least n)) js i item c.loop-journal-test.true
          (all_lower (IsNotBefore least) (IsNotBefore (min least n)) (take i js) (lower (min least n) least (min-le_left least n)) c.loop-journal.invariant)
          (subst (IsNotBefore (min least n)) c.journal-item.is (lowered least n item (sym c.next_epoch.ensures ∙ w.in-Some.is))))
      | in_default w ↦
          subst (λ m. All (IsNotBefore m) (take (i + 1) js)) (sym w.least-is)
          (All-more (IsNotBefore least) js i item c.loop-journal-test.true c.loop-journal.invariant
          (subst (IsNotBefore least) c.journal-item.is (none_before least item (sym c.next_epoch.ensures ∙ w.in_default.is))))
    ]

pub returns : goal.returns
returns c =
    subst (λ m. All (IsNotBefore m) c.args.journals.now) (sym c.new.ensures)
    (subst (All (IsNotBefore c.loop-journal.least)) (take_all c.loop-journal.journal-index c.args.journals.now c.loop-journal-test.false) c.loop-journal.invariant)

use Rattle.std.proofs.Common.{◌≡◌, ◌<◌, true, List, sym, subst}
use Rattle.std.specs.List.{All, list_any}
use Rattle.cmh_segment3.specs.declared.segment.Segment.{Segment}
use Rattle.cmh_history3.specs.Epochs.{AreEpochs, IsClosed, IsNotBefore, begins}
use Rattle.cmh_history3.specs.Inner.Taking.{NoneClosed}
use Rattle.cmh_history3.proofs.Taking.{SoFar, are_epochs, fewer, one_more, total}
use Rattle.cmh_history3.proofs.epochs.epochs_of.Goals as goal

pub loop-epoch-smaller : goal.loop-epoch-smaller
loop-epoch-smaller c =
    let left = c.loop-epoch.left.items in
    let e = c.in-Some.epoch in
    let any = subst (λ (l : List (List Segment)). list_any (begins e) l ≡ true) c.deref.ensures.value c.in-Some.ensures.0 in
    subst (λ (l : List (List Segment)). total l < total left) (sym c.in_ok-take_epoch.ensures.rest) (fewer e left any)

pub loop-epoch-preserved : goal.loop-epoch-preserved
loop-epoch-preserved c =
    let e = c.in-Some.epoch in
    let all = subst (λ (l : List (List Segment)). All (IsClosed e) l) c.deref.ensures.value c.in-Some.ensures.1 in
    subst (λ (l : List (List Segment)). SoFar c.args.journals.items l c.take_epoch.new.journals.items) (sym c.in_ok-push.ensures.items)
    (one_more c.args.journals.items c.loop-epoch.epochs.items c.loop-epoch.left.items c.take_epoch.new.journals.items e c.in_ok-take_epoch.field-0 c.loop-epoch.invariant all c.in_ok-take_epoch.ensures.taken c.in_ok-take_epoch.ensures.rest)

pub returns : goal.returns
returns c =
    let left = c.loop-epoch.left.items in
    let row = c.in_ok-take_rest.field-0 in
    let last = c.least_epoch-last.result in
    let none = subst NoneClosed c.deref.ensures.value c.in_default.ensures in
    let next = subst (λ (l : List (List Segment)). All (IsNotBefore last) l) c.deref-2.ensures.value c.least_epoch-last.ensures in
    subst (AreEpochs c.args.journals.items) (sym c.in_ok-push-2.ensures.items)
    (are_epochs c.args.journals.items c.loop-epoch.epochs.items left last row c.loop-epoch.invariant none next c.in_ok-take_rest.ensures)

use Rattle.std.proofs.Common.{List, [], sym, subst, refl}
use Rattle.std.proofs.lemmas.Result.{IfOk-weaker}
use Rattle.cmh_segment3.specs.declared.segment.Segment.{Segment}
use Rattle.cmh_audit3.specs.Journals.{ComeFromRun, journal_of}
use Rattle.cmh_audit3.specs.Stops.{AreStops}
use Rattle.cmh_audit3.specs.declared.stops.Stop.{Stop}
use Rattle.cmh_inputs.proofs.Furthest.{found_between, none_most}
use Rattle.cmh_inputs.proofs.span.taken_between.Goals as goal

pub returns-in-Accepted : goal.returns-in-Accepted
returns-in-Accepted c =
    let t = c.args.topology.now in
    let before = c.args.read.now.before.items in
    let gs = c.args.read.now.segments.items in
    let accepted = rw c.in-Accepted.is at c.in-Ok.ensures.accepted in
    let comes : ComeFromRun t (journal_of gs) = subst (λ (l : List Segment). ComeFromRun t (journal_of l)) c.deref.ensures.value (accepted.0 refl) in
    IfOk-weaker c.taken_before.result _ _ (λ o found. found_between t before gs [] c.requires.set (none_most t gs) comes o found) c.taken_before.ensures

pub returns : goal.returns
returns c =
    let t = c.args.topology.now in
    let before = c.args.read.now.before.items in
    let gs = c.args.read.now.segments.items in
    let stops = c.as_slice.result.now in
    let refused = rw c.in-Refused.is at c.in-Ok.ensures.stops in
    let are : AreStops t gs stops = subst (λ (l : List Stop). AreStops t gs l) (sym c.as_slice.ensures) (subst (λ (l : List Segment). AreStops t l c.in-Refused.stops) c.deref.ensures.value refused) in
    IfOk-weaker c.taken_before-in-Refused.result _ _ (λ o found. found_between t before gs stops c.requires.set are.most are.comes o found) c.taken_before-in-Refused.ensures

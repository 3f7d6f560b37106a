use Rattle.std.proofs.Common.{◌<◌, ◌++◌, List, Vec, length, sym, ap, ◌∙◌, append-nil, arith}
use Rattle.std.specs.Global.{Global}
use Rattle.std.specs.Option.{option_to_list}
use Rattle.cmh_segment3.specs.declared.segment.Segment.{Segment}
use Rattle.cmh_history3.specs.Epochs.{behind, standing}
use Rattle.cmh_history3.proofs.Taking.{count_more, done_more, left_more, taken_more}
use Rattle.cmh_history3.proofs.epochs.take_epoch.Goals as goal
use Rattle.cmh_history3.proofs.epochs.take_epoch.Goals.{in-Some+in_ok-push, in_default}

pub loop-i-preserved : goal.loop-i-preserved
loop-i-preserved c =
    let e = c.args.epoch in
    let old = c.args.journals.now.items in
    let js = c.loop-i.journals.items in
    let i = c.loop-i.i in
    let item = c.index_mut.result.now in
    let new = c.take.new.self in
    let test = c.loop-i-test.true in
    let ok = c.args.journals.now.ok.0 in
    let inside : i < length old = omega (arith, test, ok) in
    let inv = c.loop-i.invariant in
    let items_of : Vec Segment Global → List Segment = λ v. v.items in
    record {
      count = count_more (standing e) old js i item new inside inv.count c.index_mut.ensures.value inv.left;
      done = done_more (standing e) old js i item new inside inv.count c.index_mut.ensures.value inv.left (behind e) inv.done c.in_ok-segment.ensures.rest;
      left = left_more (standing e) old js i item new inside inv.count c.index_mut.ensures.value inv.left;
      taken = taken_more (standing e) old js i item new inside inv.count c.index_mut.ensures.value inv.left c.loop-i.segments.items c.match-branch-2.segments.items inv.taken
          (elim c.match-branch-2.branch [
            | in-Some+in_ok-push w ↦ ap items_of w.segments-is ∙ w.in_ok-push.ensures.items ∙ ap (λ l. c.loop-i.segments.items ++ l) (ap option_to_list (sym w.in-Some.is) ∙ c.in_ok-segment.ensures.taken)
            | in_default w ↦ ap items_of w.segments-is ∙ sym (append-nil c.loop-i.segments.items) ∙ ap (λ l. c.loop-i.segments.items ++ l) (ap option_to_list (sym w.in_default.is) ∙ c.in_ok-segment.ensures.taken)
          ]);
    }

use Rattle.std.proofs.Common.{◌≡◌, ◌++◌, ◌∙◌, [], ◌∷◌, true, false, get_or, refl, ap, arith}
use Rattle.std.proofs.lemmas.List.{get_or_default, take_all}
use Rattle.cmh_controller3.specs.Controller.{state_of}
use Rattle.cmh_segment3.specs.States.{stamped_where}
use Rattle.cmh_bases3.proofs.BaseRows.{stamped, stamps_more, stamps_of_all, unstamped}
use Rattle.cmh_bases3.specs.Inner.Rows.{has_asked}
use Rattle.cmh_bases3.proofs.stamped.stamp_rows.Goals as goal
use Rattle.cmh_bases3.proofs.stamped.stamp_rows.Goals.{then-get-ne0+in_ok-push, else-get-ne0}

pub loop-process-preserved : goal.loop-process-preserved
loop-process-preserved c =
    let v = state_of c.args.controller.now in
    let ms = c.members-process-items.result.now in
    let i = c.loop-process.process-index in
    let a = c.process-item.result in
    let inside = c.loop-process-test.true in
    let is : a ≡ get_or ms i 0 = c.process-item.is ∙ get_or_default ms i a 0 inside in
    let stamp : c.stamp_of-stamp.result ≡ v.stamp a = c.stamp_of-stamp.ensures in
    let got : c.get.result ≡ v.stamp a = c.get.ensures ∙ stamp in
    elim c.if-get-ne0.branch [
      | then-get-ne0+in_ok-push w ↦
          stamps_more (has_asked v) v.stamp ms i a c.loop-process.rows.items c.if-get-ne0.rows.items true inside is (stamped c.get.result (v.stamp a) got w.if-get-ne0.true) c.loop-process.invariant
          (rw w.rows-is (w.in_ok-push.ensures.items ∙ (λ t. c.loop-process.rows.items ++ record { process = a; stamp = stamp t } ∷ [])))
      | else-get-ne0 w ↦
          stamps_more (has_asked v) v.stamp ms i a c.loop-process.rows.items c.if-get-ne0.rows.items false inside is (unstamped c.get.result (v.stamp a) got w.if-get-ne0.false) c.loop-process.invariant
          (rw w.rows-is refl)
    ]

pub returns : goal.returns
returns c =
    let v = state_of c.args.controller.now in
    let ms = c.members-process-items.result.now in
    let told = c.members-process-items.ensures in
    c.new.ensures ∙ c.loop-process.invariant ∙ ap (stamped_where (has_asked v) v.stamp) (take_all c.loop-process.process-index ms (omega arith))
    ∙ stamps_of_all c.args.controller.now told.facts ms told.at_home told.ascending

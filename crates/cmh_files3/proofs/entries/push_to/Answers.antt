use Rattle.std.proofs.Common.{◌++◌, ◌∷◌, [], ◌==◌, List, Vec, take, sym, ap, ◌∙◌}
use Rattle.std.specs.Global.{Global}
use Rattle.cmh_model3.specs.declared.frame.Message.{Message}
use Rattle.cmh_model3.specs.Journals.{frames_to}
use Rattle.cmh_files3.proofs.TurnLemmas.{messages_next, more_if, none_if}
use Rattle.cmh_files3.proofs.entries.push_to.Goals as goal
use Rattle.cmh_files3.proofs.entries.push_to.Goals.{then-eq+in_ok-push, else-eq}

pub loop-site-preserved : goal.loop-site-preserved
loop-site-preserved c =
    let item = c.loop-site-item.result in
    let items_of : Vec Message Global → List Message = λ v. v.items in
    let next = messages_next c.args.to c.args.sent.now c.loop-site.site-index item c.loop-site-test.true c.loop-site-item.is in
    let so_far = frames_to c.args.to (take c.loop-site.site-index c.args.sent.now) in
    elim c.if-eq.branch [
      | then-eq+in_ok-push w ↦
          ap items_of w.messages-is ∙ w.in_ok-push.ensures.items ∙ ap (λ (l : List Message). l ++ item.1 ∷ []) c.loop-site.invariant
          ∙ more_if (item.0 == c.args.to) item.1 so_far c.args.messages.now.items _ (sym c.eq.ensures ∙ w.if-eq.true) next
      | else-eq w ↦
          ap items_of w.messages-is ∙ c.loop-site.invariant
          ∙ none_if (item.0 == c.args.to) item.1 so_far c.args.messages.now.items _ (sym c.eq.ensures ∙ w.if-eq.false) next
    ]

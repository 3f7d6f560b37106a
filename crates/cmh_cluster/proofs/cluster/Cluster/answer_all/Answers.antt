use Rattle.std.proofs.Common.{inr, refl, subst, ◌∙◌}
use Rattle.cmh_console.specs.declared.dialogue.DialogueFault.TheVariants.{Input}
use Rattle.cmh_console.proofs.Dialogues.{begun, endless_talk, read_err, talked_all, talked_err, talked_fault_err, talked_more, talked_some, talked_to_end}
use Rattle.cmh_console.specs.Dialogue.{HasAnswered, line_of}
use Rattle.cmh_cluster.proofs.cluster.Cluster.answer_all.Goals as goal
use Rattle.cmh_cluster.specs.ClusterTalk.{IsTurnOfCluster}

pub loop-turn-init : goal.loop-turn-init
loop-turn-init g c = (begun _ _ tt _ _, refl)

pub loop-turn-preserved : goal.loop-turn-preserved
loop-turn-preserved g c = (
  talked_more _ _ _ _ _ _ _ tt c.loop-turn.turn c.loop-turn.invariant.0 _ _ c.in_ok-next.next
      tt c.in_ok-flow.flow c.in_ok-next.ensures.line c.in_ok-next.ensures.rest (c.is_end.ensures.no c.if-is_end.false) c.in-Awaits.is
      (subst (λ t. HasAnswered (λ said text. IsTurnOfCluster t.now tt tt said text c.in_ok-flow.flow) (line_of c.in_ok-next.next) c.loop-turn.out.written c.answer.new.out.written) c.loop-turn.invariant.1 c.in_ok-flow.ensures.answers),
  c.in_ok-flow.ensures.topology ∙ c.loop-turn.invariant.1,
)

pub returns-in-Ends-clause-answers : goal.returns-in-Ends-clause-answers
returns-in-Ends-clause-answers g c =
    talked_to_end _ _ _ _ _ _ _ tt c.loop-turn.turn c.loop-turn.invariant.0 _ c.in_ok-next.next tt c.in_ok-flow.flow
    _ c.in_ok-next.ensures.line (c.is_end.ensures.no c.if-is_end.false) c.in-Ends.is
    (subst (λ t. HasAnswered (λ said text. IsTurnOfCluster t.now tt tt said text c.in_ok-flow.flow) (line_of c.in_ok-next.next) c.loop-turn.out.written c.answer.new.out.written) c.loop-turn.invariant.1 c.in_ok-flow.ensures.answers)

pub returns-then-is_end-clause-answers : goal.returns-then-is_end-clause-answers
returns-then-is_end-clause-answers g c =
    talked_all _ _ _ _ _ _ _ tt c.loop-turn.turn c.loop-turn.invariant.0 c.in_ok-next.next _
    c.in_ok-next.ensures.line (c.is_end.ensures.yes c.if-is_end.true)

pub returns-in_err-next-clause-answers : goal.returns-in_err-next-clause-answers
returns-in_err-next-clause-answers g c =
    talked_err _ _ _ _ _ _ _ tt c.loop-turn.turn c.loop-turn.invariant.0 _ _ c.from_residual.ensures.0

pub returns-in_err-next-clause-fault : goal.returns-in_err-next-clause-fault
returns-in_err-next-clause-fault g c =
    read_err _ _ _ _ _ _ _ tt c.loop-turn.turn c.loop-turn.invariant.0 _ _ c.from_residual.result c.in_err-next.field-0.0
    c.from_residual.ensures.1 c.in_err-next.ensures.fault

pub returns-in_err-flow-clause-answers : goal.returns-in_err-flow-clause-answers
returns-in_err-flow-clause-answers g c =
    talked_fault_err _ _ _ _ _ _ _ tt c.loop-turn.turn c.loop-turn.invariant.0 _ _ c.from_residual-in_err-flow.result c.in_err-flow.field-0.0
    c.from_residual-in_err-flow.ensures.1 c.in_err-flow.ensures.fault

pub returns-clause-answers : goal.returns-clause-answers
returns-clause-answers g c = talked_some _ _ _ _ _ _ _ tt c.loop-turn.turn c.loop-turn.invariant.0 _ Input

pub returns-clause-fault : goal.returns-clause-fault
returns-clause-fault g c =
    inr (endless_talk _ _ _ _ _ _ _ tt c.loop-turn.turn c.loop-turn.invariant.0 c.loop-turn-test.false)

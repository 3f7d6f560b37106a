use Rattle.std.proofs.Common.{subst}
use Rattle.cmh_resume3.specs.Within.{IsWithin}
use Rattle.cmh_resume3.specs.Sender.{sent}
use Rattle.cmh_resume3.specs.declared.sender.State.{State}
use Rattle.cmh_node3.proofs.Standing.{does_stands}
use Rattle.cmh_node3.proofs.happening.happen.Goals as goal

pub returns-clause-stands : goal.returns-clause-stands
returns-clause-stands c = λ count mark ms st.
    let s = c.args.out.now in
    does_stands count mark s c.args.what.now c.args.epoch c.args.now _ _ ms (subst (λ (x : State). IsWithin s.acked (sent s) x) c.state-state.ensures.state c.state-state.ensures.within) c.act.ensures st

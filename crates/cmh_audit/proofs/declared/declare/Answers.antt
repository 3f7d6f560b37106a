use Rattle.std.proofs.Common.{ℕ, Option, subst, sym}
use Rattle.cmh_frames.specs.Topology.{is_some_of}
use Rattle.cmh_frames.specs.Laws.{bit}
use Rattle.cmh_audit.specs.Declarations.{HasMore}
use Rattle.cmh_audit.proofs.declared.declare.Goals as goal

pub returns-in_ok-add : goal.returns-in_ok-add
returns-in_ok-add c =
    subst (λ (o : Option ℕ). HasMore c.args.declared.now.keys c.add.new.declared.keys (λ i. bit (is_some_of o i))) (sym c.in-Some.is) c.in_ok-add.ensures

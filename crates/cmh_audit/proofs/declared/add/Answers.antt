use Rattle.std.proofs.Common.{Some, refl}
use Rattle.cmh_audit.proofs.DeclarationLemmas.{more_one}
use Rattle.cmh_audit.proofs.declared.add.Goals as goal

pub returns : goal.returns
returns c = more_one c.args.declared.now c.insert.new.self (Some c.args.process) c.args.process refl c.in_ok-insert.ensures.updates.0

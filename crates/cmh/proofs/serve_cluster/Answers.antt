use Rattle.std.proofs.Common.{inr, refl}
use Rattle.cmh_inputs.specs.declared.file_fault.FileFault.TheVariants.{Memory}
use Rattle.cmh.proofs.serve_cluster.Goals as goal

pub returns-clause-serves : goal.returns-clause-serves
returns-clause-serves g c = λ unset.
    let named = c.name_on-in-Err-is_of_edition3.ensures in
    inr (inr (refl {a = c.args.out.now}, record { fault = Memory; cause = tt; status_is = named.status; named = named.named }))

pub returns-clause-serves_strictly : goal.returns-clause-serves_strictly
returns-clause-serves_strictly g c = λ strict.
    let named = c.name_on-in-Err-is_of_edition3.ensures in
    inr (inr (refl {a = c.args.out.now}, record { fault = Memory; cause = tt; status_is = named.status; named = named.named }))

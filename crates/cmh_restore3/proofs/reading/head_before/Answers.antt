use Rattle.std.proofs.Common.{◌∙◌}
use Rattle.cmh_restore3.proofs.Fronts.{in_folder}
use Rattle.cmh_restore3.proofs.reading.head_before.Goals as goal

pub returns-clause-named : goal.returns-clause-named
returns-clause-named g c = λ stored told.
    let named = c.in_ok-file.ensures in
    in_folder stored c.args.path.now named.0 c.as_str.result.now c.in-Ok-Some.head (c.as_str.ensures.value ∙ named.1)
    ((rw c.in-Ok-Some.field-0-is at c.in-Ok-Some.ensures.named) stored told)

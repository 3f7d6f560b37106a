use Rattle.std.proofs.Common.{ℕ, List, [], Option, Vec, IfOk, ap, map, subst₂, unwrap_or}
use Rattle.std.specs.Global.{Global}
use Rattle.cmh_inputs.specs.Readings.{AreNamed}
use Rattle.cmh_inputs.specs.declared.readings.AuditFiles.{AuditFiles}
use Rattle.cmh_commands.proofs.files.files_named.Goals as goal

pub returns-in-Some-clause-named : goal.returns-in-Some-clause-named
returns-in-Some-clause-named g c =
    subst₂ (λ (topology : List ℕ) (journals : List (List ℕ)). IfOk c.files_of.result (λ (files : AuditFiles).
    AreNamed (g.N.Inputs.holds c.args.inputs.now) topology journals files.topology.items (map (λ (file : Vec ℕ Global). file.items) files.journals.items)))
    c.topology_in-topology.ensures (ap (λ (found : Option (List (List ℕ))). unwrap_or found []) c.in-Some.ensures) c.files_of.ensures.named

pub returns-in-None-clause-named : goal.returns-in-None-clause-named
returns-in-None-clause-named g c =
    subst₂ (λ (topology : List ℕ) (journals : List (List ℕ)). IfOk c.files_of-in-None.result (λ (files : AuditFiles).
    AreNamed (g.N.Inputs.holds c.args.inputs.now) topology journals files.topology.items (map (λ (file : Vec ℕ Global). file.items) files.journals.items)))
    c.topology_in-topology.ensures (ap (λ (found : Option (List (List ℕ))). unwrap_or found []) c.in-None.ensures) c.files_of-in-None.ensures.named

use Rattle.std.proofs.Common.{ℕ, List, [], Option, Vec, IfErr, IfOk, ap, map, subst, unwrap_or}
use Rattle.std.specs.Global.{Global}
use Rattle.cmh_inputs.specs.Readings.{AreNamedJournals, AreUnread}
use Rattle.cmh_commands.proofs.files.journals_named.Goals as goal

pub returns-in-Some-clause-named : goal.returns-in-Some-clause-named
returns-in-Some-clause-named g c =
    subst (λ (journals : List (List ℕ)). IfOk c.journals_of.result (λ (files : Vec (Vec ℕ Global) Global).
    AreNamedJournals (g.N.Inputs.holds c.args.inputs.now) journals (map (λ (file : Vec ℕ Global). file.items) files.items)))
    (ap (λ (found : Option (List (List ℕ))). unwrap_or found []) c.in-Some.ensures) c.journals_of.ensures.named

pub returns-in-Some-clause-unread : goal.returns-in-Some-clause-unread
returns-in-Some-clause-unread g c =
    subst (λ (journals : List (List ℕ)). IfErr c.journals_of.result (AreUnread (g.N.Inputs.holds c.args.inputs.now) journals))
    (ap (λ (found : Option (List (List ℕ))). unwrap_or found []) c.in-Some.ensures) c.journals_of.ensures.unread

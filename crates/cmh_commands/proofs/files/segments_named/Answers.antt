use Rattle.std.proofs.Common.{ℕ, List, [], Option, Some, Vec, IfErr, IfOk, ap, map, subst, unwrap_or}
use Rattle.std.specs.Global.{Global}
use Rattle.cmh_inputs.specs.Readings.{AreNamedJournals, AreUnread}
use Rattle.cmh_commands.specs.Paths.{shown_paths}
use Rattle.cmh_commands.proofs.files.segments_named.Goals as goal

pub returns-in-Some-clause-named : goal.returns-in-Some-clause-named
returns-in-Some-clause-named g c =
    subst (λ (folders : List (List ℕ)). IfOk c.segments_in.result (λ (files : Vec (Vec ℕ Global) Global).
    AreNamedJournals (g.N.Inputs.holds c.args.inputs.now) (shown_paths (Some c.args.epoch) folders) (map (λ (file : Vec ℕ Global). file.items) files.items)))
    (ap (λ (found : Option (List (List ℕ))). unwrap_or found []) c.in-Some.ensures) c.segments_in.ensures.named

pub returns-in-Some-clause-unread : goal.returns-in-Some-clause-unread
returns-in-Some-clause-unread g c =
    subst (λ (folders : List (List ℕ)). IfErr c.segments_in.result (AreUnread (g.N.Inputs.holds c.args.inputs.now) (shown_paths (Some c.args.epoch) folders)))
    (ap (λ (found : Option (List (List ℕ))). unwrap_or found []) c.in-Some.ensures) c.segments_in.ensures.unread

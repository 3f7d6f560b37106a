use Rattle.std.proofs.Common.{ℕ, List, Vec, MatchBool, map, subst, sym}
use Rattle.std.specs.Global.{Global}
use Rattle.cmh_console.specs.TopologyFile3.{SaysNoWorld}
use Rattle.cmh_inputs.specs.Editions.{SaysSomeWorld}
use Rattle.cmh_inputs.specs.Readings.{AreJournalsAt}
use Rattle.cmh_inputs.proofs.readings.files_of.Goals as goal
use Rattle.cmh_inputs.proofs.readings.files_of.Goals.{then-is_edition3+in_ok-journals, else-is_edition3+in_ok-journals-2}

pub returns-clause-edition : goal.returns-clause-edition
returns-clause-edition g c =
    subst (λ (bytes : List ℕ). MatchBool c.in_ok-is_edition3.is_edition3 (SaysSomeWorld bytes) (SaysNoWorld bytes)) c.deref.ensures.value
    c.in_ok-is_edition3.ensures.said

pub returns-clause-named : goal.returns-clause-named
returns-clause-named g c = λ stored told.
    let paths = map (λ path. path.now) c.args.journals.now in
    let At : Vec (Vec ℕ Global) Global → Type 0 = λ files. AreJournalsAt stored paths (map (λ (file : Vec ℕ Global). file.items) files.items) in
    record {
      topology_is = c.in_ok-topology.ensures.read stored told;
      journals = elim c.if-is_edition3.branch [
        | then-is_edition3+in_ok-journals w ↦ subst At (sym w.journals-is) (w.in_ok-journals.ensures.named stored told)
        | else-is_edition3+in_ok-journals-2 w ↦ subst At (sym w.journals-is) (w.in_ok-journals-2.ensures.named stored told)
      ];
    }

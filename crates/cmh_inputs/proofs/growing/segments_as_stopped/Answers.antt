use Rattle.std.proofs.Common.{ℕ, List, Vec, map, subst, sym}
use Rattle.std.specs.Global.{Global}
use Rattle.cmh_inputs.specs.Inner.Faulty.{OneIsFaulty}
use Rattle.cmh_inputs.specs.Readings.{AreJournalsAt}
use Rattle.cmh_inputs.proofs.JournalLemmas.{segments_kept_first}
use Rattle.cmh_inputs.proofs.growing.segments_as_stopped.Goals as goal

pub returns-in-Some-clause-named : goal.returns-in-Some-clause-named
returns-in-Some-clause-named g c = λ stored told.
    let items : List (Vec ℕ Global) → List (List ℕ) = λ files. map (λ (file : Vec ℕ Global). file.items) files in
    let paths = map (λ path. path.now) c.args.paths.now in
    let named = c.requires.named stored told in
    let one = subst (λ (files : List (Vec ℕ Global)). OneIsFaulty (items files)) c.deref.ensures.value
    (c.in_ok-changed.ensures c.if-changed.true stored told
    (subst (λ (files : List (Vec ℕ Global)). AreJournalsAt stored paths (items files)) (sym c.deref.ensures.value) named)) in
    subst (AreJournalsAt stored paths) (sym (segments_kept_first _ (items c.args.first.items) _ (items c.in_ok-kept.kept.items) one c.in_ok-kept.ensures)) named

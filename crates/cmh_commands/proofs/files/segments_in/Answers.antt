use Rattle.std.proofs.Common.{◌≡◌, ◌++◌, ◌∙◌, ℕ, List, [], Bor, Vec, IfErr, IfOk, ap, append-nil, map, string_bytes, subst, sym}
use Rattle.std.specs.Global.{Global}
use Rattle.std.proofs.lemmas.List.{drop_all}
use Rattle.cmh_inputs.specs.Readings.{AreNamedJournals, AreUnread}
use Rattle.cmh_commands.proofs.files.segments_in.Goals as goal

-- all that were borrowed, once none is left
all_borrowed : {X : Type 0} (borrowed : List (List ℕ)) (show : X → List ℕ) (items : List X) (rest : List X)
    → rest ≡ [] → borrowed ++ map show rest ≡ map show items → borrowed ≡ map show items
all_borrowed borrowed show items rest none is = sym (append-nil borrowed) ∙ ap (λ (xs : List _). borrowed ++ map show xs) (sym none) ∙ is

pub returns-clause-named : goal.returns-clause-named
returns-clause-named g c =
    let items = c.deref-path-items.result.now in
    let borrowed = all_borrowed _ string_bytes items _ (drop_all c.loop-path.path-index items c.loop-path-test.false) c.loop-path.invariant in
    let paths = borrowed ∙ ap (map string_bytes) c.deref-path-items.ensures.value ∙ c.in_ok-paths.ensures in
    subst (λ (paths : List (List ℕ)). IfOk c.journals_of.result (λ (files : Vec (Vec ℕ Global) Global).
    AreNamedJournals (g.N.Inputs.holds c.args.inputs.now) paths (map (λ (file : Vec ℕ Global). file.items) files.items)))
    (ap (map (λ (path : Bor (List ℕ)). path.now)) c.deref.ensures.value ∙ paths) c.journals_of.ensures.named

pub returns-clause-unread : goal.returns-clause-unread
returns-clause-unread g c =
    let items = c.deref-path-items.result.now in
    let borrowed = all_borrowed _ string_bytes items _ (drop_all c.loop-path.path-index items c.loop-path-test.false) c.loop-path.invariant in
    let paths = borrowed ∙ ap (map string_bytes) c.deref-path-items.ensures.value ∙ c.in_ok-paths.ensures in
    subst (λ (paths : List (List ℕ)). IfErr c.journals_of.result (AreUnread (g.N.Inputs.holds c.args.inputs.now) paths))
    (ap (map (λ (path : Bor (List ℕ)). path.now)) c.deref.ensures.value ∙ paths) c.journals_of.ensures.unread

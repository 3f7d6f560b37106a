-- The processes of deadlocks, one by one.
use Rattle.std.proofs.Common.{◌≡◌, ℕ, ◌+◌, ◌<◌, List, [], ◌∷◌, ◌++◌, length, map, get_or, take, sym, ap, ◌∙◌}
use Rattle.std.specs.List.{AllByRecursion}
use Rattle.std.proofs.lemmas.List.{map-append}
use Rattle.cmh_frames.proofs.Each.{all_append}
use Rattle.cmh_report3.specs.declared.cycle.Deadlock.{Deadlock}
use Rattle.cmh_report3.proofs.Steps.{took}

abbrev pub names_of : List Deadlock → List ℕ
names_of ds = map (λ (d : Deadlock). d.process) ds

pub names_more : (ds : List Deadlock) (d : Deadlock) (ps : List ℕ) (i p : ℕ) → i < length ps → p ≡ get_or ps i p → d.process ≡ p
    → names_of ds ≡ take i ps → names_of (ds ++ d ∷ []) ≡ take (i + 1) ps
names_more ds d ps i p inside is same so_far =
    map-append (λ (e : Deadlock). e.process) ds (d ∷ []) ∙ ap (λ xs. xs ++ d.process ∷ []) so_far ∙ ap (λ q. take i ps ++ q ∷ []) same
    ∙ sym (took ps i p inside is)

pub told_more : (P : Deadlock → Type 0) (ds : List Deadlock) (d : Deadlock) → AllByRecursion P ds → P d → AllByRecursion P (ds ++ d ∷ [])
told_more P ds d all one = all_append P ds (d ∷ []) all (one, tt)

-- The steps of the board keep its rule.
use Rattle.std.proofs.Common.{◌≡◌, ℕ, ◌≢◌, List, [], ◌∷◌, ◌++◌, set, refl, sym, subst, inl, inr, ⊎_elim}
use mathlib.Core.Option.{some}
use lib.ListN.{get_elem?}
use Rattle.left_right.specs.Register.{Admits, Turns, TurnsAt, Forks, Merges}
use Rattle.atomic_table.proofs.Lists.{at_set, at_snoc}
use Rattle.logbook.specs.Pages.{Book}
use Rattle.cmh_shared.specs.declared.published.Published.{Published}
use Rattle.cmh_shared.specs.Rule.{named, Fits, Kept, Saw}

set_fits : (b : Book) (views : List (List ℕ)) (seat : ℕ) (w : List ℕ) → ((s : ℕ) (v : List ℕ) → get_elem? views s ≡ some v → Fits b v) → Fits b w → (s : ℕ) (v : List ℕ) → get_elem? (set views seat w) s ≡ some v → Fits b v
set_fits b views seat w h fits j u e =
    ⊎_elim (λ (t : (j ≡ seat) × (w ≡ u)). subst (λ (z : List ℕ). Fits b z) t.1 fits) (λ (t : (j ≢ seat) × (get_elem? views j ≡ some u)). h j u t.1) (at_set views seat j w u e)

snoc_fits : (b : Book) (views : List (List ℕ)) (w : List ℕ) → ((s : ℕ) (v : List ℕ) → get_elem? views s ≡ some v → Fits b v) → Fits b w → (s : ℕ) (v : List ℕ) → get_elem? (views ++ w ∷ []) s ≡ some v → Fits b v
snoc_fits b views w h fits j u e = ⊎_elim (h j u) (λ (same : w ≡ u). subst (λ (z : List ℕ). Fits b z) same fits) (at_snoc views w u j e)

-- a step of a seat, where the book stays and the published list goes on
pub sees : (seat : ℕ) (v : List ℕ) (x y : Published) → y.seen.book ≡ x.seen.book → (x.list ≡ x.seen.log → y.list ≡ y.seen.log) → TurnsAt Kept seat v x y Saw
sees seat v x y same good views h at =
    let fits : Fits y.seen.book v = subst (λ (b : Book). Fits b v) (sym same) (h.1 seat v at) in
    let all : (s : ℕ) (u : List ℕ) → get_elem? views s ≡ some u → Fits y.seen.book u = λ s u e. subst (λ (b : Book). Fits b u) (sym same) (h.1 s u e) in (
      named y.seen.book,
      (good h.0, set_fits y.seen.book views seat (named y.seen.book) all (inr refl)),
      (refl, fits, good h.0),
    )

pub enters : (seat : ℕ) (v : List ℕ) → Turns Kept seat v (λ x. x) Saw
enters seat v x = sees seat v x x refl (λ p. p)

pub admits : Admits Kept []
admits x views h = (h.0, snoc_fits x.seen.book views [] h.1 (inl refl))

pub forks : (seat : ℕ) (v : List ℕ) → Forks Kept seat v v v
forks seat v x views h at = (h.0, snoc_fits x.seen.book (set views seat v) v (set_fits x.seen.book views seat v h.1 (h.1 seat v at)) (h.1 seat v at))

pub merges : (seat : ℕ) (v : List ℕ) (other : ℕ) (w : List ℕ) → Merges Kept seat v other w w []
merges seat v other w x views h at apart there =
    let from : Fits x.seen.book w = ⊎_elim (λ (t : (other ≡ seat) × (w ≡ w)). absurd (apart t.0)) (λ (t : (other ≢ seat) × (get_elem? views other ≡ some w)). h.1 other w t.1) (at_set views seat other w w there) in
    (h.0, set_fits x.seen.book (set views seat w) other [] (set_fits x.seen.book views seat w h.1 from) (inl refl))

-- Journals beside the sites that they are of.
use Rattle.std.proofs.Common.{◌≡◌, ◌≢◌, ℕ, zero, suc, ◌+◌, ◌<◌, ◌==◌, List, [], ◌∷◌, ◌++◌, length, map, set, get_or, if◌then◌else◌, inl, inr, sym, ap, refl, ◌∙◌, arith}
use Rattle.std.proofs.lemmas.Bool.{cases_eq, eq-eqb, ne_eqb}
use Rattle.cmh_runs.specs.declared.entry.Entry.{Entry}
use Rattle.cmh_merge.specs.Merges.{AreDistinct, journal_of}
use Rattle.cmh_merge.specs.Inner.Merging.{site_at, total}

pub map_push : {X Y : Type 0} (f : X → Y) (xs : List X) (x : X) → map f (xs ++ x ∷ []) ≡ map f xs ++ f x ∷ []
map_push f [] x = refl
map_push f (y ∷ ys) x = ap (λ z. f y ∷ z) (map_push f ys x)

distinct_rest : (site : ℕ) (sites : List ℕ) → AreDistinct (site ∷ sites) → AreDistinct sites
distinct_rest site sites d j k l m e = let h = d (suc j) (suc k) (omega (arith, l)) (omega (arith, m)) e in omega (arith, h)

distinct_first : (site : ℕ) (sites : List ℕ) (k : ℕ) → AreDistinct (site ∷ sites) → k < length sites → site ≢ site_at sites k
distinct_first site sites k d l e = let h = d 0 (suc k) (omega arith) (omega (arith, l)) e in absurd (omega (arith, h))

module _ {E F : Type 0} where
  -- the journal of the site at a place stands at that place
  pub journal_at : (sites : List ℕ) (journals : List (List (Entry E F))) (k : ℕ) → AreDistinct sites → length journals ≡ length sites → k < length sites
      → journal_of sites journals (site_at sites k) ≡ get_or journals k []
  journal_at [] journals k d same l = absurd (omega (arith, l))
  journal_at (s ∷ sites) [] k d same l = absurd (omega (arith, same, l))
  journal_at (s ∷ sites) (x ∷ journals) zero d same l = ap (λ z. if z then x else journal_of sites journals s) (eq-eqb s s refl)
  journal_at (s ∷ sites) (x ∷ journals) (suc k) d same l =
      ap (λ z. if z then x else journal_of sites journals (site_at sites k)) (ne_eqb s (site_at sites k) (distinct_first s sites k d (omega (arith, l))))
      ∙ journal_at sites journals k (distinct_rest s sites d) (omega (arith, same)) (omega (arith, l))

  -- another journal is replaced
  pub journal_elsewhere : (sites : List ℕ) (journals : List (List (Entry E F))) (k : ℕ) (rest : List (Entry E F)) (x : ℕ) → k < length sites → site_at sites k ≢ x
      → journal_of sites (set journals k rest) x ≡ journal_of sites journals x
  journal_elsewhere [] journals k rest x l apart = refl
  journal_elsewhere (s ∷ sites) [] k rest x l apart = refl
  journal_elsewhere (s ∷ sites) (y ∷ journals) zero rest x l apart =
      ap (λ z. if z then rest else journal_of sites journals x) (ne_eqb s x apart) ∙ sym (ap (λ z. if z then y else journal_of sites journals x) (ne_eqb s x apart))
  journal_elsewhere (s ∷ sites) (y ∷ journals) (suc k) rest x l apart =
      ap (λ z. if s == x then y else z) (journal_elsewhere sites journals k rest x (omega (arith, l)) apart)

  -- the place of a journal that has entries
  pub place_of_some : (sites : List ℕ) (journals : List (List (Entry E F))) (x : ℕ) (e : Entry E F) (es : List (Entry E F)) → journal_of sites journals x ≡ e ∷ es
      → (k : ℕ) × (k < length sites) × (site_at sites k ≡ x) × (get_or journals k [] ≡ e ∷ es)
  place_of_some [] journals x e es h = absurd (cc h)
  place_of_some (s ∷ sites) [] x e es h = absurd (cc h)
  place_of_some (s ∷ sites) (y ∷ journals) x e es h = elim (cases_eq s x) [
    | inl here ↦ (0, omega arith, here, sym (ap (λ z. if z then y else journal_of sites journals x) (eq-eqb s x here)) ∙ h)
    | inr far ↦ let r = place_of_some sites journals x e es (sym (ap (λ z. if z then y else journal_of sites journals x) (ne_eqb s x far)) ∙ h) in
        let l = r.1 in (suc r.0, omega (arith, l), r.2, r.3)
  ]

pub total-set : {X : Type 0} (lists : List (List X)) (k : ℕ) (xs : List X) → k < length lists → total (set lists k xs) + length (get_or lists k []) ≡ total lists + length xs
total-set [] k xs l = absurd (omega (arith, l))
total-set (ys ∷ lists) zero xs l = omega arith
total-set (ys ∷ lists) (suc k) xs l = let h = total-set lists k xs (omega (arith, l)) in omega (arith, h)

-- The declared processes of a site, as a list.
use Rattle.std.proofs.Common.{◌≡◌, ◌∙◌, ◌+◌, ◌<◌, ◌&&◌, ◌==◌, ℕ, Bool, true, false, List, [], ◌∷◌, ◌++◌, length, take, get_or, if◌then◌else◌, refl, sym, ap, inl, inr}
use Rattle.std.specs.List.{filter}
use Rattle.std.proofs.lemmas.Bool.{cases_Bool, eq-eqb, eqb-true, true≢false}
use Rattle.std.proofs.lemmas.List.{append-nil}
use Rattle.std.proofs.lemmas.List.Elements.{filter_more}
use Rattle.std.proofs.lemmas.Map.Views.{any-filter_same}
use Rattle.cmh_model3.specs.Lists.{in_list}
use Rattle.cmh_model3.specs.State.{is_blocked}
use Rattle.cmh_model3.proofs.Marks.{some_in}
use Rattle.cmh_controller3.specs.Controller.{Controller, home_of, state_of}
use Rattle.cmh_controller3.specs.Inner.Kept.{IsKept}
use Rattle.cmh_controller3.specs.Tables.{flags_of}

-- one more of a list, if it passes the test
pub pushed : (f : ℕ → Bool) (ms : List ℕ) (i p : ℕ) (before after : List ℕ) (b : Bool) → i < length ms → p ≡ get_or ms i 0 → f p ≡ b → before ≡ filter f (take i ms)
    → after ≡ (if b then before ++ p ∷ [] else before) → after ≡ filter f (take (i + 1) ms)
pushed f ms i p before after b inside is passes so_far pushes =
    pushes ∙ ap (λ xs. if b then xs ++ p ∷ [] else xs) so_far ∙ join b (filter f (take i ms))
    ∙ ap (λ z. filter f (take i ms) ++ (if z then p ∷ [] else [])) (sym passes)
    ∙ ap (λ q. filter f (take i ms) ++ (if f q then q ∷ [] else [])) is
    ∙ sym (filter_more f ms i 0 inside)
  where
    join : (z : Bool) (xs : List ℕ) → (if z then xs ++ p ∷ [] else xs) ≡ xs ++ (if z then p ∷ [] else [])
    join true xs = refl
    join false xs = sym (append-nil xs)

module _ (c : Controller) (kept : IsKept (home_of c) c.site c.kept) where
  -- who is declared is blocked, and so a process of the site
  declared_here : (p : ℕ) → flags_of c.kept.declared p ≡ true → in_list c.kept.waits.members p ≡ true
  declared_here p h = elim (cases_Bool (is_blocked (state_of c) p)) [
    | inl blocked ↦ let r = some_in ((state_of c).waits p) blocked in sym (kept.members p) ∙ eq-eqb (home_of c p) c.site (kept.facts.waits_home p r.0 r.1).0
    | inr active ↦ absurd (true≢false (sym h ∙ kept.facts.undeclared p active))
  ]

  pub in_flagged : (p : ℕ) → in_list (filter (flags_of c.kept.declared) c.kept.waits.members) p ≡ flags_of c.kept.declared p
  in_flagged p =
      any-filter_same (λ y. y == p) (flags_of c.kept.declared) (flags_of c.kept.declared p) (λ k e. ap (flags_of c.kept.declared) (eqb-true k p e)) c.kept.waits.members
      ∙ go (flags_of c.kept.declared p) refl
    where
      go : (z : Bool) → flags_of c.kept.declared p ≡ z → (z && in_list c.kept.waits.members p) ≡ z
      go true h = declared_here p h
      go false h = refl

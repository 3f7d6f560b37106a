-- The frames for a site, of two lists.
use Rattle.std.proofs.Common.{◌≡◌, ◌≢◌, ℕ, List, [], ◌∷◌, ◌++◌, if◌then◌else◌, refl, sym, ap, ◌∙◌, inl, inr}
use Rattle.std.proofs.lemmas.Bool.{eq-eqb, ne_eqb, cases_eq}
use Rattle.cmh_runs.specs.Journals.{frames_to}

module _ {Frame : Type 0} where
  -- a frame that goes to b
  pub to_yes : (b c : ℕ) (f : Frame) (xs : List (ℕ × Frame)) → c ≡ b → frames_to b ((c, f) ∷ xs) ≡ f ∷ frames_to b xs
  to_yes b c f xs e = ap (λ z. if z then f ∷ frames_to b xs else frames_to b xs) (eq-eqb c b e)

  -- a frame that goes elsewhere
  pub to_no : (b c : ℕ) (f : Frame) (xs : List (ℕ × Frame)) → c ≢ b → frames_to b ((c, f) ∷ xs) ≡ frames_to b xs
  to_no b c f xs n = ap (λ z. if z then f ∷ frames_to b xs else frames_to b xs) (ne_eqb c b n)

  -- the frames of two lists, one after the other
  pub to-append : (b : ℕ) (xs ys : List (ℕ × Frame)) → frames_to b (xs ++ ys) ≡ frames_to b xs ++ frames_to b ys
  to-append b [] ys = refl
  to-append b (x ∷ xs) ys = elim (cases_eq x.0 b) [
    | inl e ↦ to_yes b x.0 x.1 (xs ++ ys) e ∙ ap (λ z. x.1 ∷ z) (to-append b xs ys) ∙ ap (λ z. z ++ frames_to b ys) (sym (to_yes b x.0 x.1 xs e))
    | inr n ↦ to_no b x.0 x.1 (xs ++ ys) n ∙ to-append b xs ys ∙ ap (λ z. z ++ frames_to b ys) (sym (to_no b x.0 x.1 xs n))
  ]

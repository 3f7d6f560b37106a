-- What an ask or a withdrawal may name.
use Rattle.std.proofs.Common.{◌≡◌, ◌≢◌, ℕ, Bool, true, false, List, [], ◌∷◌, length, ◌==◌, refl, sym, ◌∙◌}
use Rattle.std.proofs.lemmas.Bool.{eq-eqb, eqb-true, true≢false}
use Rattle.cmh_frames.specs.Rules as frames
use Rattle.cmh_model3.specs.Lists.{IsAscending, is_nonempty}

pub ascends : (xs : List ℕ) → frames.IsAscending xs → IsAscending xs
ascends [] h = tt
ascends (x ∷ xs) h = (h.0, ascends xs h.1)

pub ascended : (xs : List ℕ) → IsAscending xs → frames.IsAscending xs
ascended [] h = tt
ascended (x ∷ xs) h = (h.0, ascended xs h.1)

-- what is not empty names somebody
pub some_named : (ks : List ℕ) → (length ks == 0) ≡ false → is_nonempty ks ≡ true
some_named [] h = absurd (true≢false h)
some_named (k ∷ ks) h = refl

-- what a test of two numbers says
pub is_same : (b : Bool) (x y : ℕ) → b ≡ (x == y) → b ≡ true → x ≡ y
is_same b x y is h = eqb-true x y (sym is ∙ h)

pub not_same : (b : Bool) (x y : ℕ) → b ≡ (x == y) → b ≡ false → x ≢ y
not_same b x y is h e = true≢false (sym (eq-eqb x y e) ∙ sym is ∙ h)

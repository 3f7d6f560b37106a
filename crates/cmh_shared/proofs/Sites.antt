-- Laws of the frames for one site.
use Rattle.std.proofs.Common.{◌≡◌, ℕ, zero, suc, ◌+◌, ◌<◌, ◌==◌, List, [], ◌∷◌, ◌++◌, length, take, get_or, refl, ap, ◌∙◌, arith, add-one}
use Rattle.std.proofs.lemmas.Bool.{eq-eqb, ne_eqb}
use Rattle.std.specs.Prelude.{if◌then◌else◌}
use Rattle.std.proofs.lemmas.List.{append-nil}
use Rattle.cmh_runs.specs.Journals.{frames_to}
use Rattle.cmh_runs.proofs.Sent.{to-append}

take_one : {F : Type 0} (xs : List (ℕ × F)) (i : ℕ) (d : ℕ × F) → i < length xs → take (suc i) xs ≡ take i xs ++ get_or xs i d ∷ []
take_one [] i d h = absurd (omega arith)
take_one (x ∷ xs) zero d h = refl
take_one (x ∷ xs) (suc i) d h = ap (λ w. x ∷ w) (take_one xs i d (omega arith))

pub frames_to_more : {F : Type 0} (to : ℕ) (xs : List (ℕ × F)) (i : ℕ) (d : ℕ × F) → i < length xs → frames_to to (take (i + 1) xs) ≡ frames_to to (take i xs) ++ (if (get_or xs i d).0 == to then (get_or xs i d).1 ∷ [] else [])
frames_to_more to xs i d h = rw (add-one, take_one xs i d h, to-append to (take i xs) (get_or xs i d ∷ [])) refl

pub frames_to_here : {F : Type 0} (to : ℕ) (xs : List (ℕ × F)) (i : ℕ) (d : ℕ × F) → i < length xs → (get_or xs i d).0 ≡ to → frames_to to (take (i + 1) xs) ≡ frames_to to (take i xs) ++ (get_or xs i d).1 ∷ []
frames_to_here to xs i d h e = frames_to_more to xs i d h ∙ ap (λ b. frames_to to (take i xs) ++ (if b then (get_or xs i d).1 ∷ [] else [])) (eq-eqb (get_or xs i d).0 to e)

pub frames_to_other : {F : Type 0} (to : ℕ) (xs : List (ℕ × F)) (i : ℕ) (d : ℕ × F) → i < length xs → ((get_or xs i d).0 ≡ to → ⊥) → frames_to to (take (i + 1) xs) ≡ frames_to to (take i xs)
frames_to_other to xs i d h e = frames_to_more to xs i d h ∙ (ap (λ b. frames_to to (take i xs) ++ (if b then (get_or xs i d).1 ∷ [] else [])) (ne_eqb (get_or xs i d).0 to e) ∙ append-nil (frames_to to (take i xs)))

-- What a loop over a list has pushed after one more turn, and what the rest of the list gives.
use Rattle.std.proofs.Common.{◌≡◌, ℕ, suc, ◌+◌, ◌<◌, List, ◌∷◌, ◌++◌, length, drop, get_or, sym, ap, subst, ◌∙◌, arith, append_assoc}
use Rattle.std.proofs.Math.Seq.{drop-cons}
use Rattle.cmh_draw.specs.Each.{each_from}

-- a member gives what it gives, and then the rest of the list does
pub each_next : {X Y : Type 0} → (f : ℕ → X → List Y) (ys xs : List X) → ys ≡ xs
    → (i : ℕ) (x : X) (so_far new all : List Y) → i < length ys → x ≡ get_or ys i x
    → so_far ++ each_from f i (drop i xs) ≡ all → new ≡ so_far ++ f i x
    → new ++ each_from f (i + 1) (drop (i + 1) xs) ≡ all
each_next {X} f ys xs same i x so_far new all within is before now =
    let within_too : i < length xs = subst (λ (l : List X). i < length l) same within in
    let is_too : x ≡ get_or xs i x = subst (λ (l : List X). x ≡ get_or l i x) same is in
    let after : suc i ≡ i + 1 = omega arith in
    let front : drop i xs ≡ x ∷ drop (i + 1) xs =
    drop-cons xs i x within_too ∙ ap (λ y. y ∷ drop (suc i) xs) (sym is_too) ∙ ap (λ k. x ∷ drop k xs) after in
    ap (λ l. l ++ each_from f (i + 1) (drop (i + 1) xs)) now
    ∙ append_assoc so_far (f i x) (each_from f (i + 1) (drop (i + 1) xs))
    ∙ ap (λ l. so_far ++ l) (sym (ap (each_from f i) front))
    ∙ before

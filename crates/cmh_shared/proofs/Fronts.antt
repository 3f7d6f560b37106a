-- Lists that begin the history of a board: the first so many of its entries.
use Rattle.std.proofs.Common.{◌≡◌, ℕ, zero, suc, ◌≤◌, List, [], ◌∷◌, length, take, refl, ap, sym, ◌∙◌, subst, arith}
use Rattle.cmh_runs.specs.Runs.{IsBeginningOf}
use Rattle.cmh_runs.proofs.Beginnings.{beginning_refl, length-beginning}

-- of a beginning of a list so many are the list's first so many
pub take_front : {A : Type 0} (n : ℕ) (xs zs : List A) → IsBeginningOf xs zs → n ≤ length xs → take n xs ≡ take n zs
take_front zero xs zs p le = refl
take_front (suc n) [] zs p le = absurd (omega arith)
take_front (suc n) (x ∷ xs) [] p le = absurd (cc (p.1))
take_front (suc n) (x ∷ xs) (z ∷ zs) p le =
    let heads : x ≡ z = cc (p.1) in
    let rest : take n xs ≡ take n zs = take_front n xs zs (p.0, cc (p.1)) (omega arith) in
    cc

-- the first n begin the first m, where there are so many
take_grows : {A : Type 0} (n m : ℕ) (zs : List A) → n ≤ m → IsBeginningOf (take n zs) (take m zs)
take_grows zero m zs le = (take m zs, refl)
take_grows (suc n) zero zs le = absurd (omega arith)
take_grows (suc n) (suc m) [] le = ([], refl)
take_grows (suc n) (suc m) (z ∷ zs) le = let r = take_grows n m zs (omega arith) in (r.0, ap (λ w. z ∷ w) r.1)

-- of beginnings of one list the first n of one begin the first m of the other
pub fronts : {A : Type 0} (n m : ℕ) (xs ys zs : List A) → IsBeginningOf xs zs → IsBeginningOf ys zs → n ≤ length xs → m ≤ length ys → n ≤ m → IsBeginningOf (take n xs) (take m ys)
fronts n m xs ys zs p q a b le = rw (take_front n xs zs p a, take_front m ys zs q b) (take_grows n m zs le)

-- a beginning is the first so many as it has
pub take_whole : {A : Type 0} (xs zs : List A) → IsBeginningOf xs zs → take (length xs) zs ≡ xs
take_whole [] zs p = refl
take_whole (x ∷ xs) [] p = absurd (cc (p.1))
take_whole (x ∷ xs) (z ∷ zs) p =
    let heads : x ≡ z = cc (p.1) in
    let rest : take (length xs) zs ≡ xs = take_whole xs zs (p.0, cc (p.1)) in
    cc

-- equal lists begin each other
pub beginning_same : {A : Type 0} (xs ys : List A) → xs ≡ ys → IsBeginningOf xs ys
beginning_same xs ys e = subst (λ l. IsBeginningOf xs l) e (beginning_refl xs)

-- beginnings of one list that are equally long are one
pub same_length : {A : Type 0} (xs ys zs : List A) → IsBeginningOf xs zs → IsBeginningOf ys zs → length xs ≡ length ys → xs ≡ ys
same_length xs ys zs p q e = sym (take_whole xs zs p) ∙ (ap (λ (n : ℕ). take n zs) e ∙ take_whole ys zs q)

-- a beginning that is no shorter than the whole is the whole
pub whole : {A : Type 0} (xs ys : List A) → IsBeginningOf xs ys → length ys ≤ length xs → xs ≡ ys
whole xs ys p le = same_length xs ys ys p (beginning_refl ys) (let short = length-beginning xs ys p in omega arith)

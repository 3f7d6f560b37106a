-- Lemmas on beginnings of lists.
use Rattle.std.proofs.Common.{◌≡◌, ℕ, zero, suc, ◌≤◌, ◌<◌, List, [], ◌∷◌, ◌++◌, length, ◌⊎◌, inl, inr, subst, sym, ap, refl, ◌∙◌, append_assoc, append-nil, arith, length-append, take, drop, take-append-drop}
use Rattle.std.proofs.lemmas.List.{append_cancel_left}
use Rattle.std.proofs.Math.Seq.{drop-append_seam}
use Rattle.cmh_runs.specs.Runs.{IsBeginningOf}

pub beginning_refl : {X : Type 0} (xs : List X) → IsBeginningOf xs xs
beginning_refl xs = ([], append-nil xs)

pub beginning_nil : {X : Type 0} (xs : List X) → IsBeginningOf [] xs
beginning_nil xs = (xs, refl)

-- the first n are a beginning
pub beginning_take : {X : Type 0} (n : ℕ) (xs : List X) → IsBeginningOf (take n xs) xs
beginning_take n xs = (drop n xs, take-append-drop n xs)

pub beginning_trans : {X : Type 0} (xs ys zs : List X) → IsBeginningOf xs ys → IsBeginningOf ys zs → IsBeginningOf xs zs
beginning_trans xs ys zs p q =
    (p.0 ++ q.0, sym (append_assoc xs p.0 q.0) ∙ ap (λ l. l ++ q.0) p.1 ∙ q.1)

pub length-beginning : {X : Type 0} (xs ys : List X) → IsBeginningOf xs ys → length xs ≤ length ys
length-beginning xs ys p = let e = length-append xs p.0 in let f = ap length p.1 in omega (arith, e, f)

tail_eq : {X : Type 0} (x y : X) (xs ys : List X) → x ∷ xs ≡ y ∷ ys → xs ≡ ys
tail_eq x y xs ys h = cc

head_eq : {X : Type 0} (x y : X) (xs ys : List X) → x ∷ xs ≡ y ∷ ys → x ≡ y
head_eq x y xs ys h = cc

one_of : {X : Type 0} (x e : X) (before rest : List X) → x ∷ (before ++ rest) ≡ e ∷ [] → x ∷ before ≡ e ∷ []
one_of x e [] rest h = ap (λ y. y ∷ []) (head_eq x e rest [] h)
one_of x e (y ∷ ys) rest h = cc

-- a beginning of a list with one more at its end is a beginning of the list, or all of it
pub beginning_push : {X : Type 0} (before run : List X) (e : X) → IsBeginningOf before (run ++ e ∷ []) → IsBeginningOf before run ⊎ (before ≡ run ++ e ∷ [])
beginning_push [] run e p = inl (run, refl)
beginning_push (x ∷ before) [] e p = inr (one_of x e before p.0 p.1)
beginning_push (x ∷ before) (y ∷ run) e p =
    let same : x ≡ y = head_eq x y (before ++ p.0) (run ++ e ∷ []) p.1 in
    let rest : IsBeginningOf before (run ++ e ∷ []) = (p.0, tail_eq x y (before ++ p.0) (run ++ e ∷ []) p.1) in
    elim (beginning_push before run e rest) [ inl q ↦ inl (q.0, ap (λ l. x ∷ l) q.1 ∙ ap (λ z. z ∷ run) same) | inr q ↦ inr (ap (λ l. x ∷ l) q ∙ ap (λ z. z ∷ (run ++ e ∷ [])) same) ]

-- of two beginnings of a list, of which the first begins the second, the first with one more begins the second, or they are one
pub beginning_more : {X : Type 0} (xs ys zs : List X) (e : X) → IsBeginningOf xs ys → IsBeginningOf ys zs → IsBeginningOf (xs ++ e ∷ []) zs → IsBeginningOf (xs ++ e ∷ []) ys ⊎ (ys ≡ xs)
beginning_more {X} xs ys zs e p q r = go p.0 p.1
  where
    go : (rest : List X) → xs ++ rest ≡ ys → IsBeginningOf (xs ++ e ∷ []) ys ⊎ (ys ≡ xs)
    go [] h = inr (sym h ∙ append-nil xs)
    go (x ∷ rest) h =
        let both : xs ++ (x ∷ (rest ++ q.0)) ≡ xs ++ (e ∷ r.0) = sym (append_assoc xs (x ∷ rest) q.0) ∙ ap (λ l. l ++ q.0) h ∙ q.1 ∙ sym r.1 ∙ append_assoc xs (e ∷ []) r.0 in
        let same : x ≡ e = head_eq x e (rest ++ q.0) r.0 (append_cancel_left xs (x ∷ (rest ++ q.0)) (e ∷ r.0) both) in
        inl (rest, append_assoc xs (e ∷ []) rest ∙ ap (λ y. xs ++ (y ∷ rest)) (sym same) ∙ h)

-- the last elements of equal lists are equal, and so are the lists before them
pub push_eq : {X : Type 0} (xs ys : List X) (x y : X) → xs ++ x ∷ [] ≡ ys ++ y ∷ [] → (xs ≡ ys) × (x ≡ y)
push_eq [] [] x y h = (refl, head_eq x y [] [] h)
push_eq [] (b ∷ []) x y h = absurd (cc)
push_eq [] (b ∷ (c ∷ ys)) x y h = absurd (cc)
push_eq (a ∷ []) [] x y h = absurd (cc)
push_eq (a ∷ (c ∷ xs)) [] x y h = absurd (cc)
push_eq (a ∷ xs) (b ∷ ys) x y h =
    let more = push_eq xs ys x y (tail_eq a b (xs ++ x ∷ []) (ys ++ y ∷ []) h) in
    (ap (λ z. z ∷ xs) (head_eq a b (xs ++ x ∷ []) (ys ++ y ∷ []) h) ∙ ap (λ l. b ∷ l) more.0, more.1)

-- what holds of the empty list, and passes from each beginning to the next, holds of the whole
pub grow : {X : Type 0} (run : List X) (P : List X → Type 0) → P [] → ((before : List X) (e : X) → IsBeginningOf (before ++ e ∷ []) run → P before → P (before ++ e ∷ [])) → P run
grow {X} run P start step = go [] run refl start
  where
    go : (before after : List X) → before ++ after ≡ run → P before → P run
    go before [] h p = subst P (sym (append-nil before) ∙ h) p
    go before (e ∷ after) h p =
        let whole : (before ++ e ∷ []) ++ after ≡ run = append_assoc before (e ∷ []) after ∙ h in
        go (before ++ e ∷ []) after whole (step before e (after, whole) p)

pub empty_list : {X : Type 0} (xs : List X) → length xs ≡ 0 → xs ≡ []
empty_list [] h = refl
empty_list (x ∷ xs) h = absurd (omega arith)

pub some_list : {X : Type 0} (xs : List X) → (length xs ≡ 0 → ⊥) → 0 < length xs
some_list [] h = absurd (h refl)
some_list (x ∷ xs) h = omega arith

-- a beginning and what is left past it
pub whole : {X : Type 0} (xs ys : List X) → IsBeginningOf xs ys → xs ++ drop (length xs) ys ≡ ys
whole xs ys h = ap (λ z. xs ++ drop (length xs) z) (sym h.1) ∙ ap (λ z. xs ++ z) (drop-append_seam xs h.0) ∙ h.1

-- of two beginnings of a list the shorter begins the longer
pub shorter_begins : {X : Type 0} (xs ys zs : List X) → IsBeginningOf xs zs → IsBeginningOf ys zs → length xs ≤ length ys → IsBeginningOf xs ys
shorter_begins [] ys zs h g l = (ys, refl)
shorter_begins (x ∷ xs) [] zs h g l = absurd (omega arith)
shorter_begins (x ∷ xs) (y ∷ ys) [] h g l = absurd (cc (h.1))
shorter_begins (x ∷ xs) (y ∷ ys) (z ∷ zs) h g l =
    let same : x ≡ y = cc (h.1, g.1) in
    let first : xs ++ h.0 ≡ zs = cc (h.1) in
    let second : ys ++ g.0 ≡ zs = cc (g.1) in
    let r = shorter_begins xs ys zs (h.0, first) (g.0, second) (omega arith) in
    (r.0, λ i. same i ∷ r.1 i)

-- the first n of a beginning begin the first n of the list
pub take_of_front : {X : Type 0} (n : ℕ) (xs ys : List X) → IsBeginningOf (take n xs) (take n (xs ++ ys))
take_of_front zero xs ys = ([], refl)
take_of_front (suc n) [] ys = (take (suc n) ys, refl)
take_of_front (suc n) (x ∷ xs) ys = let r = take_of_front n xs ys in (r.0, ap (λ z. x ∷ z) r.1)

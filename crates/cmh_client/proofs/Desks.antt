-- Replies that are given one after the other.
use Rattle.std.proofs.Common.{◌≡◌, ℕ, zero, suc, ◌+◌, ◌<◌, List, [], ◌∷◌, ◌++◌, length, take, drop, reverse, slice_index_or, Option, Some, None, refl, sym, ap, subst, ◌∙◌, arith, append_assoc, append-nil}
use Rattle.std.specs.List.{zip}
use Rattle.std.specs.Option.{option_to_list}
use Rattle.std.proofs.lemmas.List.{reverse-append}
use native.Mathlib.Numerals.{unary_clauses}
use Rattle.cmh_client.specs.Desks.{AreReplies, given_and}

pub reply_count : {E R : Type 0} (Replies : E → R → Type 0) (events : List E) (replies : List R) → AreReplies Replies events replies
    → length replies ≡ length events
reply_count Replies [] [] are = refl
reply_count Replies [] (r ∷ replies) are = absurd are
reply_count Replies (e ∷ events) [] are = absurd are
reply_count Replies (e ∷ events) (r ∷ replies) are = ap suc (reply_count Replies events replies are.1)

-- the reply at a place is one to the event there
pub reply_at : {E R : Type 0} (Replies : E → R → Type 0) (events : List E) (replies : List R) (at : ℕ) (e : E) (r : R)
    → AreReplies Replies events replies → at < length events → Replies (slice_index_or events at e) (slice_index_or replies at r)
reply_at Replies [] replies at e r are few = absurd (omega arith)
reply_at Replies (x ∷ events) [] at e r are few = absurd are
reply_at Replies (x ∷ events) (y ∷ replies) zero e r are few = are.0
reply_at Replies (x ∷ events) (y ∷ replies) (suc at) e r are few = reply_at Replies events replies at e r are.1 (omega arith)

pub given_both : {T : Type 0} (given : Option (List T)) (xs ys : List T) → given_and (given_and given xs) ys ≡ given_and given (xs ++ ys)
given_both None xs ys = refl
given_both (Some before) xs ys = ap Some (append_assoc before xs ys)

abbrev behind : {T : Type 0} → List T → List T
behind [] = []
behind (x ∷ xs) = xs

-- lists that end in one are the same before it
last_is : {T : Type 0} (xs ys : List T) (x y : T) → xs ++ x ∷ [] ≡ ys ++ y ∷ [] → (xs ≡ ys) × (x ≡ y)
last_is [] [] x y is = (refl, ap (λ l. slice_index_or l 0 x) is)
last_is [] (b ∷ []) x y is = absurd (omega (arith, ap length is))
last_is [] (b ∷ c ∷ ys) x y is = absurd (omega (arith, ap length is))
last_is (a ∷ []) [] x y is = absurd (omega (arith, ap length is))
last_is (a ∷ c ∷ xs) [] x y is = absurd (omega (arith, ap length is))
last_is (a ∷ xs) (b ∷ ys) x y is =
    let rest = last_is xs ys x y (ap behind is) in
    (ap (λ c. c ∷ xs) (ap (λ l. slice_index_or l 0 a) is) ∙ ap (λ l. b ∷ l) rest.0, rest.1)

front_of : {T : Type 0} (xs : List T) (at : ℕ) (d : T) → at < length xs → drop at xs ≡ slice_index_or xs at d ∷ drop (suc at) xs
front_of [] at d few = absurd (omega arith)
front_of (x ∷ xs) zero d few = refl
front_of (x ∷ xs) (suc at) d few = front_of xs at d (omega arith)

-- what was taken from behind a reversed list was next
taken_from : {T : Type 0} (xs : List T) (at : ℕ) (x : T) (left : List T) → at < length xs → reverse (drop at xs) ≡ left ++ x ∷ []
    → (left ≡ reverse (drop (suc at) xs)) × (x ≡ slice_index_or xs at x)
taken_from xs at x left few is =
    let first = slice_index_or xs at x in
    let rest = drop (suc at) xs in
    last_is left (reverse rest) x first
    (sym is ∙ (ap reverse (front_of xs at x few) ∙ reverse-append (first ∷ []) rest))

pub left_is : {T : Type 0} (xs old left : List T) (at : ℕ) (x : T) (taken : Option T) → at < length xs → old ≡ reverse (drop at xs)
    → old ≡ left ++ option_to_list taken → taken ≡ Some x → left ≡ reverse (drop (at + 1) xs)
left_is xs old left at x taken few before is one =
    simp unary_clauses (taken_from xs at x left few (sym before ∙ (is ∙ ap (λ (o : Option _). left ++ option_to_list o) one))).0

pub taken_is : {T : Type 0} (xs old left : List T) (at : ℕ) (x : T) (taken : Option T) → at < length xs → old ≡ reverse (drop at xs)
    → old ≡ left ++ option_to_list taken → taken ≡ Some x → x ≡ slice_index_or xs at x
taken_is xs old left at x taken few before is one =
    (taken_from xs at x left few (sym before ∙ (is ∙ ap (λ (o : Option _). left ++ option_to_list o) one))).1

zip_more : {T : Type 0} (ps : List ℕ) (rs : List T) (at p : ℕ) (r : T) → at < length ps → at < length rs
    → p ≡ slice_index_or ps at p → r ≡ slice_index_or rs at r
    → zip (take (suc at) ps) (take (suc at) rs) ≡ zip (take at ps) (take at rs) ++ (p, r) ∷ []
zip_more [] rs at p r few fewer is its = absurd (omega arith)
zip_more (x ∷ xs) [] at p r few fewer is its = absurd (omega arith)
zip_more (x ∷ xs) (y ∷ ys) zero p r few fewer is its = ap (λ v. v ∷ []) (cc)
zip_more (x ∷ xs) (y ∷ ys) (suc n) p r few fewer is its =
    ap (λ v. (x, y) ∷ v) (zip_more xs ys n p r (omega arith) (omega arith) is its)

-- one reply more was given
pub zipped_more : {T : Type 0} (ps : List ℕ) (rs : List T) (at p : ℕ) (r : T) → at < length ps → at < length rs
    → p ≡ slice_index_or ps at p → r ≡ slice_index_or rs at r
    → zip (take (at + 1) ps) (take (at + 1) rs) ≡ zip (take at ps) (take at rs) ++ (p, r) ∷ []
zipped_more ps rs at p r few fewer is its = simp unary_clauses (zip_more ps rs at p r few fewer is its)

pub given_nothing : {T : Type 0} (given : Option (List T)) → given ≡ given_and given []
given_nothing None = refl
given_nothing (Some before) = ap Some (sym (append-nil before))

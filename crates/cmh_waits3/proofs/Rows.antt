-- Lists of waits, with some more and with some fewer.
use Rattle.std.proofs.Common.{◌≡◌, ℕ, suc, zero, ◌<◌, Bool, true, false, not, ◌&&◌, ◌||◌, ◌==◌, if◌then◌else◌, cond, List, [], ◌∷◌, ◌++◌, length, get_or, take, drop, refl, sym, ap, ◌∙◌, subst, inl, inr, arith, true≢false}
use Rattle.std.specs.List.{AllByRecursion, insert}
use Rattle.std.proofs.lemmas.List.{take-append-drop}
use Rattle.std.proofs.lemmas.Bool.{eqb-true, eq-eqb, ne_eqb, cases_eq, cases_Bool}
use Rattle.cmh_model3.specs.Lists.{IsAscending, in_list, with_each, without, without_all}
use Rattle.cmh_model3.proofs.Counts.{eqb_sym, in_minus, in_with, not_after, or_no, or_yes, or_swap}
use Rattle.cmh_model3.proofs.Ascending.{each_ascends}
use Rattle.cmh_waits3.specs.declared.wait.Wait.{Wait}
use Rattle.cmh_waits3.specs.Inner.Inserting.{AreInserted, IsPlaceFor}
use Rattle.cmh_waits3.specs.Rows.{others_than, since_in, targets_of}
use Rattle.cmh_waits3.proofs.Lists.{at_in, not_before, same_ascending}

-- ---- one more

module _ (t s : ℕ) where
  abbrev one : Wait
  one = record { target = t; since = s }

  all_put : (x : ℕ) (xs ys : List Wait) → x < t → AllByRecursion (λ k. x < k) (targets_of (xs ++ ys)) → AllByRecursion (λ k. x < k) (targets_of (xs ++ one ∷ ys))
  all_put x [] ys low h = (low, h)
  all_put x (w ∷ xs) ys low h = (h.0, all_put x xs ys low h.1)

  put_ascends : (xs ys : List Wait) → IsAscending (targets_of (xs ++ ys)) → AllByRecursion (λ k. k < t) (targets_of xs) → AllByRecursion (λ k. t < k) (targets_of ys) → IsAscending (targets_of (xs ++ one ∷ ys))
  put_ascends [] ys up below above = (above, up)
  put_ascends (x ∷ xs) ys up below above = (all_put x.target xs ys below.0 up.0, put_ascends xs ys up.1 below.1 above)

  put_in : (xs ys : List Wait) (k : ℕ) → in_list (targets_of (xs ++ one ∷ ys)) k ≡ (in_list (t ∷ []) k || in_list (targets_of (xs ++ ys)) k)
  put_in [] ys k = ap (λ b. b || in_list (targets_of ys) k) (sym (or_no (t == k)))
  put_in (x ∷ xs) ys k = ap (λ b. (x.target == k) || b) (put_in xs ys k) ∙ turned (x.target == k) (in_list (t ∷ []) k) (in_list (targets_of (xs ++ ys)) k)
    where
      turned : (a b c : Bool) → (a || (b || c)) ≡ (b || (a || c))
      turned true b c = sym (or_yes b)
      turned false b c = refl

  put_since : (xs ys : List Wait) → AllByRecursion (λ k. k < t) (targets_of xs) → (k : ℕ) → since_in (xs ++ one ∷ ys) k ≡ if in_list (t ∷ []) k then s else since_in (xs ++ ys) k
  put_since [] ys below k = ap (λ b. if b then s else since_in ys k) (sym (or_no (t == k)))
  put_since (x ∷ xs) ys below k = elim (cases_eq x.target k) [
    | inl e ↦
        let low = below.0 in
        ap (λ b. if b then x.since else since_in (xs ++ one ∷ ys) k) (eq-eqb x.target k e)
        ∙ sym (ap (λ b. if b then s else since_in (x ∷ xs ++ ys) k) (ap (λ b. b || false) (ne_eqb t k (λ f. absurd (omega (arith, low, e, f)))))
        ∙ ap (λ b. if b then x.since else since_in (xs ++ ys) k) (eq-eqb x.target k e))
    | inr n ↦
        ap (λ b. if b then x.since else since_in (xs ++ one ∷ ys) k) (ne_eqb x.target k n)
        ∙ put_since xs ys below.1 k
        ∙ sym (ap (λ z. if in_list (t ∷ []) k then s else z) (ap (λ b. if b then x.since else since_in (xs ++ ys) k) (ne_eqb x.target k n)))
  ]

  put_others : (qs : List ℕ) → in_list qs t ≡ true → (xs ys : List Wait) → others_than qs (xs ++ one ∷ ys) ≡ others_than qs (xs ++ ys)
  put_others qs here [] ys = ap (λ b. cond (not b) (one ∷ others_than qs ys) (others_than qs ys)) here
  put_others qs here (x ∷ xs) ys = ap (λ r. cond (not (in_list qs x.target)) (x ∷ r) r) (put_others qs here xs ys)

  pub put : (xs ys : List Wait) → IsAscending (targets_of (xs ++ ys)) → AllByRecursion (λ k. k < t) (targets_of xs) → AllByRecursion (λ k. t < k) (targets_of ys)
      → AreInserted (t ∷ []) s (xs ++ ys) (xs ++ one ∷ ys)
  put xs ys up below above = record {
    ascending = put_ascends xs ys up below above;
    targets = put_in xs ys;
    stamps = put_since xs ys below;
    others = λ qs all. put_others qs (all t (ap (λ b. b || false) (eq-eqb t t refl))) xs ys;
  }

-- at its place
pub put_at : (t s : ℕ) (ws : List Wait) (i : ℕ) → IsAscending (targets_of ws) → IsPlaceFor t i ws → AreInserted (t ∷ []) s ws (insert ws i (record { target = t; since = s }))
put_at t s ws i up place =
    let whole = take-append-drop i ws in
    subst (λ (old : List Wait). AreInserted (t ∷ []) s old (take i ws ++ one t s ∷ drop i ws)) whole
    (put t s (take i ws) (drop i ws) (subst (λ (xs : List Wait). IsAscending (targets_of xs)) (sym whole) up) place.below place.above)

-- ---- each of some more

pub none_inserted : (s : ℕ) (ws : List Wait) → IsAscending (targets_of ws) → AreInserted [] s ws ws
none_inserted s ws up = record { ascending = up; targets = λ k. refl; stamps = λ k. refl; others = λ qs all. refl }

-- what comes next is not there yet
pub still_new : (ks : List ℕ) (i x s : ℕ) (old mid : List Wait) → IsAscending ks → i < length ks → get_or ks i 0 ≡ x → ((k : ℕ) → in_list ks k ≡ true → in_list (targets_of old) k ≡ false)
    → AreInserted (take i ks) s old mid → in_list (targets_of mid) x ≡ false
still_new ks i x s old mid up inside is new are =
    are.targets x
    ∙ ap (λ b. b || in_list (targets_of old) x) (ap (in_list (take i ks)) (sym is) ∙ not_before ks i up inside)
    ∙ new x (at_in ks i x inside is)

if_or : (a b : Bool) (s x : ℕ) → (if (b || false) then s else (if a then s else x)) ≡ (if (a || b) then s else x)
if_or true true s x = refl
if_or true false s x = refl
if_or false true s x = refl
if_or false false s x = refl

-- those so far, and one more
pub insert_more : (so_far more : List ℕ) (k s : ℕ) (old mid new : List Wait) → ((q : ℕ) → in_list more q ≡ (in_list so_far q || (k == q))) → AreInserted so_far s old mid → AreInserted (k ∷ []) s mid new → AreInserted more s old new
insert_more so_far more k s old mid new are first next = record {
  ascending = next.ascending;
  targets = λ q.
      next.targets q ∙ ap (λ b. in_list (k ∷ []) q || b) (first.targets q)
      ∙ turned (in_list so_far q) (k == q) (in_list (targets_of old) q)
      ∙ ap (λ b. b || in_list (targets_of old) q) (sym (are q));
  stamps = λ q.
      next.stamps q
      ∙ ap (λ z. if in_list (k ∷ []) q then s else z) (first.stamps q)
      ∙ if_or (in_list so_far q) (k == q) s (since_in old q)
      ∙ ap (λ b. if b then s else since_in old q) (sym (are q));
  others = λ qs all.
      next.others qs (λ q h. all q (are q ∙ ap (λ b. in_list so_far q || b) (sym (or_no (k == q)) ∙ h) ∙ or_yes (in_list so_far q)))
      ∙ first.others qs (λ q h. all q (are q ∙ ap (λ b. b || (k == q)) h));
}
  where
    turned : (a b c : Bool) → ((b || false) || (a || c)) ≡ ((a || b) || c)
    turned true b c = or_yes (b || false)
    turned false true c = refl
    turned false false c = refl

-- ---- fewer

pub all_others : (t : ℕ) (ks : List ℕ) (ws : List Wait) → AllByRecursion (λ k. t < k) (targets_of ws) → AllByRecursion (λ k. t < k) (targets_of (others_than ks ws))
all_others t ks [] h = tt
all_others t ks (w ∷ ws) h = go (in_list ks w.target) (all_others t ks ws h.1)
  where
    go : (b : Bool) → AllByRecursion (λ k. t < k) (targets_of (others_than ks ws)) → AllByRecursion (λ k. t < k) (targets_of (cond (not b) (w ∷ others_than ks ws) (others_than ks ws)))
    go true more = more
    go false more = (h.0, more)

pub others_ascend : (ks : List ℕ) (ws : List Wait) → IsAscending (targets_of ws) → IsAscending (targets_of (others_than ks ws))
others_ascend ks [] up = tt
others_ascend ks (w ∷ ws) up = go (in_list ks w.target) (others_ascend ks ws up.1)
  where
    go : (b : Bool) → IsAscending (targets_of (others_than ks ws)) → IsAscending (targets_of (cond (not b) (w ∷ others_than ks ws) (others_than ks ws)))
    go true more = more
    go false more = (all_others w.target ks ws up.0, more)

-- where none of them is there, nothing is taken
pub others_apart : (ks : List ℕ) (ws : List Wait) → ((k : ℕ) → in_list ks k ≡ true → in_list (targets_of ws) k ≡ false) → others_than ks ws ≡ ws
others_apart ks [] apart = refl
others_apart ks (w ∷ ws) apart = elim (cases_Bool (in_list ks w.target)) [
  | inl e ↦ absurd (true≢false (sym (ap (λ b. b || in_list (targets_of ws) w.target) (eq-eqb w.target w.target refl)) ∙ apart w.target e))
  | inr e ↦
      ap (λ b. cond (not b) (w ∷ others_than ks ws) (others_than ks ws)) e
      ∙ ap (λ r. w ∷ r) (others_apart ks ws (λ k h. neither (w.target == k) (in_list (targets_of ws) k) (apart k h)))
]
  where
    neither : (a b : Bool) → (a || b) ≡ false → b ≡ false
    neither true b h = absurd (true≢false h)
    neither false b h = h

-- those so far, and one more
pub others_more : (so_far more : List ℕ) (k : ℕ) (ws : List Wait) → ((q : ℕ) → in_list more q ≡ (in_list so_far q || (k == q))) → others_than (k ∷ []) (others_than so_far ws) ≡ others_than more ws
others_more so_far more k [] are = refl
others_more so_far more k (w ∷ ws) are =
    go (in_list so_far w.target) (k == w.target) refl (others_more so_far more k ws are)
    ∙ ap (λ b. cond (not b) (w ∷ others_than more ws) (others_than more ws)) (sym (are w.target))
  where
    go : (a b : Bool) → (k == w.target) ≡ b → others_than (k ∷ []) (others_than so_far ws) ≡ others_than more ws
        → others_than (k ∷ []) (cond (not a) (w ∷ others_than so_far ws) (others_than so_far ws)) ≡ cond (not (a || b)) (w ∷ others_than more ws) (others_than more ws)
    go true b e next = next
    go false true e next = ap (λ z. cond (not (z || false)) (w ∷ others_than (k ∷ []) (others_than so_far ws)) (others_than (k ∷ []) (others_than so_far ws))) e ∙ next
    go false false e next = ap (λ z. cond (not (z || false)) (w ∷ others_than (k ∷ []) (others_than so_far ws)) (others_than (k ∷ []) (others_than so_far ws))) e ∙ ap (λ r. w ∷ r) next

-- the one at this place
pub taken : (ws : List Wait) (i t : ℕ) → IsAscending (targets_of ws) → i < length ws → get_or (targets_of ws) i 0 ≡ t → take i ws ++ drop (suc i) ws ≡ others_than (t ∷ []) ws
taken [] i t up inside at = absurd (omega (arith, inside))
taken (w ∷ ws) zero t up inside at =
    sym (ap (λ b. cond (not (b || false)) (w ∷ others_than (t ∷ []) ws) (others_than (t ∷ []) ws)) (eq-eqb t w.target (sym at))
    ∙ others_apart (t ∷ []) ws (λ k h. not_after k (targets_of ws) (moved w.target k (targets_of ws) (at ∙ eqb-true t k (sym (or_no (t == k)) ∙ h)) up.0)))
  where
    moved : (x k : ℕ) (xs : List ℕ) → x ≡ k → AllByRecursion (λ y. x < y) xs → AllByRecursion (λ y. k < y) xs
    moved x k [] e h = tt
    moved x k (z ∷ zs) e h = let low = h.0 in (omega (arith, e, low), moved x k zs e h.1)
taken (w ∷ ws) (suc i) t up inside at =
    let within : i < length ws = omega (arith, inside) in
    let later = at_above w.target ws i up.0 within in
    ap (λ r. w ∷ r) (taken ws i t up.1 within at)
    ∙ sym (ap (λ b. cond (not (b || false)) (w ∷ others_than (t ∷ []) ws) (others_than (t ∷ []) ws)) (ne_eqb t w.target (λ e. absurd (omega (arith, later, at, e)))))
  where
    at_above : (x : ℕ) (ws : List Wait) (i : ℕ) → AllByRecursion (λ y. x < y) (targets_of ws) → i < length ws → x < get_or (targets_of ws) i 0
    at_above x [] i above inside = absurd (omega (arith, inside))
    at_above x (y ∷ ys) zero above inside = above.0
    at_above x (y ∷ ys) (suc i) above inside = at_above x ys i above.1 (omega (arith, inside))

-- ---- in the words of the model

pub inserted_waits : (ks : List ℕ) (s : ℕ) (old new : List Wait) → IsAscending ks → ((k : ℕ) → in_list ks k ≡ true → in_list (targets_of old) k ≡ false) → AreInserted ks s old new → targets_of new ≡ with_each (targets_of old) ks
inserted_waits ks s old new more apart are =
    let before : others_than ks new ≡ old = are.others ks (λ k h. h) ∙ others_apart ks old apart in
    let up = subst (λ (ws : List Wait). IsAscending (targets_of ws)) before (others_ascend ks new are.ascending) in
    same_ascending (targets_of new) (with_each (targets_of old) ks) are.ascending (each_ascends (targets_of old) ks up more apart)
    (λ k. are.targets k ∙ or_swap (in_list ks k) (in_list (targets_of old) k) ∙ sym (in_with (targets_of old) ks k))

pub targets_without_all : (ks : List ℕ) (ws : List Wait) → targets_of (others_than ks ws) ≡ without_all (targets_of ws) ks
targets_without_all ks [] = refl
targets_without_all ks (w ∷ ws) = go (in_list ks w.target) (targets_without_all ks ws)
  where
    go : (b : Bool) → targets_of (others_than ks ws) ≡ without_all (targets_of ws) ks
        → targets_of (cond (not b) (w ∷ others_than ks ws) (others_than ks ws)) ≡ (if b then without_all (targets_of ws) ks else w.target ∷ without_all (targets_of ws) ks)
    go true more = more
    go false more = ap (λ r. w.target ∷ r) more

pub without_is : (xs : List ℕ) (k : ℕ) → without_all xs (k ∷ []) ≡ without xs k
without_is [] k = refl
without_is (x ∷ xs) k = ap (λ b. if b then without_all xs (k ∷ []) else x ∷ without_all xs (k ∷ [])) (or_no (k == x) ∙ eqb_sym k x) ∙ go (x == k) (without_is xs k)
  where
    go : (b : Bool) → without_all xs (k ∷ []) ≡ without xs k → (if b then without_all xs (k ∷ []) else x ∷ without_all xs (k ∷ [])) ≡ (if b then without xs k else x ∷ without xs k)
    go true more = more
    go false more = ap (λ r. x ∷ r) more

pub since_none : (ws : List Wait) (k : ℕ) → in_list (targets_of ws) k ≡ false → since_in ws k ≡ 0
since_none [] k none = refl
since_none (w ∷ ws) k none = go (w.target == k) none (since_none ws k)
  where
    go : (b : Bool) → (b || in_list (targets_of ws) k) ≡ false → (in_list (targets_of ws) k ≡ false → since_in ws k ≡ 0) → (if b then w.since else since_in ws k) ≡ 0
    go true h more = absurd (true≢false h)
    go false h more = more h

pub since_kept : (ks : List ℕ) (ws : List Wait) (k : ℕ) → in_list ks k ≡ false → since_in (others_than ks ws) k ≡ since_in ws k
since_kept ks [] k kept = refl
since_kept ks (w ∷ ws) k kept = elim (cases_Bool (in_list ks w.target)) [
  | inl e ↦
      ap (λ b. since_in (cond (not b) (w ∷ others_than ks ws) (others_than ks ws)) k) e
      ∙ since_kept ks ws k kept
      ∙ sym (ap (λ b. if b then w.since else since_in ws k) (ne_eqb w.target k (λ same. true≢false (sym e ∙ ap (in_list ks) same ∙ kept))))
  | inr e ↦
      ap (λ b. since_in (cond (not b) (w ∷ others_than ks ws) (others_than ks ws)) k) e
      ∙ ap (λ z. if w.target == k then w.since else z) (since_kept ks ws k kept)
]

pub since_others : (ks : List ℕ) (ws : List Wait) (k : ℕ) → since_in (others_than ks ws) k ≡ if in_list (without_all (targets_of ws) ks) k then since_in ws k else 0
since_others ks ws k = elim (cases_Bool (in_list (without_all (targets_of ws) ks) k)) [
  | inl e ↦
      since_kept ks ws k (kept (in_list (targets_of ws) k) (in_list ks k) (sym (in_minus (targets_of ws) ks k) ∙ e))
      ∙ sym (ap (λ b. if b then since_in ws k else 0) e)
  | inr e ↦
      since_none (others_than ks ws) k (ap (λ xs. in_list xs k) (targets_without_all ks ws) ∙ e)
      ∙ sym (ap (λ b. if b then since_in ws k else 0) e)
]
  where
    kept : (a b : Bool) → (a && not b) ≡ true → b ≡ false
    kept a true h = absurd (true≢false (sym h ∙ and_no a))
      where
        and_no : (a : Bool) → (a && false) ≡ false
        and_no true = refl
        and_no false = refl
    kept a false h = refl

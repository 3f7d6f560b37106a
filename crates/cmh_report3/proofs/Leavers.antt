-- The least member of a cycle that has given up its wait for the next one.
use Rattle.std.proofs.Common.{◌≡◌, ℕ, zero, suc, ◌+◌, ◌-◌, ◌<◌, ◌≤◌, Bool, true, false, List, [], ◌∷◌, ◌++◌, length, get_or, take, min, Option, None, Some, refl, sym, ap, subst, ◌∙◌, ◌⊎◌, inl, inr, arith, true≢false}
use Rattle.std.specs.Prelude.{MatchOption}
use Rattle.std.proofs.lemmas.Bool.{cases_lt}
use Rattle.std.proofs.lemmas.List.{get_or_default, take_more}
use Rattle.cmh_model3.specs.Waits.{IsNext}
use Rattle.cmh_report3.specs.Reports.{Leaves}
use Rattle.cmh_report3.specs.Inner.Leavers.{IsLeastIn}

abbrev last_of : ℕ → List ℕ → ℕ
last_of p [] = p
last_of p (q ∷ qs) = last_of q qs

last_take : (x : ℕ) (xs : List ℕ) (m : ℕ) → m < length xs + 1 → last_of x (take m xs) ≡ get_or (x ∷ xs) m 0
last_take x xs zero inside = refl
last_take x [] (suc m) inside = absurd (omega (arith, inside))
last_take x (y ∷ ys) (suc m) inside = last_take y ys m (omega (arith, inside))

next_old : (p : ℕ) (qs : List ℕ) (y a b : ℕ) → IsNext p qs a b → IsNext p (qs ++ y ∷ []) a b
next_old p [] y a b h = absurd h
next_old p (q ∷ qs) y a b (inl h) = inl h
next_old p (q ∷ qs) y a b (inr h) = inr (next_old q qs y a b h)

next_new : (p : ℕ) (qs : List ℕ) (y : ℕ) → IsNext p (qs ++ y ∷ []) (last_of p qs) y
next_new p [] y = inl (refl, refl)
next_new p (q ∷ qs) y = inr (next_new q qs y)

next_split : (p : ℕ) (qs : List ℕ) (y a b : ℕ) → IsNext p (qs ++ y ∷ []) a b → IsNext p qs a b ⊎ ((last_of p qs ≡ a) × (y ≡ b))
next_split p [] y a b (inl h) = inr h
next_split p [] y a b (inr h) = absurd h
next_split p (q ∷ qs) y a b (inl h) = inl (inl h)
next_split p (q ∷ qs) y a b (inr h) = elim (next_split q qs y a b h) [
  | inl old ↦ inl (inr old)
  | inr new ↦ inr new
]

module _ (left : ℕ → ℕ → Bool) where
  abbrev Left : ℕ → ℕ → Type 0
  Left j k = left j k ≡ true

  pub least_none : (members : List ℕ) → IsLeastIn left (take 1 members) None
  least_none [] = λ j h. absurd h
  least_none (x ∷ xs) = λ j h. absurd h.1

  -- who leaves by the members so far, or by the last of them
  leaves_split : (x : ℕ) (qs : List ℕ) (y j : ℕ) → Leaves Left (x ∷ (qs ++ y ∷ [])) j → Leaves Left (x ∷ qs) j ⊎ ((last_of x qs ≡ j) × Left j y)
  leaves_split x qs y j (k, next, leaves) = elim (next_split x qs y j k next) [
    | inl old ↦ inl (k, old, leaves)
    | inr new ↦ inr (new.0, subst (λ z. Left j z) (sym new.1) leaves)
  ]

  leaves_old : (x : ℕ) (qs : List ℕ) (y j : ℕ) → Leaves Left (x ∷ qs) j → Leaves Left (x ∷ (qs ++ y ∷ [])) j
  leaves_old x qs y j (k, next, leaves) = (k, next_old x qs y j k next, leaves)

  leaves_new : (x : ℕ) (qs : List ℕ) (y : ℕ) → Left (last_of x qs) y → Leaves Left (x ∷ (qs ++ y ∷ [])) (last_of x qs)
  leaves_new x qs y leaves = (y, next_new x qs y, leaves)

  hit_at : (x : ℕ) (qs : List ℕ) (y : ℕ) (least : Option ℕ) (n : ℕ) → Left (last_of x qs) y → IsLeastIn left (x ∷ qs) least
      → MatchOption least (n ≡ last_of x qs) (λ o. n ≡ min o (last_of x qs)) → IsLeastIn left (x ∷ (qs ++ y ∷ [])) (Some n)
  hit_at x qs y None n leaves none is = (
    subst (Leaves Left (x ∷ (qs ++ y ∷ []))) (sym is) (leaves_new x qs y leaves),
    λ j h. elim (leaves_split x qs y j h) [
      | inl old ↦ absurd (none j old)
      | inr new ↦ let same = new.0 in omega (arith, same, is)
    ],
  )
  hit_at x qs y (Some o) n leaves some is = elim (cases_lt (last_of x qs) o) [
    | inl less ↦
        let n_is : n ≡ last_of x qs = omega (arith, less, is) in (
          subst (Leaves Left (x ∷ (qs ++ y ∷ []))) (sym n_is) (leaves_new x qs y leaves),
          λ j h. elim (leaves_split x qs y j h) [
            | inl old ↦ let most = some.1 j old in omega (arith, most, less, n_is)
            | inr new ↦ let same = new.0 in omega (arith, same, n_is)
          ],
        )
    | inr more ↦
        let n_is : n ≡ o = omega (arith, more, is) in (
          subst (Leaves Left (x ∷ (qs ++ y ∷ []))) (sym n_is) (leaves_old x qs y o some.0),
          λ j h. elim (leaves_split x qs y j h) [
            | inl old ↦ let most = some.1 j old in omega (arith, most, n_is)
            | inr new ↦ let same = new.0 in omega (arith, same, more, n_is)
          ],
        )
  ]

  miss_at : (x : ℕ) (qs : List ℕ) (y : ℕ) (least : Option ℕ) → left (last_of x qs) y ≡ false → IsLeastIn left (x ∷ qs) least
      → IsLeastIn left (x ∷ (qs ++ y ∷ [])) least
  miss_at x qs y None stays none = λ j h. elim (leaves_split x qs y j h) [
    | inl old ↦ none j old
    | inr new ↦ true≢false (sym (subst (λ z. Left z y) (sym new.0) new.1) ∙ stays)
  ]
  miss_at x qs y (Some o) stays some = (
    leaves_old x qs y o some.0,
    λ j h. elim (leaves_split x qs y j h) [
      | inl old ↦ some.1 j old
      | inr new ↦ absurd (true≢false (sym (subst (λ z. Left z y) (sym new.0) new.1) ∙ stays))
    ],
  )

  longer : (x : ℕ) (xs : List ℕ) (m y : ℕ) → suc m < length (x ∷ xs) → y ≡ get_or (x ∷ xs) (suc m) y → take (suc m + 1) (x ∷ xs) ≡ x ∷ (take m xs ++ y ∷ [])
  longer x xs m y inside is = take_more (x ∷ xs) (suc m) y inside ∙ ap (λ z. x ∷ (take m xs ++ z ∷ [])) (sym is)

  pub least_hit : (members : List ℕ) (m first second : ℕ) (least : Option ℕ) (n : ℕ) → suc m < length members
      → first ≡ get_or members m 0 → second ≡ get_or members (suc m) second → left first second ≡ true
      → IsLeastIn left (take (suc m) members) least → MatchOption least (n ≡ first) (λ o. n ≡ min o first)
      → IsLeastIn left (take (suc m + 1) members) (Some n)
  least_hit [] m first second least n inside is next hit so_far lesser = absurd (omega (arith, inside))
  least_hit (x ∷ xs) m first second least n inside is next hit so_far lesser =
      let last : first ≡ last_of x (take m xs) = is ∙ sym (last_take x xs m (omega (arith, inside))) in
      subst (λ ms. IsLeastIn left ms (Some n)) (sym (longer x xs m second inside next))
      (hit_at x (take m xs) second least n (subst (λ z. Left z second) last hit) so_far
      (subst (λ z. MatchOption least (n ≡ z) (λ o. n ≡ min o z)) last lesser))

  pub least_miss : (members : List ℕ) (m first second : ℕ) (least : Option ℕ) → suc m < length members
      → first ≡ get_or members m 0 → second ≡ get_or members (suc m) second → left first second ≡ false
      → IsLeastIn left (take (suc m) members) least → IsLeastIn left (take (suc m + 1) members) least
  least_miss [] m first second least inside is next miss so_far = absurd (omega (arith, inside))
  least_miss (x ∷ xs) m first second least inside is next miss so_far =
      let last : first ≡ last_of x (take m xs) = is ∙ sym (last_take x xs m (omega (arith, inside))) in
      subst (λ ms. IsLeastIn left ms least) (sym (longer x xs m second inside next))
      (miss_at x (take m xs) second least (subst (λ z. left z second ≡ false) last miss) so_far)

  -- the same at a place of the members
  pub hit_here : (members : List ℕ) (place first other second : ℕ) (least : Option ℕ) (n : ℕ) → 1 ≤ place → place < length members
      → first ≡ get_or members (place - 1) first → other ≡ get_or members (place - 1) other → second ≡ get_or members place second
      → left first second ≡ true → IsLeastIn left (take place members) least → MatchOption least (n ≡ other) (λ o. n ≡ min o other)
      → IsLeastIn left (take (place + 1) members) (Some n)
  hit_here members zero first other second least n some inside is again next hit so_far lesser = absurd (omega (arith, some))
  hit_here members (suc m) first other second least n some inside is again next hit so_far lesser =
      let back : suc m - 1 ≡ m = omega arith in
      let one : first ≡ get_or members m 0 = is ∙ ap (λ q. get_or members q first) back ∙ get_or_default members m first 0 (omega (arith, inside)) in
      let two : other ≡ get_or members m 0 = again ∙ ap (λ q. get_or members q other) back ∙ get_or_default members m other 0 (omega (arith, inside)) in
      least_hit members m first second least n inside one next hit so_far
      (subst (λ z. MatchOption least (n ≡ z) (λ o. n ≡ min o z)) (two ∙ sym one) lesser)

  pub miss_here : (members : List ℕ) (place first second : ℕ) (least : Option ℕ) → 1 ≤ place → place < length members
      → first ≡ get_or members (place - 1) first → second ≡ get_or members place second
      → left first second ≡ false → IsLeastIn left (take place members) least → IsLeastIn left (take (place + 1) members) least
  miss_here members zero first second least some inside is next miss so_far = absurd (omega (arith, some))
  miss_here members (suc m) first second least some inside is next miss so_far =
      let back : suc m - 1 ≡ m = omega arith in
      let one : first ≡ get_or members m 0 = is ∙ ap (λ q. get_or members q first) back ∙ get_or_default members m first 0 (omega (arith, inside)) in
      least_miss members m first second least inside one next miss so_far

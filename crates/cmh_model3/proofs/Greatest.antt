-- The youngest ask of a cycle.
use Rattle.std.proofs.Common.{◌≡◌, ◌⊎◌, ℕ, ◌≤◌, ◌<◌, Bool, true, false, ◌&&◌, ◌||◌, List, [], ◌∷◌, ◌++◌, ◌==◌, refl, sym, ap, ◌∙◌, subst, inl, inr, true≢false, arith}
use Rattle.std.proofs.lemmas.Bool.{cases_eq, cases_lt, eqb-true, eq-eqb, or_cases, ltb-true, lt-ltb, false_from_ne_true, and_parts}
use Rattle.cmh_model3.specs.Lists.{in_list, is_before}
use Rattle.cmh_model3.specs.Paths.{IsPath}
use Rattle.cmh_model3.specs.Runs.{state_of}
use Rattle.cmh_model3.specs.Waits.{Waits}
use Rattle.cmh_model3.specs.Laws.{EachCycleDeclared}
use Rattle.std.specs.Prelude.{ltb}
use Rattle.cmh_model3.proofs.Counts.{in_joined}
use Rattle.cmh_model3.proofs.Outcomes.{path_join}
use Rattle.cmh_model3.proofs.Runs.{holds_of_run}
use Rattle.cmh_model3.proofs.Silent.{no_silent_deadlock}

-- the order of asks, in asks_of
abbrev AtMost : ℕ → ℕ → ℕ → ℕ → Type 0
AtMost m k n i = (m < n) ⊎ ((m ≡ n) × (k ≤ i))

from_test : (n i m k : ℕ) → is_before n i m k ≡ false → AtMost m k n i
from_test n i m k h = elim (cases_lt m n) [
  | inl l ↦ inl l
  | inr ge ↦ elim (cases_eq n m) [
    | inr far ↦ absurd (true≢false (sym (ap (λ z. z || ((n == m) && ltb i k)) (lt-ltb n m (omega (arith, ge, far)))) ∙ h))
    | inl e ↦ elim (cases_lt i k) [
      | inl l ↦ absurd (true≢false (sym (or_end (ltb n m) ((n == m) && ltb i k) (ap (λ z. z && ltb i k) (eq-eqb n m e) ∙ lt-ltb i k l)) ∙ h))
      | inr up ↦ inr (sym e, up)
    ]
  ]
]
  where
    or_end : (a b : Bool) → b ≡ true → (a || b) ≡ true
    or_end true b y = refl
    or_end false b y = y

to_test : (n i m k : ℕ) → AtMost m k n i → is_before n i m k ≡ false
to_test n i m k h = false_from_ne_true (is_before n i m k) (λ t. elim (or_cases (ltb n m) ((n == m) && ltb i k) t) [
  | inl l ↦ let lt = ltb-true n m l in elim h [ inl a ↦ absurd (omega (arith, lt, a)) | inr b ↦ let e = b.0 in absurd (omega (arith, lt, e)) ]
  | inr both ↦
      let parts = and_parts (n == m) (ltb i k) both in
      let e = eqb-true n m parts.0 in
      let l = ltb-true i k parts.1 in
      elim h [ inl a ↦ absurd (omega (arith, e, a)) | inr b ↦ let up = b.1 in absurd (omega (arith, l, up)) ]
])

trans : (m k n i p j : ℕ) → AtMost m k n i → AtMost n i p j → AtMost m k p j
trans m k n i p j (inl a) (inl b) = inl (omega (arith, a, b))
trans m k n i p j (inl a) (inr b) = let e = b.0 in inl (omega (arith, a, e))
trans m k n i p j (inr a) (inl b) = let e = a.0 in inl (omega (arith, b, e))
trans m k n i p j (inr a) (inr b) = let u = a.1 in let t = b.1 in inr (a.0 ∙ b.0, omega (arith, u, t))

total : (m k n i : ℕ) → AtMost m k n i ⊎ AtMost n i m k
total m k n i = elim (cases_lt m n) [
  | inl l ↦ inl (inl l)
  | inr ge ↦ elim (cases_eq m n) [
    | inr far ↦ inr (inl (omega (arith, ge, far)))
    | inl e ↦ elim (cases_lt k i) [ inl l ↦ inl (inr (e, omega (arith, l))) | inr up ↦ inr (inr (sym e, up)) ]
  ]
]

-- of a list that isn't empty one has the greatest
greatest : (f : ℕ → ℕ) (x : ℕ) (xs : List ℕ) → (front : List ℕ) × (top : ℕ) × (back : List ℕ) × (x ∷ xs ≡ front ++ top ∷ back) × ((k : ℕ) → in_list (x ∷ xs) k ≡ true → AtMost (f k) k (f top) top)
greatest f x [] = ([], x, [], refl, λ k h. let e = found x k h in inr (ap f (sym e), omega (arith, e)))
  where
    found : (x k : ℕ) → ((x == k) || false) ≡ true → x ≡ k
    found x k h = elim (or_cases (x == k) false h) [ inl e ↦ eqb-true x k e | inr z ↦ absurd (true≢false (sym z)) ]
greatest f x (y ∷ ys) =
    let r = greatest f y ys in
    elim (total (f x) x (f r.1) r.1) [
      | inl low ↦ (
        x ∷ r.0,
        r.1,
        r.2,
        (λ t. x ∷ r.3 t),
        λ k h. elim (or_cases (x == k) (in_list (y ∷ ys) k) h) [
          | inl e ↦ subst (λ z. AtMost (f z) z (f r.1) r.1) (eqb-true x k e) low
          | inr more ↦ r.4 k more
        ],
      )
      | inr high ↦ (
        [],
        x,
        y ∷ ys,
        refl,
        λ k h. elim (or_cases (x == k) (in_list (y ∷ ys) k) h) [
          | inl e ↦ let g = eqb-true x k e in inr (ap f (sym g), omega (arith, g))
          | inr more ↦ trans (f k) k (f r.1) r.1 (f x) x (r.4 k more) high
        ],
      )
    ]

-- a path can be cut at a member
pub path_cut : (W : ℕ → ℕ → Type 0) (p : ℕ) (front : List ℕ) (top : ℕ) (back : List ℕ) (q : ℕ) → IsPath W p (front ++ top ∷ back) q → IsPath W p (front ++ (top ∷ [])) top × IsPath W top back q
path_cut W p [] top back q h = ((h.0, refl), h.1)
path_cut W p (x ∷ front) top back q h = let r = path_cut W x front top back q h.1 in ((h.0, r.0), r.1)

path_with : (V W : ℕ → ℕ → Type 0) (p : ℕ) (xs : List ℕ) (q : ℕ) → IsPath V p xs q → ((x y : ℕ) → (x ≡ p) ⊎ (in_list xs x ≡ true) → V x y → W x y) → IsPath W p xs q
path_with V W p [] q h f = h
path_with V W p (r ∷ rs) q h f = (
  f p r (inl refl) h.0,
  path_with V W r rs q h.1 (λ x y g v. f x y (inr (elim g [
    | inl e ↦ ap (λ z. z || in_list rs x) (eq-eqb r x (sym e))
    | inr more ↦ later (r == x) (in_list rs x) more
  ])) v),
)
  where
    later : (a b : Bool) → b ≡ true → (a || b) ≡ true
    later true b y = refl
    later false b y = y

pub each_cycle_declared : EachCycleDeclared
each_cycle_declared home events run drained i next members cycle =
    let f : ℕ → ℕ = λ k. (state_of home (home k) events).stamp k in
    let r = greatest f next members in
    let whole : IsPath (Waits events) i (r.0 ++ r.1 ∷ r.2) i = subst (λ l. IsPath (Waits events) i l i) r.3 cycle in
    let cut = path_cut (Waits events) i r.0 r.1 r.2 i whole in
    let round : IsPath (Waits events) r.1 (r.2 ++ (r.0 ++ (r.1 ∷ []))) r.1 = path_join (Waits events) r.1 r.2 i (r.0 ++ (r.1 ∷ [])) r.1 cut.1 cut.0 in (
      r.1,
      ap (λ l. in_list l r.1) r.3 ∙ in_joined r.0 (r.1 ∷ r.2) r.1 ∙ ap (λ z. in_list r.0 r.1 || (z || in_list r.2 r.1)) (eq-eqb r.1 r.1 refl) ∙ or_end (in_list r.0 r.1),
      silent r.1 (r.2 ++ (r.0 ++ (r.1 ∷ []))) (some r.2 r.0 r.1) round (λ k h. r.4 k (ap (λ l. in_list l k) r.3 ∙ in_joined r.0 (r.1 ∷ r.2) k ∙ turned r.0 r.1 r.2 k h)),
    )
  where
    or_end : (a : Bool) → (a || true) ≡ true
    or_end true = refl
    or_end false = refl

    some : (xs ys : List ℕ) (t : ℕ) → (y : ℕ) × (ys2 : List ℕ) × (xs ++ (ys ++ (t ∷ [])) ≡ y ∷ ys2)
    some [] [] t = (t, [], refl)
    some [] (y ∷ ys) t = (y, ys ++ (t ∷ []), refl)
    some (x ∷ xs) ys t = (x, xs ++ (ys ++ (t ∷ [])), refl)

    turned : (front : List ℕ) (t : ℕ) (back : List ℕ) (k : ℕ) → in_list (back ++ (front ++ (t ∷ []))) k ≡ true → (in_list front k || in_list (t ∷ back) k) ≡ true
    turned front t back k h = go (in_list front k) (t == k) (in_list back k) (sym (in_joined back (front ++ (t ∷ [])) k ∙ ap (λ z. in_list back k || z) (in_joined front (t ∷ []) k)) ∙ h)
      where
        go : (a b c : Bool) → (c || (a || (b || false))) ≡ true → (a || (b || c)) ≡ true
        go true b c h = refl
        go false true c h = refl
        go false false true h = refl
        go false false false h = h

    silent : (t : ℕ) (l : List ℕ) → (y : ℕ) × (ys : List ℕ) × (l ≡ y ∷ ys) → IsPath (Waits events) t l t
        → ((k : ℕ) → in_list l k ≡ true → AtMost ((state_of home (home k) events).stamp k) k ((state_of home (home t) events).stamp t) t)
        → (state_of home (home t) events).declared t ≡ true
    silent t l s p old =
        let q : IsPath (Waits events) t (s.0 ∷ s.1) t = subst (λ z. IsPath (Waits events) t z t) s.2 p in
        no_silent_deadlock home events run drained t s.0 s.1 (path_with (Waits events) _ t (s.0 ∷ s.1) t q (λ x y g v. (
          v,
          old_enough x y (elim g [
            | inl e ↦ inr (ap (λ k. (state_of home (home k) events).stamp k) e, omega (arith, e))
            | inr h ↦ old x (ap (λ z. in_list z x) s.2 ∙ h)
          ]),
        )))
      where
        old_enough : (x y : ℕ) → AtMost ((state_of home (home x) events).stamp x) x ((state_of home (home t) events).stamp t) t → is_before ((state_of home (home t) events).stamp t) t ((state_of home (home x) events).since x y) x ≡ false
        old_enough x y a =
            let low = (holds_of_run home events run).stamps.low x y in
            let under : AtMost ((state_of home (home x) events).since x y) x ((state_of home (home x) events).stamp x) x = elim (cases_lt ((state_of home (home x) events).since x y) ((state_of home (home x) events).stamp x)) [
              | inl l ↦ inl l
              | inr ge ↦ inr (omega (arith, low, ge), omega arith)
            ] in
            to_test ((state_of home (home t) events).stamp t) t ((state_of home (home x) events).since x y) x
            (trans ((state_of home (home x) events).since x y) x ((state_of home (home x) events).stamp x) x ((state_of home (home t) events).stamp t) t under a)

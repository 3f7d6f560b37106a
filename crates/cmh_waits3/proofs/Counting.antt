-- How many of the numbers below a limit pass a test.
use Rattle.std.proofs.Common.{◌≡◌, ℕ, zero, suc, ◌+◌, ◌*◌, ◌-◌, ◌<◌, ◌≤◌, Bool, true, false, not, ◌&&◌, ◌||◌, ◌==◌, refl, sym, ap, ◌∙◌, inl, inr, arith, true≢false}
use Rattle.std.proofs.lemmas.Bool.{eq-eqb, ne_eqb, cases_eq}

abbrev one_if : Bool → ℕ
one_if true = 1
one_if false = 0

pub count_below : (ℕ → Bool) → ℕ → ℕ
count_below f zero = 0
count_below f (suc n) = one_if (f n) + count_below f n

pub count_most : (f : ℕ → Bool) (n : ℕ) → count_below f n ≤ n
unfolding count_below
count_most f zero = omega arith
count_most f (suc n) = let less = count_most f n in let one = at_most (f n) in omega (arith, less, one)
  where
    at_most : (b : Bool) → one_if b ≤ 1
    at_most true = omega arith
    at_most false = omega arith

-- those of either, where none is of both
pub count_either : (f g h : ℕ → Bool) → ((k : ℕ) → h k ≡ (f k || g k)) → ((k : ℕ) → f k ≡ true → g k ≡ false) → (n : ℕ) → count_below h n ≡ count_below f n + count_below g n
unfolding count_below
count_either f g h are apart zero = omega arith
count_either f g h are apart (suc n) =
    let more = count_either f g h are apart n in
    let one = ap one_if (are n) ∙ go (f n) (g n) (apart n) in
    omega (arith, more, one)
  where
    go : (a b : Bool) → (a ≡ true → b ≡ false) → one_if (a || b) ≡ one_if a + one_if b
    go true b none = let e = ap one_if (none refl) in omega (arith, e)
    go false b none = omega arith

none_counted : (place n : ℕ) → n ≤ place → count_below (λ k. k == place) n ≡ 0
unfolding count_below
none_counted place zero past = refl
none_counted place (suc n) past =
    let more = none_counted place n (omega (arith, past)) in
    let other = ap one_if (ne_eqb n place (λ e. absurd (omega (arith, e, past)))) in
    omega (arith, more, other)

one_counted : (place n : ℕ) → place < n → count_below (λ k. k == place) n ≡ 1
unfolding count_below
one_counted place zero below = absurd (omega (arith, below))
one_counted place (suc n) below = elim (cases_eq n place) [
  | inl e ↦ let more = none_counted place n (omega (arith, e)) in let here = ap one_if (eq-eqb n place e) in omega (arith, more, here)
  | inr ne ↦ let more = one_counted place n (omega (arith, below, ne)) in let other = ap one_if (ne_eqb n place ne) in omega (arith, more, other)
]

-- one less
pub count_without : (f g : ℕ → Bool) (place n : ℕ) → place < n → f place ≡ true → ((k : ℕ) → g k ≡ (not (k == place) && f k)) → count_below g n + 1 ≡ count_below f n
count_without f g place n below here are =
    let both = count_either g (λ k. k == place) f parted (λ k h. apart k h) n in
    let one = one_counted place n below in
    omega (arith, both, one)
  where
    parted : (k : ℕ) → f k ≡ (g k || (k == place))
    parted k = elim (cases_eq k place) [
      | inl e ↦ ap f e ∙ here ∙ sym (ap (λ b. g k || b) (eq-eqb k place e) ∙ or_yes (g k))
      | inr n ↦ sym (ap (λ b. g k || b) (ne_eqb k place n) ∙ or_no (g k) ∙ are k ∙ ap (λ b. not b && f k) (ne_eqb k place n))
    ]
      where
        or_yes : (b : Bool) → (b || true) ≡ true
        or_yes true = refl
        or_yes false = refl

        or_no : (b : Bool) → (b || false) ≡ b
        or_no true = refl
        or_no false = refl

    apart : (k : ℕ) → g k ≡ true → (k == place) ≡ false
    apart k h = elim (cases_eq k place) [
      | inl e ↦ absurd (true≢false (sym h ∙ are k ∙ ap (λ b. not b && f k) (eq-eqb k place e)))
      | inr n ↦ ne_eqb k place n
    ]

-- what is left to do: twice what isn't reached, and what is left to look at
pub less_to_do : (reached fresh work less reached' work' : ℕ) → reached' ≡ reached + fresh → work' ≡ less + fresh → less + 1 ≡ work → reached' ≤ 256 → 2 * (256 - reached') + work' < 2 * (256 - reached) + work
less_to_do reached fresh work less reached' work' more left taken most = omega (arith, more, left, taken, most)

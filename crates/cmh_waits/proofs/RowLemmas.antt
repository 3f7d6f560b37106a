-- The relation of rows and lists, pair by pair.
use Rattle.std.proofs.Common.{◌≡◌, ◌≢◌, ◌<◌, ◌≤◌, ◌+◌, ℕ, Bool, true, false, not, ◌&&◌, ◌||◌, ◌==◌, List, [], ◌∷◌, map, length, get_or, take, nat_lt, refl, sym, ap, ◌∙◌, inl, inr, arith, true≢false}
use Rattle.std.specs.List.{list_any, filter}
use Rattle.std.specs.List.Sorted.{IsStrictlyIncreasing}
use Rattle.std.proofs.Math.ListN.{set}
use Rattle.std.proofs.Math.Bool.{and-false, and-true, or_comm}
use Rattle.std.proofs.lemmas.Bool.{eqb-true, eq-eqb, ne_eqb, and_parts, cases_Bool, cases_eq, cases_lt, false_from_ne_true, lt-ltb, le-ltb}
use Rattle.std.proofs.lemmas.List.{get_or_default, get_or-set_same, get_or-set_other, get_or_past, length-set}
use Rattle.std.proofs.lemmas.List.Folds.{list_any-append, list_any_more}
use Rattle.cmh_frames.proofs.Apart.{eqb_comm}
use Rattle.std.proofs.lemmas.List.Sums.{position_or_len_is}
use Rattle.std.proofs.lemmas.Map.Views.{any-filter_same}
use Rattle.cmh_frames.specs.Relation.{Relation, has, has_some, with_pair, without_pair}
use Rattle.cmh_waits.proofs.Sets.{is_pair}
use Rattle.cmh_frames.proofs.Members.{found_at, found_from, not_decreasing}
use Rattle.cmh_frames.proofs.Pairs.{has-with, has-without, has-none, has_some-to, same_relation}
use Rattle.cmh_bits.proofs.BitLemmas.{no_bit, none_set}
use Rattle.cmh_waits.proofs.Sets.{has-from_list}
use Rattle.cmh_bits.specs.Bits.{is_set}
use Rattle.cmh_waits.specs.Rows.{AreRows, bit_of, is_at_in, is_in, joins, place_in, pairs_of, seconds_in, relation_of}

-- ---- the pairs that are made

and_or : (a b c : Bool) → ((a && b) || (a && c)) ≡ (a && (b || c))
and_or true b c = refl
and_or false b c = refl

or_and : (a b c : Bool) → ((a && c) || (b && c)) ≡ ((a || b) && c)
or_and true true true = refl
or_and true false true = refl
or_and false b true = refl
or_and true true false = refl
or_and true false false = refl
or_and false b false = refl

paired : (x y a : ℕ) (ys : List ℕ) → list_any (is_pair x y) (map (λ b. (a, b)) ys) ≡ ((a == x) && is_in ys y)
paired x y a [] = sym (and-false (a == x))
paired x y a (b ∷ ys) = ap (λ t. ((a == x) && (b == y)) || t) (paired x y a ys) ∙ and_or (a == x) (b == y) (is_in ys y)

first_fits : (f : ℕ → List ℕ) (a x y : ℕ) → ((a == x) && is_in (f a) y) ≡ ((a == x) && is_in (f x) y)
first_fits f a x y = elim (cases_eq a x) [
  | inl e ↦ ap (λ q. (a == x) && is_in (f q) y) e
  | inr n ↦ ap (λ b. b && is_in (f a) y) (ne_eqb a x n) ∙ sym (ap (λ b. b && is_in (f x) y) (ne_eqb a x n))
]

pub in_pairs_of : (xs : List ℕ) (f : ℕ → List ℕ) (x y : ℕ) → list_any (is_pair x y) (pairs_of xs f) ≡ (is_in xs x && is_in (f x) y)
in_pairs_of [] f x y = refl
in_pairs_of (a ∷ xs) f x y =
    list_any-append (is_pair x y) (map (λ b. (a, b)) (f a)) (pairs_of xs f)
    ∙ ap (λ t. t || list_any (is_pair x y) (pairs_of xs f)) (paired x y a (f a) ∙ first_fits f a x y)
    ∙ ap (λ t. ((a == x) && is_in (f x) y) || t) (in_pairs_of xs f x y)
    ∙ or_and (a == x) (is_in xs x) (is_in (f x) y)

pub has-relation_of : (ms rows : List ℕ) (lists : List (List ℕ)) (x y : ℕ) → has (relation_of ms rows lists) x y ≡ (is_in ms x && ((bit_of rows (place_in ms x) (place_in ms y) && is_in ms y) || is_in (get_or lists (place_in ms x) []) y))
has-relation_of ms rows lists x y =
    has-from_list (pairs_of ms (seconds_in ms rows lists)) x y
    ∙ in_pairs_of ms (seconds_in ms rows lists) x y
    ∙ ap (λ t. is_in ms x && t) (
    list_any-append (λ q. q == y) (filter (λ q. bit_of rows (place_in ms x) (place_in ms q)) ms) (get_or lists (place_in ms x) [])
    ∙ ap (λ t. t || is_in (get_or lists (place_in ms x) []) y) (any-filter_same (λ q. q == y) (λ q. bit_of rows (place_in ms x) (place_in ms q)) (bit_of rows (place_in ms x) (place_in ms y)) (λ k e. ap (λ q. bit_of rows (place_in ms x) (place_in ms q)) (eqb-true k y e)) ms)
    )

-- ---- the places of members

pub rising : (xs : List ℕ) → IsStrictlyIncreasing xs → (i j : ℕ) → i < j → j < length xs → get_or xs i 0 < get_or xs j 0
rising xs up i j less inside = let next : get_or xs i 0 < get_or xs (i + 1) 0 = up i (omega arith) in let later = not_decreasing xs up (i + 1) j (omega arith) inside in omega (arith, next, later)

-- a member stands at one place
pub same_place : (ms : List ℕ) → IsStrictlyIncreasing ms → (i j : ℕ) → i < length ms → j < length ms → (get_or ms i 0 == get_or ms j 0) ≡ (i == j)
same_place ms up i j a b = elim (cases_eq i j) [
  | inl e ↦ eq-eqb (get_or ms i 0) (get_or ms j 0) (ap (λ k. get_or ms k 0) e) ∙ sym (eq-eqb i j e)
  | inr n ↦ ne_eqb (get_or ms i 0) (get_or ms j 0) (λ e. elim (cases_lt i j) [
    | inl less ↦ let above = rising ms up i j less b in omega (arith, e, above)
    | inr more ↦ let above = rising ms up j i (omega (arith, n, more)) a in omega (arith, e, above)
  ]) ∙ sym (ne_eqb i j n)
]

pub place_at : (ms : List ℕ) → IsStrictlyIncreasing ms → (i x : ℕ) → i < length ms → get_or ms i 0 ≡ x → place_in ms x ≡ i
place_at ms up i x inside is = position_or_len_is (λ q. q == x) ms i 0 (omega arith)
    (λ k below. ne_eqb (get_or ms k 0) x (λ e. let less = rising ms up k i below inside in omega (arith, less, e, is)))
    (λ _. eq-eqb (get_or ms i 0) x is)

-- what is found stands at a place
pub found_place : (ms : List ℕ) (x : ℕ) → is_in ms x ≡ true → (i : ℕ) × (i < length ms) × (get_or ms i 0 ≡ x)
found_place ms x h = let c = found_at ms x h in (c.0, c.1, sym (get_or_default ms c.0 x 0 c.1) ∙ c.2)

pub in_at : (ms : List ℕ) (i x : ℕ) → i < length ms → get_or ms i 0 ≡ x → is_in ms x ≡ true
in_at ms i x inside is = found_from ms x (i, inside, get_or_default ms i x 0 inside ∙ is)

-- ---- the relation at places

module _ (ms rows : List ℕ) (lists : List (List ℕ)) (up : IsStrictlyIncreasing ms) (are : AreRows ms rows lists) where
  not_listed : (i y : ℕ) → is_in ms y ≡ true → is_in (get_or lists i []) y ≡ false
  not_listed i y member = false_from_ne_true (is_in (get_or lists i []) y) (λ h. true≢false (sym member ∙ are.elsewhere i y h))

  -- between members it is a bit
  pub has_bit_at : (i j x y : ℕ) → i < length ms → j < length ms → get_or ms i 0 ≡ x → get_or ms j 0 ≡ y → has (relation_of ms rows lists) x y ≡ bit_of rows i j
  has_bit_at i j x y a b e f =
      has-relation_of ms rows lists x y
      ∙ ap (λ t. t && ((bit_of rows (place_in ms x) (place_in ms y) && is_in ms y) || is_in (get_or lists (place_in ms x) []) y)) (in_at ms i x a e)
      ∙ ap (λ t. (bit_of rows (place_in ms x) (place_in ms y) && is_in ms y) || t) (not_listed (place_in ms x) y (in_at ms j y b f))
      ∙ or_none (bit_of rows (place_in ms x) (place_in ms y) && is_in ms y)
      ∙ ap (λ t. bit_of rows (place_in ms x) (place_in ms y) && t) (in_at ms j y b f)
      ∙ and-true (bit_of rows (place_in ms x) (place_in ms y))
      ∙ ap (λ p. bit_of rows p (place_in ms y)) (place_at ms up i x a e)
      ∙ ap (λ p. bit_of rows i p) (place_at ms up j y b f)
    where
      or_none : (b : Bool) → (b || false) ≡ b
      or_none true = refl
      or_none false = refl

  -- of a member and another it is in the member's list
  pub has_listed : (i x y : ℕ) → i < length ms → get_or ms i 0 ≡ x → is_in ms y ≡ false → has (relation_of ms rows lists) x y ≡ is_in (get_or lists i []) y
  has_listed i x y a e other =
      has-relation_of ms rows lists x y
      ∙ ap (λ t. t && ((bit_of rows (place_in ms x) (place_in ms y) && is_in ms y) || is_in (get_or lists (place_in ms x) []) y)) (in_at ms i x a e)
      ∙ ap (λ t. t || is_in (get_or lists (place_in ms x) []) y) (ap (λ t. bit_of rows (place_in ms x) (place_in ms y) && t) other ∙ and-false (bit_of rows (place_in ms x) (place_in ms y)))
      ∙ ap (λ p. is_in (get_or lists p []) y) (place_at ms up i x a e)

  -- and others have none
  pub has_none : (x y : ℕ) → is_in ms x ≡ false → has (relation_of ms rows lists) x y ≡ false
  has_none x y other = has-relation_of ms rows lists x y ∙ ap (λ t. t && ((bit_of rows (place_in ms x) (place_in ms y) && is_in ms y) || is_in (get_or lists (place_in ms x) []) y)) other

  -- a relation that is the same at places, in lists and elsewhere is the same
  pub relation_is : (r : Relation)
      → ((i j : ℕ) → i < length ms → j < length ms → bit_of rows i j ≡ has r (get_or ms i 0) (get_or ms j 0))
      → ((i y : ℕ) → i < length ms → is_in ms y ≡ false → is_in (get_or lists i []) y ≡ has r (get_or ms i 0) y)
      → ((x y : ℕ) → is_in ms x ≡ false → has r x y ≡ false)
      → relation_of ms rows lists ≡ r
  relation_is r local listed none = same_relation _ _ (λ x y. elim (cases_Bool (is_in ms x)) [
    | inr other ↦ has_none x y other ∙ sym (none x y other)
    | inl here ↦
        let i = found_place ms x here in
        elim (cases_Bool (is_in ms y)) [
          | inr away ↦ has_listed i.0 x y i.1 i.2 away ∙ listed i.0 y i.1 away ∙ ap (λ q. has r q y) i.2
          | inl there ↦
              let j = found_place ms y there in
              has_bit_at i.0 j.0 x y i.1 j.1 i.2 j.2 ∙ local i.0 j.0 i.1 j.1 ∙ ap (λ q. has r q (get_or ms j.0 0)) i.2 ∙ ap (λ q. has r x q) j.2
        ]
  ])

-- ---- targets at places

-- the next target is a member
pub next_member : (ms targets : List ℕ) → IsStrictlyIncreasing ms → (i p x k : ℕ) → i < length targets → x ≡ get_or targets i x → p < length ms → get_or ms p 0 ≡ x → is_at_in ms (take (i + 1) targets) k ≡ ((k == p) || is_at_in ms (take i targets) k)
next_member ms targets up i p x k inside is within at = elim (cases_lt k (length ms)) [
  | inl below ↦
      let seen = is_in (take i targets) (get_or ms k 0) in
      ap (λ b. b && is_in (take (i + 1) targets) (get_or ms k 0)) (lt-ltb k (length ms) below)
      ∙ list_any_more (λ q. q == get_or ms k 0) targets i x inside
      ∙ ap (λ q. seen || (q == get_or ms k 0)) (sym is ∙ sym at)
      ∙ or_comm seen (get_or ms p 0 == get_or ms k 0)
      ∙ ap (λ b. b || seen) (same_place ms up p k within below ∙ eqb_comm p k)
      ∙ sym (ap (λ b. (k == p) || (b && seen)) (lt-ltb k (length ms) below))
  | inr above ↦
      ap (λ b. b && is_in (take (i + 1) targets) (get_or ms k 0)) (le-ltb k (length ms) above)
      ∙ sym (ap (λ b. (k == p) || (b && is_in (take i targets) (get_or ms k 0))) (le-ltb k (length ms) above) ∙ ap (λ b. b || false) (ne_eqb k p (λ e. omega (arith, e, above, within))))
]

-- the next target is of another site
pub next_other : (ms targets : List ℕ) (i x k : ℕ) → i < length targets → x ≡ get_or targets i x → is_in ms x ≡ false → is_at_in ms (take (i + 1) targets) k ≡ is_at_in ms (take i targets) k
next_other ms targets i x k inside is other = elim (cases_lt k (length ms)) [
  | inl below ↦
      let seen = is_in (take i targets) (get_or ms k 0) in
      ap (λ b. nat_lt k (length ms) && b) (
      list_any_more (λ q. q == get_or ms k 0) targets i x inside
      ∙ ap (λ q. seen || (q == get_or ms k 0)) (sym is)
      ∙ or_comm seen (x == get_or ms k 0)
      ∙ ap (λ b. b || seen) (ne_eqb x (get_or ms k 0) (λ e. true≢false (sym (in_at ms k x below (sym e)) ∙ other)))
      )
  | inr above ↦ ap (λ b. b && is_in (take (i + 1) targets) (get_or ms k 0)) (le-ltb k (length ms) above) ∙ sym (ap (λ b. b && is_in (take i targets) (get_or ms k 0)) (le-ltb k (length ms) above))
]

-- ---- one bit of the rows

-- a row that gets a bit
pub bit_of-with : (rows : List ℕ) (p q w : ℕ) → p < length rows → ((k : ℕ) → is_set w k ≡ ((k == q) || is_set (get_or rows p 0) k)) → (a b : ℕ) → bit_of (set rows p w) a b ≡ (((a == p) && (b == q)) || bit_of rows a b)
bit_of-with rows p q w inside bits a b = elim (cases_eq a p) [
  | inl e ↦
      ap (λ x. bit_of (set rows p w) x b) e ∙ ap (λ n. is_set n b) (get_or-set_same rows p w 0 inside) ∙ bits b
      ∙ sym (ap (λ t. (t && (b == q)) || bit_of rows a b) (eq-eqb a p e) ∙ ap (λ x. (b == q) || bit_of rows x b) e)
  | inr n ↦ ap (λ m. is_set m b) (get_or-set_other rows p a w 0 n) ∙ sym (ap (λ t. (t && (b == q)) || bit_of rows a b) (ne_eqb a p n))
]

-- and that loses one
pub bit_of-without : (rows : List ℕ) (p q w : ℕ) → p < length rows → ((k : ℕ) → is_set w k ≡ (not (k == q) && is_set (get_or rows p 0) k)) → (a b : ℕ) → bit_of (set rows p w) a b ≡ (not ((a == p) && (b == q)) && bit_of rows a b)
bit_of-without rows p q w inside bits a b = elim (cases_eq a p) [
  | inl e ↦
      ap (λ x. bit_of (set rows p w) x b) e ∙ ap (λ n. is_set n b) (get_or-set_same rows p w 0 inside) ∙ bits b
      ∙ sym (ap (λ t. not (t && (b == q)) && bit_of rows a b) (eq-eqb a p e) ∙ ap (λ x. not (b == q) && bit_of rows x b) e)
  | inr n ↦ ap (λ m. is_set m b) (get_or-set_other rows p a w 0 n) ∙ sym (ap (λ t. not (t && (b == q)) && bit_of rows a b) (ne_eqb a p n))
]

pub one_more_owes : (a b m o : Bool) → ((a && b) || ((b && m) || o)) ≡ ((b && (a || m)) || o)
one_more_owes true true true o = refl
one_more_owes true true false o = refl
one_more_owes true false m o = refl
one_more_owes false true m o = refl
one_more_owes false false m o = refl

pub one_less_owes : (a b m o : Bool) → (not (a && b) && (not (b && m) && o)) ≡ (not (b && (a || m)) && o)
one_less_owes true true true o = refl
one_less_owes true true false o = refl
one_less_owes true false m o = refl
one_less_owes false true m o = refl
one_less_owes false false m o = refl

-- ---- a row as a whole

empty_if : (xs : List ℕ) → ((y : ℕ) → is_in xs y ≡ false) → xs ≡ []
empty_if [] none = refl
empty_if (x ∷ xs) none = absurd (true≢false (sym (ap (λ b. b || is_in xs x) (eq-eqb x x refl)) ∙ none x))

both_none : (a b : Bool) → (a ≡ true) → (b ≡ true) → (not a || not b) ≡ false
both_none true true e f = refl
both_none true false e f = absurd (true≢false (sym f))
both_none false b e f = absurd (true≢false (sym e))

not_both : (a b : Bool) → ((a ≡ true) → (b ≡ true) → ⊥) → (not a || not b) ≡ true
not_both true true h = absurd (h refl refl)
not_both true false h = refl
not_both false b h = refl

empty_length : (xs : List ℕ) → (length xs == 0) ≡ true → xs ≡ []
empty_length [] e = refl
empty_length (x ∷ xs) e = let none = eqb-true (length (x ∷ xs)) 0 e in absurd (omega arith)

module _ (ms rows : List ℕ) (lists : List (List ℕ)) (up : IsStrictlyIncreasing ms) (are : AreRows ms rows lists) where
  -- there is no bit past the members
  pub no_bit_past : (a b : ℕ) → length ms ≤ b → bit_of rows a b ≡ false
  no_bit_past a b past = false_from_ne_true (bit_of rows a b) (λ h. let below = are.inside a b h in omega (arith, below, past))

  pub row_bits : (place k : ℕ) → bit_of rows place k ≡ joins ms (relation_of ms rows lists) place k
  row_bits place k =
      let relation = has (relation_of ms rows lists) (get_or ms place 0) (get_or ms k 0) in
      elim (cases_lt k (length ms)) [
        | inr past ↦ no_bit_past place k past ∙ sym (ap (λ b. (nat_lt place (length ms) && b) && relation) (le-ltb k (length ms) past) ∙ ap (λ b. b && relation) (and-false (nat_lt place (length ms))))
        | inl below ↦ elim (cases_lt place (length ms)) [
          | inl within ↦
              sym (has_bit_at ms rows lists up are place k (get_or ms place 0) (get_or ms k 0) within below refl refl)
              ∙ sym (ap (λ b. (b && nat_lt k (length ms)) && relation) (lt-ltb place (length ms) within) ∙ ap (λ b. b && relation) (lt-ltb k (length ms) below))
          | inr past ↦
              ap (λ n. is_set n k) (get_or_past rows place 0 (omega (arith, are.rows_len, past))) ∙ no_bit k
              ∙ sym (ap (λ b. (b && nat_lt k (length ms)) && relation) (le-ltb place (length ms) past))
        ]
      ]

  -- whoever is related to nothing has an empty row and an empty list
  row_none : (i x : ℕ) → i < length ms → get_or ms i 0 ≡ x → has_some (relation_of ms rows lists) x ≡ false → get_or rows i 0 ≡ 0
  row_none i x a e none = none_set (get_or rows i 0) (λ k. elim (cases_lt k (length ms)) [
    | inl below ↦ sym (has_bit_at ms rows lists up are i k x (get_or ms k 0) a below e refl) ∙ has-none (relation_of ms rows lists) x (get_or ms k 0) none
    | inr past ↦ no_bit_past i k past
  ])

  list_none : (i x : ℕ) → i < length ms → get_or ms i 0 ≡ x → has_some (relation_of ms rows lists) x ≡ false → get_or lists i [] ≡ []
  list_none i x a e none = empty_if (get_or lists i []) (λ y. false_from_ne_true (is_in (get_or lists i []) y) (λ h.
      true≢false (sym h ∙ sym (has_listed ms rows lists up are i x y a e (are.elsewhere i y h)) ∙ has-none (relation_of ms rows lists) x y none)))

  none_related : (i x : ℕ) → i < length ms → get_or ms i 0 ≡ x → get_or rows i 0 ≡ 0 → get_or lists i [] ≡ [] → has_some (relation_of ms rows lists) x ≡ true → ⊥
  none_related i x a e row list some =
      let one = has_some-to (relation_of ms rows lists) x some in
      elim (cases_Bool (is_in ms one.0)) [
        | inl here ↦ let j = found_place ms one.0 here in true≢false (sym one.1 ∙ has_bit_at ms rows lists up are i j.0 x one.0 a j.1 e j.2 ∙ ap (λ n. is_set n j.0) row ∙ no_bit j.0)
        | inr away ↦ true≢false (sym one.1 ∙ has_listed ms rows lists up are i x one.0 a e away ∙ ap (λ xs. is_in xs one.0) list)
      ]

  pub has_some_is : (i x : ℕ) → i < length ms → get_or ms i 0 ≡ x → has_some (relation_of ms rows lists) x ≡ (not (get_or rows i 0 == 0) || not (length (get_or lists i []) == 0))
  has_some_is i x a e = elim (cases_Bool (has_some (relation_of ms rows lists) x)) [
    | inl some ↦ some ∙ sym (not_both (get_or rows i 0 == 0) (length (get_or lists i []) == 0) (λ r l. none_related i x a e (eqb-true (get_or rows i 0) 0 r) (empty_length (get_or lists i []) l) some))
    | inr none ↦ none ∙ sym (both_none (get_or rows i 0 == 0) (length (get_or lists i []) == 0) (eq-eqb (get_or rows i 0) 0 (row_none i x a e none)) (ap (λ xs. length xs == 0) (list_none i x a e none)))
  ]

  pub nobody_first : (x : ℕ) → is_in ms x ≡ false → has_some (relation_of ms rows lists) x ≡ false
  nobody_first x away = false_from_ne_true (has_some (relation_of ms rows lists) x) (λ some. let one = has_some-to (relation_of ms rows lists) x some in true≢false (sym one.1 ∙ has_none ms rows lists up are x one.0 away))

  -- ---- one pair more or less

  -- a bit less
  pub less_bit : (rows' : List ℕ) (p q x y : ℕ) → AreRows ms rows' lists → p < length ms → q < length ms → get_or ms p 0 ≡ x → get_or ms q 0 ≡ y → ((a b : ℕ) → bit_of rows' a b ≡ (not ((a == p) && (b == q)) && bit_of rows a b)) → relation_of ms rows' lists ≡ without_pair (relation_of ms rows lists) x y
  less_bit rows' p q x y now within inside e f bits = relation_is ms rows' lists up now (without_pair (relation_of ms rows lists) x y)
      (λ i j a b.
      bits i j ∙ ap (λ t. not ((i == p) && (j == q)) && t) (sym (has_bit_at ms rows lists up are i j (get_or ms i 0) (get_or ms j 0) a b refl refl))
      ∙ ap (λ t. not (t && (j == q)) && has (relation_of ms rows lists) (get_or ms i 0) (get_or ms j 0)) (sym (same_place ms up i p a within) ∙ ap (λ z. get_or ms i 0 == z) e)
      ∙ ap (λ t. not ((get_or ms i 0 == x) && t) && has (relation_of ms rows lists) (get_or ms i 0) (get_or ms j 0)) (sym (same_place ms up j q b inside) ∙ ap (λ z. get_or ms j 0 == z) f)
      ∙ sym (has-without (relation_of ms rows lists) x y (get_or ms i 0) (get_or ms j 0)))
      (λ i z a away.
      sym (has_listed ms rows lists up are i (get_or ms i 0) z a refl away)
      ∙ sym (has-without (relation_of ms rows lists) x y (get_or ms i 0) z ∙ ap (λ t. not ((get_or ms i 0 == x) && t) && has (relation_of ms rows lists) (get_or ms i 0) z) (ne_eqb z y (λ h. true≢false (sym (in_at ms q y inside f) ∙ ap (is_in ms) (sym h) ∙ away)))
      ∙ ap (λ t. not t && has (relation_of ms rows lists) (get_or ms i 0) z) (and-false (get_or ms i 0 == x))))
      (λ z w away. has-without (relation_of ms rows lists) x y z w ∙ ap (λ t. not ((z == x) && (w == y)) && t) (has_none ms rows lists up are z w away) ∙ and-false (not ((z == x) && (w == y))))

  pub rows_less : (rows' : List ℕ) (p q : ℕ) → length rows' ≡ length rows → ((a b : ℕ) → bit_of rows' a b ≡ (not ((a == p) && (b == q)) && bit_of rows a b)) → AreRows ms rows' lists
  rows_less rows' p q len bits = record {
    rows_len = len ∙ are.rows_len;
    lists_len = are.lists_len;
    inside = λ a b h. are.inside a b (and_parts (not ((a == p) && (b == q))) (bit_of rows a b) (sym (bits a b) ∙ h)).1;
    elsewhere = are.elsewhere;
  }

  -- a list with or without a process of another site
  module _ (p : ℕ) (list : List ℕ) (x y : ℕ) (within : p < length ms) (e : get_or ms p 0 ≡ x) (other : is_in ms y ≡ false) where
    at_list : (i : ℕ) → i ≢ p → get_or (set lists p list) i [] ≡ get_or lists i []
    at_list i n = get_or-set_other lists p i list [] n

    at_that : get_or (set lists p list) p [] ≡ list
    at_that = get_or-set_same lists p list [] (omega (arith, are.lists_len, within))

    not_that : (i z : ℕ) → i < length ms → i ≢ p → (get_or ms i 0 == x) ≡ false
    not_that i z a n = ap (λ w. get_or ms i 0 == w) (sym e) ∙ same_place ms up i p a within ∙ ne_eqb i p n

    that : (i : ℕ) → i ≡ p → (get_or ms i 0 == x) ≡ true
    that i h = eq-eqb (get_or ms i 0) x (ap (λ k. get_or ms k 0) h ∙ e)

    not_second : (j : ℕ) → j < length ms → (get_or ms j 0 == y) ≡ false
    not_second j b = ne_eqb (get_or ms j 0) y (λ h. true≢false (sym (in_at ms j y b h) ∙ other))

    pub rows_list : ((z : ℕ) → is_in list z ≡ true → is_in ms z ≡ false) → AreRows ms rows (set lists p list)
    rows_list others = record {
      rows_len = are.rows_len;
      lists_len = length-set lists p list ∙ are.lists_len;
      inside = are.inside;
      elsewhere = λ a z h. elim (cases_eq a p) [
        | inl is ↦ others z (sym (ap (λ xs. is_in xs z) (ap (λ k. get_or (set lists p list) k []) is ∙ at_that)) ∙ h)
        | inr n ↦ are.elsewhere a z (sym (ap (λ xs. is_in xs z) (at_list a n)) ∙ h)
      ];
    }

    pub more_listed : AreRows ms rows (set lists p list) → ((z : ℕ) → is_in list z ≡ ((z == y) || is_in (get_or lists p []) z)) → relation_of ms rows (set lists p list) ≡ with_pair (relation_of ms rows lists) x y
    more_listed now adds = relation_is ms rows (set lists p list) up now (with_pair (relation_of ms rows lists) x y)
        (λ i j a b.
        sym (has_bit_at ms rows lists up are i j (get_or ms i 0) (get_or ms j 0) a b refl refl)
        ∙ sym (has-with (relation_of ms rows lists) x y (get_or ms i 0) (get_or ms j 0) ∙ ap (λ t. ((get_or ms i 0 == x) && t) || has (relation_of ms rows lists) (get_or ms i 0) (get_or ms j 0)) (not_second j b)
        ∙ ap (λ t. t || has (relation_of ms rows lists) (get_or ms i 0) (get_or ms j 0)) (and-false (get_or ms i 0 == x))))
        (λ i z a away. elim (cases_eq i p) [
          | inl is ↦
              ap (λ xs. is_in xs z) (ap (λ k. get_or (set lists p list) k []) is ∙ at_that) ∙ adds z
              ∙ ap (λ t. (z == y) || t) (sym (has_listed ms rows lists up are p x z within e away) ∙ ap (λ w. has (relation_of ms rows lists) w z) (sym (ap (λ k. get_or ms k 0) is ∙ e)))
              ∙ sym (has-with (relation_of ms rows lists) x y (get_or ms i 0) z ∙ ap (λ t. (t && (z == y)) || has (relation_of ms rows lists) (get_or ms i 0) z) (that i is))
          | inr n ↦
              ap (λ xs. is_in xs z) (at_list i n) ∙ sym (has_listed ms rows lists up are i (get_or ms i 0) z a refl away)
              ∙ sym (has-with (relation_of ms rows lists) x y (get_or ms i 0) z ∙ ap (λ t. (t && (z == y)) || has (relation_of ms rows lists) (get_or ms i 0) z) (not_that i z a n))
        ])
        (λ z w away. has-with (relation_of ms rows lists) x y z w ∙ ap (λ t. ((z == x) && (w == y)) || t) (has_none ms rows lists up are z w away)
        ∙ ap (λ t. (t && (w == y)) || false) (ne_eqb z x (λ h. true≢false (sym (in_at ms p x within e) ∙ ap (is_in ms) (sym h) ∙ away))))

    pub less_listed : AreRows ms rows (set lists p list) → ((z : ℕ) → is_in list z ≡ (not (z == y) && is_in (get_or lists p []) z)) → relation_of ms rows (set lists p list) ≡ without_pair (relation_of ms rows lists) x y
    less_listed now takes = relation_is ms rows (set lists p list) up now (without_pair (relation_of ms rows lists) x y)
        (λ i j a b.
        sym (has_bit_at ms rows lists up are i j (get_or ms i 0) (get_or ms j 0) a b refl refl)
        ∙ sym (has-without (relation_of ms rows lists) x y (get_or ms i 0) (get_or ms j 0) ∙ ap (λ t. not ((get_or ms i 0 == x) && t) && has (relation_of ms rows lists) (get_or ms i 0) (get_or ms j 0)) (not_second j b)
        ∙ ap (λ t. not t && has (relation_of ms rows lists) (get_or ms i 0) (get_or ms j 0)) (and-false (get_or ms i 0 == x))))
        (λ i z a away. elim (cases_eq i p) [
          | inl is ↦
              ap (λ xs. is_in xs z) (ap (λ k. get_or (set lists p list) k []) is ∙ at_that) ∙ takes z
              ∙ ap (λ t. not (z == y) && t) (sym (has_listed ms rows lists up are p x z within e away) ∙ ap (λ w. has (relation_of ms rows lists) w z) (sym (ap (λ k. get_or ms k 0) is ∙ e)))
              ∙ sym (has-without (relation_of ms rows lists) x y (get_or ms i 0) z ∙ ap (λ t. not (t && (z == y)) && has (relation_of ms rows lists) (get_or ms i 0) z) (that i is))
          | inr n ↦
              ap (λ xs. is_in xs z) (at_list i n) ∙ sym (has_listed ms rows lists up are i (get_or ms i 0) z a refl away)
              ∙ sym (has-without (relation_of ms rows lists) x y (get_or ms i 0) z ∙ ap (λ t. not (t && (z == y)) && has (relation_of ms rows lists) (get_or ms i 0) z) (not_that i z a n))
        ])
        (λ z w away. has-without (relation_of ms rows lists) x y z w ∙ ap (λ t. not ((z == x) && (w == y)) && t) (has_none ms rows lists up are z w away) ∙ and-false (not ((z == x) && (w == y))))

-- Rows in order, with one more at the end.
use Rattle.std.proofs.Common.{◌≡◌, ◌≢◌, ℕ, ◌+◌, ◌<◌, ◌≤◌, Bool, true, false, ◌&&◌, ◌||◌, List, [], ◌∷◌, ◌++◌, length, map, get_or, take, drop, ◌==◌, if◌then◌else◌, ltb, refl, sym, ap, ◌∙◌, inl, inr, arith, length-append}
use Rattle.std.proofs.Math.Path.{fun_ext}
use Rattle.std.proofs.lemmas.Bool.{and_parts, cases_Bool, cases_eq, eq-eqb, eqb-true, false_from_ne_true, ltb-true, ne_eqb}
use Rattle.std.proofs.lemmas.List.{drop_more, take-append-drop, take_more}
use Rattle.std.proofs.lemmas.List.Folds.{list_any-append}
use Rattle.std.specs.List.{AllByRecursion}
use Rattle.cmh_model3.specs.Lists.{IsAscending, in_list, set_at, set_pair, with_one}
use Rattle.cmh_segment3.specs.Base.{stamped_pair_place, stamped_place}
use Rattle.cmh_segment3.specs.States.{beside, has_pair, has_process, stamp_at, stamp_of}
use Rattle.cmh_segment3.specs.declared.rows.Pair.{Pair}
use Rattle.cmh_segment3.specs.declared.rows.Stamped.{Stamped}
use Rattle.cmh_segment3.specs.declared.rows.StampedPair.{StampedPair}

-- ---- a list, and the one at a place of it

module _ {X : Type 0} (xs : List X) (i : ℕ) (x : X) (inside : i < length xs) (is : x ≡ get_or xs i x) where
  pub split_there : xs ≡ take i xs ++ x ∷ drop (i + 1) xs
  split_there = sym (take-append-drop i xs) ∙ ap (λ ys. take i xs ++ ys) (drop_more xs i x inside ∙ ap (λ y. y ∷ drop (i + 1) xs) (sym is))

  pub taken_more : take (i + 1) xs ≡ take i xs ++ x ∷ []
  taken_more = take_more xs i x inside ∙ ap (λ y. take i xs ++ y ∷ []) (sym is)

pub all_more : {X : Type 0} (P : X → Type 0) (xs : List X) (x : X) → AllByRecursion P xs → P x → AllByRecursion P (xs ++ x ∷ [])
all_more P [] x all is = (is, tt)
all_more P (y ∷ xs) x all is = (all.0, all_more P xs x all.1 is)

pub one_of : {X : Type 0} (P : X → Type 0) (xs : List X) (x : X) (ys : List X) → AllByRecursion P (xs ++ x ∷ ys) → P x
one_of P [] x ys all = all.0
one_of P (y ∷ xs) x ys all = one_of P xs x ys all.1

pub all_before : {X : Type 0} (place : X → ℕ) (xs : List X) (x : X) (ys : List X) → IsAscending (map place (xs ++ x ∷ ys)) → AllByRecursion (λ y. place y < place x) xs
all_before place [] x ys up = tt
all_before place (y ∷ xs) x ys up = (below xs up.0, all_before place xs x ys up.1)
  where
    below : (xs : List _) → AllByRecursion (λ k. place y < k) (map place (xs ++ x ∷ ys)) → place y < place x
    below [] all = all.0
    below (z ∷ xs) all = below xs all.1

-- ---- bits

turned : (a b : ℕ) → (a == b) ≡ (b == a)
turned a b = elim (cases_eq a b) [
  | inl e ↦ eq-eqb a b e ∙ sym (eq-eqb b a (sym e))
  | inr n ↦ ne_eqb a b n ∙ sym (ne_eqb b a (λ e. n (sym e)))
]

chosen : (z w : Bool) → (w || (z || false)) ≡ (if z then true else w)
chosen true true = refl
chosen true false = refl
chosen false true = refl
chosen false false = refl

-- ---- stamps of processes

pub no_stamp_yet : (xs : List Stamped) (a : ℕ) → AllByRecursion (λ (y : Stamped). y.process < a) xs → stamp_of xs a ≡ 0
no_stamp_yet [] a below = refl
no_stamp_yet (x ∷ xs) a below =
    let low = below.0 in
    ap (λ z. if z then x.stamp else stamp_of xs a) (ne_eqb x.process a (λ e. absurd (omega (arith, low, e)))) ∙ no_stamp_yet xs a below.1

stamp_more : (xs : List Stamped) (r : Stamped) (a : ℕ) → AllByRecursion (λ y. stamped_place y < stamped_place r) xs → stamp_of (xs ++ r ∷ []) a ≡ (if a == r.process then r.stamp else stamp_of xs a)
stamp_more [] r a below = ap (λ z. if z then r.stamp else 0) (turned r.process a)
stamp_more (x ∷ xs) r a below = elim (cases_eq x.process a) [
  | inl e ↦
      let low = below.0 in
      let other : a ≢ r.process = (λ f. absurd (omega (arith, low, e, f))) in
      ap (λ z. if z then x.stamp else stamp_of (xs ++ r ∷ []) a) (eq-eqb x.process a e)
      ∙ sym (ap (λ z. if z then r.stamp else stamp_of (x ∷ xs) a) (ne_eqb a r.process other) ∙ ap (λ z. if z then x.stamp else stamp_of xs a) (eq-eqb x.process a e))
  | inr n ↦
      ap (λ z. if z then x.stamp else stamp_of (xs ++ r ∷ []) a) (ne_eqb x.process a n) ∙ stamp_more xs r a below.1
      ∙ ap (λ y. if a == r.process then r.stamp else y) (sym (ap (λ z. if z then x.stamp else stamp_of xs a) (ne_eqb x.process a n)))
]

pub stamps_more : (xs : List Stamped) (r : Stamped) → AllByRecursion (λ y. stamped_place y < stamped_place r) xs → set_at (stamp_of xs) r.process r.stamp ≡ stamp_of (xs ++ r ∷ [])
stamps_more xs r below = fun_ext λ a. sym (stamp_more xs r a below)

-- ---- stamps of pairs

at_more : (xs : List StampedPair) (r : StampedPair) (a b : ℕ) → AllByRecursion (λ y. stamped_pair_place y < stamped_pair_place r) xs
    → stamp_at (xs ++ r ∷ []) a b ≡ (if (a == r.first) && (b == r.second) then r.stamp else stamp_at xs a b)
at_more [] r a b below = ap (λ z. if z && (r.second == b) then r.stamp else 0) (turned r.first a) ∙ ap (λ z. if (a == r.first) && z then r.stamp else 0) (turned r.second b)
at_more (x ∷ xs) r a b below = elim (cases_Bool ((x.first == a) && (x.second == b))) [
  | inl hit ↦
      let parts = and_parts (x.first == a) (x.second == b) hit in
      ap (λ z. if z then x.stamp else stamp_at (xs ++ r ∷ []) a b) hit
      ∙ sym (ap (λ z. if z then r.stamp else stamp_at (x ∷ xs) a b) (apart (eqb-true x.first a parts.0) (eqb-true x.second b parts.1)) ∙ ap (λ z. if z then x.stamp else stamp_at xs a b) hit)
  | inr miss ↦
      ap (λ z. if z then x.stamp else stamp_at (xs ++ r ∷ []) a b) miss ∙ at_more xs r a b below.1
      ∙ ap (λ y. if (a == r.first) && (b == r.second) then r.stamp else y) (sym (ap (λ z. if z then x.stamp else stamp_at xs a b) miss))
]
  where
    apart : x.first ≡ a → x.second ≡ b → ((a == r.first) && (b == r.second)) ≡ false
    apart e f = false_from_ne_true _ (λ both.
        let parts = and_parts (a == r.first) (b == r.second) both in
        let g = eqb-true a r.first parts.0 in
        let h = eqb-true b r.second parts.1 in
        let low = below.0 in
        absurd (omega (arith, e, f, g, h, low)))

pub since_more : (xs : List StampedPair) (r : StampedPair) → AllByRecursion (λ y. stamped_pair_place y < stamped_pair_place r) xs
    → (λ a b. if (a == r.first) && (b == r.second) then r.stamp else stamp_at xs a b) ≡ stamp_at (xs ++ r ∷ [])
since_more xs r below = fun_ext λ a. fun_ext λ b. sym (at_more xs r a b below)

pub marks_more : (xs : List StampedPair) (r : StampedPair) → AllByRecursion (λ y. stamped_pair_place y < stamped_pair_place r) xs
    → set_at (stamp_at xs) r.first (set_at (stamp_at xs r.first) r.second r.stamp) ≡ stamp_at (xs ++ r ∷ [])
marks_more xs r below = fun_ext λ a. fun_ext λ b. go a b ∙ sym (at_more xs r a b below)
  where
    go : (a b : ℕ) → set_at (stamp_at xs) r.first (set_at (stamp_at xs r.first) r.second r.stamp) a b ≡ (if (a == r.first) && (b == r.second) then r.stamp else stamp_at xs a b)
    go a b = elim (cases_eq a r.first) [
      | inl e ↦
          ap (λ (z : Bool). (if z then set_at (stamp_at xs r.first) r.second r.stamp else stamp_at xs a) b) (eq-eqb a r.first e)
          ∙ ap (λ q. if b == r.second then r.stamp else stamp_at xs q b) (sym e)
          ∙ sym (ap (λ z. if z && (b == r.second) then r.stamp else stamp_at xs a b) (eq-eqb a r.first e))
      | inr n ↦
          ap (λ (z : Bool). (if z then set_at (stamp_at xs r.first) r.second r.stamp else stamp_at xs a) b) (ne_eqb a r.first n)
          ∙ sym (ap (λ z. if z && (b == r.second) then r.stamp else stamp_at xs a b) (ne_eqb a r.first n))
    ]

-- ---- who stands beside a process

pub beside_both : (a : ℕ) (xs ys : List StampedPair) → beside a (xs ++ ys) ≡ beside a xs ++ beside a ys
beside_both a [] ys = refl
beside_both a (x ∷ xs) ys = ap (λ l. if x.first == a then x.second ∷ l else l) (beside_both a xs ys) ∙ go (x.first == a)
  where
    go : (z : Bool) → (if z then x.second ∷ (beside a xs ++ beside a ys) else beside a xs ++ beside a ys) ≡ (if z then x.second ∷ beside a xs else beside a xs) ++ beside a ys
    go true = refl
    go false = refl

pub beside_below : (xs : List StampedPair) (r : StampedPair) → AllByRecursion (λ y. stamped_pair_place y < stamped_pair_place r) xs → AllByRecursion (λ k. k < r.second) (beside r.first xs)
beside_below [] r below = tt
beside_below (x ∷ xs) r below = go (x.first == r.first) refl (beside_below xs r below.1)
  where
    go : (z : Bool) → (x.first == r.first) ≡ z → AllByRecursion (λ k. k < r.second) (beside r.first xs)
        → AllByRecursion (λ k. k < r.second) (if z then x.second ∷ beside r.first xs else beside r.first xs)
    go true e rest =
        let same = eqb-true x.first r.first e in
        let low = below.0 in
        (omega (arith, same, low), rest)
    go false e rest = rest

pub none_below : (qs : List ℕ) (k : ℕ) → AllByRecursion (λ q. q < k) qs → in_list qs k ≡ false
none_below [] k below = refl
none_below (q ∷ qs) k below = let low = below.0 in ap (λ z. z || in_list qs k) (ne_eqb q k (λ e. absurd (omega (arith, low, e)))) ∙ none_below qs k below.1

at_end : (qs : List ℕ) (k : ℕ) → AllByRecursion (λ q. q < k) qs → with_one qs k ≡ qs ++ k ∷ []
at_end [] k below = refl
at_end (q ∷ qs) k below =
    let low = below.0 in
    let later : ltb k q ≡ false = false_from_ne_true (ltb k q) (λ less. let high = ltb-true k q less in absurd (omega (arith, low, high))) in
    ap (λ z. if z then k ∷ q ∷ qs else q ∷ with_one qs k) later ∙ ap (λ l. q ∷ l) (at_end qs k below.1)

pub waits_more : (xs : List StampedPair) (r : StampedPair) → AllByRecursion (λ y. stamped_pair_place y < stamped_pair_place r) xs
    → set_at (λ j. beside j xs) r.first (with_one (beside r.first xs) r.second) ≡ (λ j. beside j (xs ++ r ∷ []))
waits_more xs r below = fun_ext λ a. elim (cases_eq a r.first) [
  | inl e ↦
      ap (λ z. if z then with_one (beside r.first xs) r.second else beside a xs) (eq-eqb a r.first e) ∙ at_end (beside r.first xs) r.second (beside_below xs r below)
      ∙ ap (λ q. beside q xs ++ r.second ∷ []) (sym e)
      ∙ sym (beside_both a xs (r ∷ []) ∙ ap (λ z. beside a xs ++ (if z then r.second ∷ [] else [])) (eq-eqb r.first a (sym e)))
  | inr n ↦
      ap (λ z. if z then with_one (beside r.first xs) r.second else beside a xs) (ne_eqb a r.first n)
      ∙ sym (beside_both a xs (r ∷ []) ∙ ap (λ z. beside a xs ++ (if z then r.second ∷ [] else [])) (ne_eqb r.first a (λ e. n (sym e))) ∙ no_more (beside a xs))
]
  where
    no_more : (qs : List ℕ) → qs ++ [] ≡ qs
    no_more [] = refl
    no_more (q ∷ qs) = ap (λ l. q ∷ l) (no_more qs)

-- the row adds one to those beside its first process
pub fewer_before : (xs : List StampedPair) (r : StampedPair) (ys : List StampedPair) (most : ℕ) → length (beside r.first (xs ++ r ∷ ys)) ≤ most → length (beside r.first xs) < most
fewer_before xs r ys most few =
    let all = ap length (beside_both r.first xs (r ∷ ys) ∙ ap (λ z. beside r.first xs ++ (if z then r.second ∷ beside r.first ys else beside r.first ys)) (eq-eqb r.first r.first refl)) in
    let sum = length-append (beside r.first xs) (r.second ∷ beside r.first ys) in
    omega (arith, few, all, sum)

-- ---- pairs and processes

has_more : (xs : List Pair) (r : Pair) (a b : ℕ) → has_pair (xs ++ r ∷ []) a b ≡ (if (a == r.first) && (b == r.second) then true else has_pair xs a b)
has_more xs r a b =
    list_any-append (λ (row : Pair). (row.first == a) && (row.second == b)) xs (r ∷ []) ∙ chosen ((r.first == a) && (r.second == b)) (has_pair xs a b)
    ∙ ap (λ z. if z && (r.second == b) then true else has_pair xs a b) (turned r.first a) ∙ ap (λ z. if (a == r.first) && z then true else has_pair xs a b) (turned r.second b)

pub pairs_more : (xs : List Pair) (r : Pair) → set_pair (has_pair xs) r.first r.second true ≡ has_pair (xs ++ r ∷ [])
pairs_more xs r = fun_ext λ a. fun_ext λ b. sym (has_more xs r a b)

-- besides others
pub pairs_more_besides : (xs : List Pair) (r : Pair) (others : ℕ → ℕ → Bool)
    → set_pair (λ k j. has_pair xs k j || others k j) r.first r.second true ≡ (λ k j. has_pair (xs ++ r ∷ []) k j || others k j)
pairs_more_besides xs r others = fun_ext λ a. fun_ext λ b. go ((a == r.first) && (b == r.second)) (has_pair xs a b) (others a b) ∙ sym (ap (λ z. z || others a b) (has_more xs r a b))
  where
    go : (z x y : Bool) → (if z then true else (x || y)) ≡ ((if z then true else x) || y)
    go true x y = refl
    go false x y = refl

pub processes_more : (xs : List Stamped) (r : Stamped) → set_at (has_process xs) r.process true ≡ has_process (xs ++ r ∷ [])
processes_more xs r = fun_ext λ a. sym (list_any-append (λ (row : Stamped). row.process == a) xs (r ∷ []) ∙ chosen (r.process == a) (has_process xs a)
    ∙ ap (λ z. if z then true else has_process xs a) (turned r.process a))

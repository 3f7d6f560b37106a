-- A base with which a site can begin says a state of the rules.
use Rattle.std.proofs.Common.{◌≡◌, ◌≢◌, ℕ, ◌*◌, ◌^◌, ◌<◌, ◌≤◌, Bool, true, false, ◌&&◌, ◌||◌, List, [], ◌∷◌, map, ◌==◌, if◌then◌else◌, refl, sym, ◌∙◌, subst, inl, inr, arith}
use Rattle.std.specs.List.{AllByRecursion}
use Rattle.std.proofs.lemmas.Bool.{and_parts, eqb-true, false_from_ne_true, or_cases, true≢false}
use Rattle.cmh_model3.specs.Laws.{JournalFacts}
use Rattle.cmh_model3.specs.Lists.{IsAscending, in_list, is_nonempty}
use Rattle.cmh_topology3.specs.Topology.{Topology, site_of}
use Rattle.cmh_wire3.specs.Wire.{IsLong}
use Rattle.cmh_segment3.specs.Base.{IsBase, stamped_pair_place}
use Rattle.cmh_segment3.specs.States.{beside, has_pair, has_process, stamp_at, stamp_of, state_in}
use Rattle.cmh_segment3.specs.WholeEntries.{IsWithin}
use Rattle.cmh_segment3.specs.declared.base.Base.{Base}
use Rattle.cmh_segment3.specs.declared.rows.Pair.{Pair}
use Rattle.cmh_segment3.specs.declared.rows.Stamped.{Stamped}
use Rattle.cmh_segment3.specs.declared.rows.StampedPair.{StampedPair}
use Rattle.cmh_bases3.specs.Bases.{IsBaseOf, waits_in}

-- ---- what all rows of a list say of those whom they name

pub beside_says : (P : ℕ → ℕ → Type 0) (rows : List StampedPair) → AllByRecursion (λ (row : StampedPair). P row.first row.second) rows → (j k : ℕ) → in_list (beside j rows) k ≡ true → P j k
beside_says P [] all j k h = absurd (true≢false (sym h))
beside_says P (r ∷ rows) all j k h = go (r.first == j) refl h (beside_says P rows all.1 j k)
  where
    go : (z : Bool) → (r.first == j) ≡ z → in_list (if z then r.second ∷ beside j rows else beside j rows) k ≡ true → (in_list (beside j rows) k ≡ true → P j k) → P j k
    go false e h later = later h
    go true e h later = elim (or_cases (r.second == k) (in_list (beside j rows) k) h) [
      | inl here ↦ subst (P j) (eqb-true r.second k here) (subst (λ a. P a r.second) (eqb-true r.first j e) all.0)
      | inr there ↦ later there
    ]

pub pair_says : (P : ℕ → ℕ → Type 0) (rows : List Pair) → AllByRecursion (λ (row : Pair). P row.first row.second) rows → (a b : ℕ) → has_pair rows a b ≡ true → P a b
pair_says P [] all a b h = absurd (true≢false (sym h))
pair_says P (r ∷ rows) all a b h = elim (or_cases ((r.first == a) && (r.second == b)) (has_pair rows a b) h) [
  | inl here ↦
      let parts = and_parts (r.first == a) (r.second == b) here in
      subst (P a) (eqb-true r.second b parts.1) (subst (λ x. P x r.second) (eqb-true r.first a parts.0) all.0)
  | inr there ↦ pair_says P rows all.1 a b there
]

process_says : (P : ℕ → Type 0) (rows : List Stamped) → AllByRecursion (λ (row : Stamped). P row.process) rows → (a : ℕ) → has_process rows a ≡ true → P a
process_says P [] all a h = absurd (true≢false (sym h))
process_says P (r ∷ rows) all a h = elim (or_cases (r.process == a) (has_process rows a) h) [
  | inl here ↦ subst P (eqb-true r.process a here) all.0
  | inr there ↦ process_says P rows all.1 a there
]

-- the stamp of a pair is that of a row of it, or 0
stamp_says : (P : ℕ → ℕ → ℕ → Type 0) (rows : List StampedPair) → AllByRecursion (λ (row : StampedPair). P row.first row.second row.stamp) rows → (a b : ℕ) → P a b 0 → P a b (stamp_at rows a b)
stamp_says P [] all a b none = none
stamp_says P (r ∷ rows) all a b none = go ((r.first == a) && (r.second == b)) refl (stamp_says P rows all.1 a b none)
  where
    go : (z : Bool) → ((r.first == a) && (r.second == b)) ≡ z → P a b (stamp_at rows a b) → P a b (if z then r.stamp else stamp_at rows a b)
    go true e later =
        let parts = and_parts (r.first == a) (r.second == b) e in
        subst (λ x. P a x r.stamp) (eqb-true r.second b parts.1) (subst (λ x. P x r.second r.stamp) (eqb-true r.first a parts.0) all.0)
    go false e later = later

low_stamps : (most : ℕ) (rows : List Stamped) → AllByRecursion (λ (row : Stamped). row.stamp ≤ most) rows → (a : ℕ) → stamp_of rows a ≤ most
low_stamps most [] all a = omega arith
low_stamps most (r ∷ rows) all a = go (r.process == a) (low_stamps most rows all.1 a)
  where
    go : (z : Bool) → stamp_of rows a ≤ most → (if z then r.stamp else stamp_of rows a) ≤ most
    go true later = all.0
    go false later = later

-- ---- waits

-- whom a row names stands beside
row_beside : (rows : List StampedPair) (j k : ℕ) → in_list (beside j rows) k ≡ false → stamp_at rows j k ≡ 0
row_beside [] j k h = refl
row_beside (r ∷ rows) j k h = go (r.first == j) h (row_beside rows j k)
  where
    go : (z : Bool) → in_list (if z then r.second ∷ beside j rows else beside j rows) k ≡ false → (in_list (beside j rows) k ≡ false → stamp_at rows j k ≡ 0)
        → (if z && (r.second == k) then r.stamp else stamp_at rows j k) ≡ 0
    go false h later = later h
    go true h later = both (r.second == k) h
      where
        both : (y : Bool) → (y || in_list (beside j rows) k) ≡ false → (if y then r.stamp else stamp_at rows j k) ≡ 0
        both true h = absurd (true≢false h)
        both false h = later h

above_beside : (r : StampedPair) (rows : List StampedPair) → AllByRecursion (λ n. stamped_pair_place r < n) (map stamped_pair_place rows) → AllByRecursion (λ k. r.second < k) (beside r.first rows)
above_beside r [] above = tt
above_beside r (x ∷ rows) above = go (x.first == r.first) refl (above_beside r rows above.1)
  where
    go : (z : Bool) → (x.first == r.first) ≡ z → AllByRecursion (λ k. r.second < k) (beside r.first rows)
        → AllByRecursion (λ k. r.second < k) (if z then x.second ∷ beside r.first rows else beside r.first rows)
    go true e later =
        let same = eqb-true x.first r.first e in
        let low = above.0 in
        (omega (arith, same, low), later)
    go false e later = later

beside_ascends : (rows : List StampedPair) → IsAscending (map stamped_pair_place rows) → (a : ℕ) → IsAscending (beside a rows)
beside_ascends [] up a = tt
beside_ascends (r ∷ rows) up a = go (r.first == a) refl (beside_ascends rows up.1 a)
  where
    go : (z : Bool) → (r.first == a) ≡ z → IsAscending (beside a rows) → IsAscending (if z then r.second ∷ beside a rows else beside a rows)
    go true e later = (subst (λ q. AllByRecursion (λ k. r.second < k) (beside q rows)) (eqb-true r.first a e) (above_beside r rows up.0), later)
    go false e later = later

-- ---- the state

same_bits : (a b : Bool) → (a ≡ true → b ≡ true) → (b ≡ true → a ≡ true) → a ≡ b
same_bits true b there back = sym (there refl)
same_bits false true there back = back refl
same_bits false false there back = refl

pub weaker : {X : Type 0} (P Q : X → Type 0) (xs : List X) → ((x : X) → P x → Q x) → AllByRecursion P xs → AllByRecursion Q xs
weaker P Q [] so all = tt
weaker P Q (x ∷ xs) so all = (so x all.0, weaker P Q xs so all.1)

module _ (t : Topology) (s epoch : ℕ) (base : Base) (are : IsBase base) (is : IsBaseOf t s epoch base) where
  abbrev home : ℕ → ℕ
  home = site_of t

  abbrev IsWait : ℕ → ℕ → ℕ → Type 0
  IsWait j k n = (home j ≡ s) × (home k ≢ 0) × (k ≢ j) × (n ≤ stamp_of base.stamps j)

  abbrev IsOwed : ℕ → ℕ → Type 0
  IsOwed k j = (home k ≡ s) × (home j ≢ 0) × (home j ≡ s → in_list (waits_in base j) k ≡ true)

  wait : (j k : ℕ) → in_list (waits_in base j) k ≡ true → (home j ≡ s) × (home k ≢ 0) × (k ≢ j)
  wait = beside_says (λ j k. (home j ≡ s) × (home k ≢ 0) × (k ≢ j)) base.waits
      (weaker (λ (row : StampedPair). IsWait row.first row.second row.stamp) (λ (row : StampedPair). (home row.first ≡ s) × (home row.second ≢ 0) × (row.second ≢ row.first)) base.waits (λ row w. (w.0, w.1, w.2)) is.waits.0)

  owed : (k j : ℕ) → has_pair base.owed k j ≡ true → IsOwed k j
  owed = pair_says IsOwed base.owed is.owed

  since : (j k : ℕ) → stamp_at base.waits j k ≤ stamp_of base.stamps j
  since j k = stamp_says (λ j k n. n ≤ stamp_of base.stamps j) base.waits
      (weaker (λ (row : StampedPair). IsWait row.first row.second row.stamp) (λ (row : StampedPair). row.stamp ≤ stamp_of base.stamps row.first) base.waits (λ row w. w.3) is.waits.0) j k (omega arith)

  newest : (j : ℕ) → stamp_of base.stamps j ≤ epoch * 2 ^ 32
  newest = low_stamps (epoch * 2 ^ 32) base.stamps
      (weaker (λ (row : Stamped). (home row.process ≡ s) × (row.stamp ≤ epoch * 2 ^ 32)) (λ (row : Stamped). row.stamp ≤ epoch * 2 ^ 32) base.stamps (λ row w. w.1) is.stamps)

  facts : JournalFacts home s (state_in epoch base)
  facts = record {
    waits_home = wait;
    waits_ascend = beside_ascends base.waits are.waits.ascending;
    few_waits = is.waits.1;
    no_stamp = row_beside base.waits;
    stamps = λ j k. (since j k, newest j);
    no_marks = λ k i active. stamp_says (λ k i n. is_nonempty (waits_in base k) ≡ false → n ≡ 0) base.dependents
        (weaker (λ (row : StampedPair). is_nonempty (waits_in base row.first) ≡ true) (λ (row : StampedPair). is_nonempty (waits_in base row.first) ≡ false → row.stamp ≡ 0) base.dependents
        (λ row blocked idle. absurd (true≢false (sym blocked ∙ idle))) is.marks) k i (λ idle. refl) active;
    undeclared = λ k active. false_from_ne_true (has_process base.declared k) (λ there.
        true≢false (sym (process_says (λ p. is_nonempty (waits_in base p) ≡ true) base.declared is.declared k there) ∙ active));
    owed_home = λ k j h. (owed k j h).0;
    leaving_away = λ j k h.
        let away = pair_says (λ a b. (home a ≡ s) × (home b ≢ 0) × (home b ≢ s)) base.leaving is.leaving j k h in
        (away.0, away.2);
    local = λ j k at_j at_k. same_bits (in_list (waits_in base j) k) (has_pair base.owed k j)
        (λ h. beside_says (λ a b. home b ≡ s → has_pair base.owed b a ≡ true) base.waits is.replies j k h at_k)
        (λ h. (owed k j h).2 at_j);
  }

  pub within : IsLong (epoch * 2 ^ 32) → IsWithin home s (state_in epoch base)
  within long = record { facts = facts; askers = λ k j h. (owed k j h).1; clock = long }

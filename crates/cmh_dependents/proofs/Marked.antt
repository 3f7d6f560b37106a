-- The members with a mark, put in a list.
use Rattle.std.proofs.Common.{inl, inr, ◌≡◌, ℕ, ◌+◌, ◌<◌, true, false, List, [], ◌∷◌, ◌++◌, length, get_or, sym, ap, ◌∙◌, subst, arith, true≢false, length-append}
use Rattle.std.specs.List.{Contains}
use Rattle.std.specs.List.Sorted.{IsStrictlyIncreasing}
use Rattle.std.proofs.Math.ListN.{get_or-append}
use Rattle.std.proofs.Math.Seq.{get_or-append_seam}
use Rattle.std.proofs.lemmas.List.{get_or_default}
use Rattle.std.proofs.lemmas.List.Elements.{Contains-push, Contains-append_left, Contains-push_cases}
use Rattle.std.proofs.lemmas.Bool.{cases_eq}
use Rattle.std.proofs.lemmas.Map.Keys.{sorted_from_strictly_increasing, below_from_sorted}
use Rattle.cmh_dependents.specs.Inner.Bits.{AreThose}
use Rattle.cmh_bits.specs.Bits.{is_set}

-- an ascending list stays so with a greater number at its end
pub IsStrictlyIncreasing-push : (xs : List ℕ) (p : ℕ) → IsStrictlyIncreasing xs → ((q : ℕ) → Contains xs q → q < p) → IsStrictlyIncreasing (xs ++ p ∷ [])
IsStrictlyIncreasing-push xs p up below k h =
    let len : length (xs ++ p ∷ []) ≡ length xs + 1 = length-append xs (p ∷ []) in
    let inside : k < length xs = omega arith in
    let first : get_or (xs ++ p ∷ []) k 0 ≡ get_or xs k 0 = get_or-append xs (p ∷ []) 0 k inside in
    elim (cases_eq (k + 1) (length xs)) [
      | inl e ↦
          let last : get_or (xs ++ p ∷ []) (k + 1) 0 ≡ p = ap (λ j. get_or (xs ++ p ∷ []) j 0) e ∙ get_or-append_seam xs p [] 0 in
          let less : get_or xs k 0 < p = below (get_or xs k 0) (k, inside, get_or_default xs k (get_or xs k 0) 0 inside) in
          omega arith
      | inr e ↦
          let next : get_or (xs ++ p ∷ []) (k + 1) 0 ≡ get_or xs (k + 1) 0 = get_or-append xs (p ∷ []) 0 (k + 1) (omega arith) in
          let less : get_or xs k 0 < get_or xs (k + 1) 0 = up k (omega arith) in
          omega arith
    ]

-- the list has the members with a mark, of those before a place
pub record AreMarkedBelow (members : List ℕ) (row : ℕ) (n : ℕ) (marked : List ℕ) : Type 0 where
  pub ascending : IsStrictlyIncreasing marked
  pub only : (q : ℕ) → Contains marked q → (k : ℕ) × (k < n) × (get_or members k 0 ≡ q) × (is_set row k ≡ true)
  pub all : (k : ℕ) → k < n → is_set row k ≡ true → Contains marked (get_or members k 0)

pub none_below : (members : List ℕ) (row : ℕ) → AreMarkedBelow members row 0 []
none_below members marks = record { ascending = λ k h. absurd (omega arith); only = λ q c. absurd (omega (arith, c.1)); all = λ k h m. absurd (omega arith) }

pub skip_member : (members : List ℕ) (row : ℕ) (n : ℕ) (marked : List ℕ) → is_set row n ≡ false → AreMarkedBelow members row n marked → AreMarkedBelow members row (n + 1) marked
skip_member members row n marked unmarked a = record {
  ascending = a.ascending;
  only = λ q c. let m = a.only q c in (m.0, let h : m.0 < n = m.1 in omega arith, m.2, m.3);
  all = λ k h m. elim (cases_eq k n) as (λ _. Contains marked (get_or members k 0)) [
    | inl e ↦ absurd (true≢false (sym m ∙ ap (is_set row) e ∙ unmarked))
    | inr e ↦ a.all k (omega arith) m
  ];
}

pub take_member : (members : List ℕ) (row : ℕ) (n p : ℕ) (marked : List ℕ) → IsStrictlyIncreasing members → n < length members → get_or members n 0 ≡ p → is_set row n ≡ true → AreMarkedBelow members row n marked → AreMarkedBelow members row (n + 1) (marked ++ p ∷ [])
take_member members row n p marked up inside is here a = record {
  ascending = IsStrictlyIncreasing-push marked p a.ascending (λ q c.
      let m = a.only q c in
      let less : get_or members m.0 0 < get_or members n 0 = below_from_sorted members m.0 n 0 (sorted_from_strictly_increasing members up) m.1 inside in
      let same : get_or members m.0 0 ≡ q = m.2 in
      omega arith);
  only = λ q c. elim (Contains-push_cases marked p q c) as (λ _. (k : ℕ) × (k < n + 1) × (get_or members k 0 ≡ q) × (is_set row k ≡ true)) [
    | inl d ↦ let m = a.only q d in (m.0, let h : m.0 < n = m.1 in omega arith, m.2, m.3)
    | inr e ↦ (n, omega arith, is ∙ e, here)
  ];
  all = λ k h m. elim (cases_eq k n) as (λ _. Contains (marked ++ p ∷ []) (get_or members k 0)) [
    | inl e ↦ subst (λ v. Contains (marked ++ p ∷ []) v) (sym (ap (λ j. get_or members j 0) e ∙ is)) (Contains-push marked p)
    | inr e ↦ Contains-append_left marked (p ∷ []) (get_or members k 0) (a.all k (omega arith) m)
  ];
}

-- at the end of the members the list has them all
pub all_below : (members : List ℕ) (row : ℕ) (n : ℕ) (marked : List ℕ) → n ≡ length members → AreMarkedBelow members row n marked → AreThose members row marked
all_below members row n marked end a = record {
  ascending = a.ascending;
  all = λ q. (
    λ c. let m = a.only q c in (m.0, let h : m.0 < n = m.1 in omega arith, m.2, m.3),
    λ m. subst (λ v. Contains marked v) m.2 (a.all m.0 (let h : m.0 < length members = m.1 in omega arith) m.3),
  );
}

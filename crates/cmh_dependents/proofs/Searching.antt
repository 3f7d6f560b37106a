-- The search of what a member reaches, with a 1 at the place of each member that was found, and those that are left to look at.
use Rattle.std.proofs.Common.{inl, inr, ◌≡◌, ◌↔◌, ℕ, ◌+◌, ◌-◌, ◌*◌, ◌<◌, ◌≤◌, true, false, not, ◌&&◌, ◌||◌, ◌==◌, List, [], ◌∷◌, ◌++◌, length, get_or, nat_lt, refl, sym, ap, ◌∙◌, subst, arith, true≢false, Result, Ok, Err, IfOk, Vec}
use Rattle.std.specs.List.{Contains}
use Rattle.std.specs.List.Sorted.{IsStrictlyIncreasing}
use Rattle.std.proofs.lemmas.Bool.{eqb-true, eq-eqb, ne_eqb, and_parts, and_from, or_cases, or_left, or_right, or_parts, cases_Bool, cases_eq, lt-ltb, ltb-true, not-true}
use Rattle.std.proofs.Math.Bool.{or-false}
use Rattle.std.proofs.lemmas.Nat.Bits.{bit_at-lt, same_from_bits}
use Rattle.cmh_frames.specs.Paths.{IsPath, WaitsAmong}
use Rattle.cmh_frames.specs.Relation.{has}
use Rattle.cmh_waits.specs.Held.{Held, IsMember}
use Rattle.cmh_bits.specs.Bits.{is_set}
use Rattle.cmh_waits.proofs.RowLemmas.{in_at, found_place, same_place}
use Rattle.cmh_dependents.specs.Marks.{IsMarked, AreReached, ReachesHere}
use Rattle.cmh_dependents.specs.Inner.Bits.{AreThose}

-- a path with one more step
path_further : (R : ℕ → ℕ → Type 0) (x : ℕ) (path : List ℕ) (y z : ℕ) → IsPath R x path y → R y z → IsPath R x (path ++ z ∷ []) z
path_further R x [] y z path step = (subst (λ v. R v z) (sym path) step, refl)
path_further R x (w ∷ more) y z path step = (path.0, path_further R w more y z path.1 step)

-- What the search keeps: what has a 1 is reached, and where a member has one and nothing of it is left to look at,
-- all that it leads to have one.
pub record Searching (v : Held) (from reached work : ℕ) : Type 0 where
  pub in_work : (k : ℕ) → is_set work k ≡ true → is_set reached k ≡ true
  pub start : (k : ℕ) → k < length v.members → get_or v.members k 0 ≡ from → is_set reached k ≡ true
  pub found : (k : ℕ) → is_set reached k ≡ true → (k < length v.members) × ((path : List ℕ) × IsPath (WaitsAmong (λ p. IsMember v p) v.waits) from path (get_or v.members k 0))
  pub closed : (a b : ℕ) → is_set reached a ≡ true → is_set work a ≡ false → b < length v.members → has v.waits (get_or v.members a 0) (get_or v.members b 0) ≡ true → is_set reached b ≡ true

pub begin_search : (v : Held) (from place row : ℕ) → IsStrictlyIncreasing v.members → place < length v.members → get_or v.members place 0 ≡ from → ((k : ℕ) → is_set row k ≡ (k == place)) → Searching v from row row
begin_search v from place row up inside is bits = record {
  in_work = λ k h. h;
  start = λ k below same. bits k ∙ sym (same_place v.members up k place below inside) ∙ eq-eqb (get_or v.members k 0) (get_or v.members place 0) (same ∙ sym is);
  found = λ k h. let e = eqb-true k place (sym (bits k) ∙ h) in (subst (λ j. j < length v.members) (sym e) inside, ([], sym is ∙ ap (λ j. get_or v.members j 0) (sym e)));
  closed = λ a b h none below step. absurd (true≢false (sym h ∙ none));
}

module _ (v : Held) (from reached work place row fresh less : ℕ)
    (s : Searching v from reached work) (at : is_set work place ≡ true)
    (row_is : (k : ℕ) → is_set row k ≡ ((nat_lt place (length v.members) && nat_lt k (length v.members)) && has v.waits (get_or v.members place 0) (get_or v.members k 0)))
    (fresh_is : (k : ℕ) → is_set fresh k ≡ (is_set row k && not (is_set reached k)))
    (less_is : (k : ℕ) → is_set less k ≡ (not (k == place) && is_set work k))
    (work' reached' : ℕ)
    (work_is : (k : ℕ) → is_set work' k ≡ (is_set less k || is_set fresh k))
    (reached_is : (k : ℕ) → is_set reached' k ≡ (is_set reached k || is_set fresh k)) where
  kept : (k : ℕ) → is_set reached k ≡ true → is_set reached' k ≡ true
  kept k h = reached_is k ∙ or_left (is_set reached k) (is_set fresh k) h

  here : (place < length v.members) × ((path : List ℕ) × IsPath (WaitsAmong (λ p. IsMember v p) v.waits) from path (get_or v.members place 0))
  here = s.found place (s.in_work place at)

  pub search_on : Searching v from reached' work'
  search_on = record {
    in_work = λ k h. elim (or_cases (is_set less k) (is_set fresh k) (sym (work_is k) ∙ h)) [
      | inl e ↦ kept k (s.in_work k (and_parts (not (k == place)) (is_set work k) (sym (less_is k) ∙ e)).1)
      | inr e ↦ reached_is k ∙ or_right (is_set reached k) (is_set fresh k) e
    ];
    start = λ k below is. kept k (s.start k below is);
    found = λ k h. elim (or_cases (is_set reached k) (is_set fresh k) (sym (reached_is k) ∙ h)) [
      | inl e ↦ s.found k e
      | inr e ↦
          let set = (and_parts (is_set row k) (not (is_set reached k)) (sym (fresh_is k) ∙ e)).0 in
          let parts = and_parts (nat_lt place (length v.members) && nat_lt k (length v.members)) (has v.waits (get_or v.members place 0) (get_or v.members k 0)) (sym (row_is k) ∙ set) in
          let below = ltb-true k (length v.members) (and_parts (nat_lt place (length v.members)) (nat_lt k (length v.members)) parts.0).1 in
          let R = WaitsAmong (λ p. IsMember v p) v.waits in
          let step : R (get_or v.members place 0) (get_or v.members k 0) = (in_at v.members place (get_or v.members place 0) here.0 refl, in_at v.members k (get_or v.members k 0) below refl, parts.1) in
          (below, (here.1.0 ++ get_or v.members k 0 ∷ [], path_further R from here.1.0 (get_or v.members place 0) (get_or v.members k 0) here.1.1 step))
    ];
    closed = λ a b h none below step.
        let gone = or_parts (is_set less a) (is_set fresh a) (sym (work_is a) ∙ none) in
        elim (or_cases (is_set reached a) (is_set fresh a) (sym (reached_is a) ∙ h)) [
          | inr e ↦ absurd (true≢false (sym e ∙ gone.1))
          | inl e ↦ elim (cases_eq a place) [
            | inl is ↦
                let set : is_set row b ≡ true = row_is b ∙ and_from (nat_lt place (length v.members) && nat_lt b (length v.members)) (has v.waits (get_or v.members place 0) (get_or v.members b 0))
                (and_from (nat_lt place (length v.members)) (nat_lt b (length v.members)) (lt-ltb place (length v.members) here.0) (lt-ltb b (length v.members) below))
                (ap (λ j. has v.waits (get_or v.members j 0) (get_or v.members b 0)) (sym is) ∙ step) in
                elim (cases_Bool (is_set reached b)) [
                  | inl r ↦ kept b r
                  | inr r ↦ reached_is b ∙ or_right (is_set reached b) (is_set fresh b) (fresh_is b ∙ and_from (is_set row b) (not (is_set reached b)) set (ap not r))
                ]
            | inr n ↦ kept b (s.closed a b e (sym (ap (λ t. not t && is_set work a) (ne_eqb a place n)) ∙ sym (less_is a) ∙ gone.0) below step)
          ]
        ];
  }

  same_bit : (a b : ℕ) → a < 2 → b < 2 → (a == 1) ≡ (b == 1) → a ≡ b
  same_bit a b below within e = elim (cases_eq a 1) [
    | inl is ↦ is ∙ sym (eqb-true b 1 (sym e ∙ eq-eqb a 1 is))
    | inr n ↦ elim (cases_eq b 1) [
      | inl is ↦ absurd (true≢false (sym (eq-eqb b 1 is) ∙ sym e ∙ ne_eqb a 1 n))
      | inr m ↦ omega arith
    ]
  ]

  none_fresh : reached' ≡ reached → (k : ℕ) → is_set fresh k ≡ false
  none_fresh same k = elim (cases_Bool (is_set fresh k)) [
    | inr e ↦ e
    | inl e ↦
        let lacks = not-true (is_set reached k) (and_parts (is_set row k) (not (is_set reached k)) (sym (fresh_is k) ∙ e)).1 in
        absurd (true≢false (sym (or_right (is_set reached k) (is_set fresh k) e) ∙ sym (reached_is k) ∙ ap (λ n. is_set n k) same ∙ lacks))
  ]

  work_less : reached' ≡ reached → work' ≡ less
  work_less same = same_from_bits work' less (λ k. same_bit _ _ (bit_at-lt work' k) (bit_at-lt less k) (work_is k ∙ ap (λ t. is_set less k || t) (none_fresh same k) ∙ or-false (is_set less k)))

  pub effort_less : less < work → reached ≤ reached' → reached' < 18446744073709551616 → work' < 18446744073709551616
      → (18446744073709551616 - reached') * 18446744073709551616 + work' < (18446744073709551616 - reached) * 18446744073709551616 + work
  effort_less down grown fits small = elim (cases_eq reached' reached) [
    | inl e ↦ let same = work_less e in omega (arith, e, same, down)
    | inr n ↦ omega (arith, n, grown, fits, small)
  ]

-- with nothing left to look at, all that is reached has a 1
closed_path : (v : Held) (from reached : ℕ) → Searching v from reached 0 → ((k : ℕ) → is_set 0 k ≡ false) → (x : ℕ) (path : List ℕ) (y : ℕ) → IsMarked v.members reached x → IsPath (WaitsAmong (λ p. IsMember v p) v.waits) x path y → IsMarked v.members reached y
closed_path v from reached s none x [] y here path = subst (λ z. IsMarked v.members reached z) path here
closed_path v from reached s none x (z ∷ more) y here path =
    let j = found_place v.members z path.0.1 in
    let step = ap (λ q. has v.waits q (get_or v.members j.0 0)) here.2 ∙ ap (has v.waits x) j.2 ∙ path.0.2 in
    closed_path v from reached s none z more y (j.0, j.1, j.2, s.closed here.0 j.0 here.3 (none here.0) j.1 step) path.1

pub search_ends : (v : Held) (from reached work : ℕ) → IsMember v from → work ≡ 0 → ((k : ℕ) → is_set 0 k ≡ false) → Searching v from reached work → AreReached v from reached
search_ends v from reached work member done none searched =
    let s = subst (λ w. Searching v from reached w) done searched in
    let at = found_place v.members from member in λ q. (
      λ m. (member, subst (λ z. (path : List ℕ) × IsPath (WaitsAmong (λ p. IsMember v p) v.waits) from path z) m.2 (s.found m.0 m.3).1),
      λ r. closed_path v from reached s none from r.1.0 q (at.0, at.1, at.2, s.start at.0 at.1 at.2) r.1.1,
    )

-- the members with a 1 are those that are reached
pub reached_are : {A E : Type 0} (r : Result (Vec ℕ A) E) (v : Held) (members : List ℕ) (row from : ℕ) → members ≡ v.members → AreReached v from row → IfOk r (λ marked. AreThose members row marked.items) → IfOk r (λ marked. (q : ℕ) → Contains marked.items q ↔ ReachesHere v from q)
reached_are (Ok marked) v members row from is reached are = λ q.
    let found : Contains marked.items q ↔ IsMarked v.members row q = subst (λ xs. Contains marked.items q ↔ IsMarked xs row q) is (are.all q) in
    (λ c. (reached q).0 (found.0 c), λ r. found.1 ((reached q).1 r))
reached_are (Err e) v members row from is reached are = tt

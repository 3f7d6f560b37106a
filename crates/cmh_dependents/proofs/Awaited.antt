-- For whom those that were found wait, and a cycle through the member at which the search began.
use Rattle.std.proofs.Common.{inl, inr, ◌≡◌, ◌≢◌, ◌↔◌, ℕ, ◌<◌, Bool, true, false, not, ◌&&◌, ◌||◌, ◌==◌, length, get_or, nat_lt, refl, sym, ap, ◌∙◌, subst, true≢false}
use Rattle.std.proofs.lemmas.Bool.{eq-eqb, ne_eqb, and_parts, and_from, or_cases, or_left, or_right, or_parts, cases_eq, lt-ltb, ltb-true, or_from}
use Rattle.cmh_frames.specs.Paths.{DependsOnItselfAmong}
use Rattle.cmh_frames.specs.Relation.{has}
use Rattle.cmh_waits.specs.Held.{Held, IsMember}
use Rattle.cmh_bits.specs.Bits.{is_set}
use Rattle.cmh_waits.specs.Rows.{joins}
use Rattle.cmh_dependents.specs.Marks.{AreLeaving, AreReached, StaysHere}
use Rattle.cmh_dependents.specs.Inner.Bits.{AreAwaited}
use Rattle.cmh_dependents.proofs.Cycles.{depends_from, last_wait}

-- it was found, and nothing of it is left to look at
abbrev pub IsLookedAt : ℕ → ℕ → ℕ → Type 0
IsLookedAt reached work a = (is_set reached a ≡ true) × (is_set work a ≡ false)

-- the members with a 1 in the last row are those for which one that was looked at waits
abbrev pub AreLookedAt : Held → ℕ → ℕ → ℕ → Type 0
AreLookedAt v reached work awaited =
    (k : ℕ) → (is_set awaited k ≡ true) ↔ ((a : ℕ) × IsLookedAt reached work a × (joins v.members v.waits a k ≡ true))

pub none_looked_at : (v : Held) (row : ℕ) → ((k : ℕ) → is_set 0 k ≡ false) → AreLookedAt v row row 0
none_looked_at v row none = λ k. (λ h. absurd (true≢false (sym h ∙ none k)), λ h. absurd (true≢false (sym h.1.0 ∙ h.1.1)))

module _ (v : Held) (reached work awaited place row fresh less : ℕ)
    (looked : AreLookedAt v reached work awaited) (found : is_set reached place ≡ true)
    (row_is : (k : ℕ) → is_set row k ≡ joins v.members v.waits place k)
    (fresh_is : (k : ℕ) → is_set fresh k ≡ (is_set row k && not (is_set reached k)))
    (less_is : (k : ℕ) → is_set less k ≡ (not (k == place) && is_set work k))
    (work' reached' awaited' : ℕ)
    (work_is : (k : ℕ) → is_set work' k ≡ (is_set less k || is_set fresh k))
    (reached_is : (k : ℕ) → is_set reached' k ≡ (is_set reached k || is_set fresh k))
    (awaited_is : (k : ℕ) → is_set awaited' k ≡ (is_set awaited k || is_set row k)) where
  and_false : (b : Bool) → (b && false) ≡ false
  and_false true = refl
  and_false false = refl

  not_fresh : (a : ℕ) → is_set reached a ≡ true → is_set fresh a ≡ false
  not_fresh a h = fresh_is a ∙ ap (λ t. is_set row a && not t) h ∙ and_false (is_set row a)

  -- what is reached and not left is looked at afterwards
  done : (a : ℕ) → is_set reached a ≡ true → is_set less a ≡ false → IsLookedAt reached' work' a
  done a h gone = (reached_is a ∙ or_left (is_set reached a) (is_set fresh a) h, work_is a ∙ or_from (is_set less a) (is_set fresh a) gone (not_fresh a h))

  -- the member at the place is looked at too
  pub look_on : AreLookedAt v reached' work' awaited'
  look_on = λ k. (
    λ h. elim (or_cases (is_set awaited k) (is_set row k) (sym (awaited_is k) ∙ h)) [
      | inl e ↦
          let old = (looked k).0 e in
          (old.0, done old.0 old.1.0 (less_is old.0 ∙ ap (λ t. not (old.0 == place) && t) old.1.1 ∙ and_false (not (old.0 == place))), old.2)
      | inr e ↦ (place, done place found (less_is place ∙ ap (λ t. not t && is_set work place) (eq-eqb place place refl)), sym (row_is k) ∙ e)
    ],
    λ h.
        let gone = or_parts (is_set less h.0) (is_set fresh h.0) (sym (work_is h.0) ∙ h.1.1) in
        awaited_is k ∙ (elim (or_cases (is_set reached h.0) (is_set fresh h.0) (sym (reached_is h.0) ∙ h.1.0)) [
          | inr e ↦ absurd (true≢false (sym e ∙ gone.1))
          | inl e ↦ elim (cases_eq h.0 place) [
            | inl is ↦ or_right (is_set awaited k) (is_set row k) (row_is k ∙ subst (λ a. joins v.members v.waits a k ≡ true) is h.2)
            | inr n ↦
                let left : is_set work h.0 ≡ false = sym (ap (λ t. not t && is_set work h.0) (ne_eqb h.0 place n)) ∙ sym (less_is h.0) ∙ gone.0 in
                or_left (is_set awaited k) (is_set row k) ((looked k).1 (h.0, (e, left), h.2))
          ]
        ]),
  )

-- ---- those of them that wait for processes of other sites

-- what was looked at has a 1 where it waits for a process of another site
pub record AreLeavingSoFar (v : Held) (reached work leaving : ℕ) : Type 0 where
  pub within : (k : ℕ) → is_set leaving k ≡ true → is_set reached k ≡ true
  pub stay : (k : ℕ) → k < length v.members → IsLookedAt reached work k → is_set leaving k ≡ false → StaysHere v (get_or v.members k 0)

pub none_leave : (v : Held) (row : ℕ) → ((k : ℕ) → is_set 0 k ≡ false) → AreLeavingSoFar v row row 0
none_leave v row none = record {
  within = λ k h. absurd (true≢false (sym h ∙ none k));
  stay = λ k below looked h. absurd (true≢false (sym looked.0 ∙ looked.1));
}

module _ (v : Held) (reached work leaving place fresh less : ℕ)
    (so_far : AreLeavingSoFar v reached work leaving) (found : is_set reached place ≡ true)
    (less_is : (k : ℕ) → is_set less k ≡ (not (k == place) && is_set work k))
    (work' reached' leaving' : ℕ)
    (work_is : (k : ℕ) → is_set work' k ≡ (is_set less k || is_set fresh k))
    (reached_is : (k : ℕ) → is_set reached' k ≡ (is_set reached k || is_set fresh k))
    (others : (k : ℕ) → k ≢ place → is_set leaving' k ≡ is_set leaving k)
    (here : place < length v.members → is_set leaving' place ≡ false → StaysHere v (get_or v.members place 0)) where
  -- the member at the place is looked at too
  pub leave_on : AreLeavingSoFar v reached' work' leaving'
  leave_on = record {
    within = λ k h. reached_is k ∙ or_left (is_set reached k) (is_set fresh k) (elim (cases_eq k place) [
      | inl e ↦ ap (is_set reached) e ∙ found
      | inr n ↦ so_far.within k (sym (others k n) ∙ h)
    ]);
    stay = λ k below looked h. elim (cases_eq k place) [
      | inl e ↦ subst (λ a. StaysHere v (get_or v.members a 0)) (sym e)
          (here (subst (λ a. a < length v.members) e below) (ap (is_set leaving') (sym e) ∙ h))
      | inr n ↦
          let gone = or_parts (is_set less k) (is_set fresh k) (sym (work_is k) ∙ looked.1) in
          elim (or_cases (is_set reached k) (is_set fresh k) (sym (reached_is k) ∙ looked.0)) [
            | inr e ↦ absurd (true≢false (sym e ∙ gone.1))
            | inl e ↦ so_far.stay k below (e, sym (ap (λ t. not t && is_set work k) (ne_eqb k place n)) ∙ sym (less_is k) ∙ gone.0) (sym (others k n) ∙ h)
          ]
    ];
  }

pub all_leave : (v : Held) (reached work leaving : ℕ) → work ≡ 0 → ((k : ℕ) → is_set 0 k ≡ false) → AreLeavingSoFar v reached work leaving → AreLeaving v reached leaving
all_leave v reached work leaving empty none so_far = record {
  within = so_far.within;
  stay = λ k below h. so_far.stay k below (h, ap (λ n. is_set n k) empty ∙ none k);
}

-- ---- at the end

-- with nothing left to look at, those are all for which one that is reached waits
pub all_looked_at : (v : Held) (reached work awaited : ℕ) → work ≡ 0 → ((k : ℕ) → is_set 0 k ≡ false) → AreLookedAt v reached work awaited → AreAwaited v reached awaited
all_looked_at v reached work awaited empty none looked = λ k. (
  λ h. let a = (looked k).0 h in (a.0, a.1.0, a.2),
  λ h. (looked k).1 (h.0, (h.1, ap (λ n. is_set n h.0) empty ∙ none h.0), h.2),
)

-- a member is on a cycle where one that it reaches waits for it
pub cycle_at : (v : Held) (start from reached awaited : ℕ) → start < length v.members → get_or v.members start 0 ≡ from → AreReached v from reached → AreAwaited v reached awaited
    → (is_set awaited start ≡ true) ↔ DependsOnItselfAmong (λ p. IsMember v p) v.waits from
cycle_at v start from reached awaited inside is are awaits = (
  λ h.
      let a = (awaits start).0 h in
      let parts = and_parts (nat_lt a.0 (length v.members) && nat_lt start (length v.members)) (has v.waits (get_or v.members a.0 0) (get_or v.members start 0)) a.2 in
      let below = ltb-true a.0 (length v.members) (and_parts (nat_lt a.0 (length v.members)) (nat_lt start (length v.members)) parts.0).0 in
      let reaches = (are (get_or v.members a.0 0)).0 (a.0, below, refl, a.1) in
      depends_from (λ p. IsMember v p) v.waits from (get_or v.members a.0 0) reaches (subst (λ p. has v.waits (get_or v.members a.0 0) p ≡ true) is parts.1),
  λ d.
      let last = last_wait (λ p. IsMember v p) v.waits from d in
      let at = (are last.0).1 last.1 in
      let waits = ap (λ p. has v.waits p (get_or v.members start 0)) at.2 ∙ ap (has v.waits last.0) is ∙ last.2 in
      (awaits start).1 (
        at.0,
        at.3,
        and_from (nat_lt at.0 (length v.members) && nat_lt start (length v.members)) (has v.waits (get_or v.members at.0 0) (get_or v.members start 0))
            (and_from (nat_lt at.0 (length v.members)) (nat_lt start (length v.members)) (lt-ltb at.0 (length v.members) at.1) (lt-ltb start (length v.members) inside)) waits,
      ),
)

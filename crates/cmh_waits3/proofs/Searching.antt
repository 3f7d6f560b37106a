-- The search of what a process reaches, by sets of places: what is reached, and what of it is left to look at.
use Rattle.std.proofs.Common.{inl, inr, ◌≡◌, ◌↔◌, ℕ, ◌+◌, ◌-◌, ◌*◌, ◌<◌, Bool, true, false, not, ◌&&◌, ◌||◌, ◌==◌, ◌⊎◌, List, [], ◌∷◌, ◌++◌, length, get_or, nat_lt, refl, sym, ap, ◌∙◌, subst, true≢false}
use Rattle.std.specs.List.Sorted.{IsStrictlyIncreasing}
use Rattle.std.proofs.lemmas.Bool.{eqb-true, eq-eqb, ne_eqb, and_parts, and_from, or_cases, or_left, or_right, or_parts, cases_Bool, cases_eq, lt-ltb, ltb-true}
use Rattle.cmh_model3.specs.State.{counts}
use Rattle.cmh_model3.specs.Paths.{IsPath}
use Rattle.cmh_waits3.specs.Held.{Held, is_member, state_of}
use Rattle.cmh_waits3.specs.Inner.Steps.{AreAwaited, AreReached, IsStep, has_place, leads}
use Rattle.cmh_waits3.proofs.Counting.{count_below, count_either, count_most, count_without, less_to_do}
use Rattle.cmh_waits3.proofs.Lists.{at_in, in_at}
use Rattle.cmh_waits3.proofs.Members.{same_place}

-- a path with one more step
pub path_further : (R : ℕ → ℕ → Type 0) (x : ℕ) (path : List ℕ) (y z : ℕ) → IsPath R x path y → R y z → IsPath R x (path ++ z ∷ []) z
path_further R x [] y z path step = (subst (λ v. R v z) (sym path) step, refl)
path_further R x (w ∷ more) y z path step = (path.0, path_further R w more y z path.1 step)

-- it was reached, and nothing of it is left to look at
abbrev pub IsDone : List ℕ → List ℕ → ℕ → Type 0
IsDone reached work a = (has_place reached a ≡ true) × (has_place work a ≡ false)

-- What the search keeps: each place is reached by a path, what is done leads to what is reached, and the awaited places
-- are those to which what is done leads.
pub record Searching (v : Held) (n i from : ℕ) (reached work awaited : List ℕ) : Type 0 where
  pub in_work : (k : ℕ) → has_place work k ≡ true → has_place reached k ≡ true
  pub start : (k : ℕ) → k < length v.members → get_or v.members k 0 ≡ from → has_place reached k ≡ true
  pub found : (k : ℕ) → has_place reached k ≡ true → (k < length v.members) × ((path : List ℕ) × IsPath (IsStep v n i) from path (get_or v.members k 0))
  pub closed : (a b : ℕ) → IsDone reached work a → leads v n i a b ≡ true → has_place reached b ≡ true
  pub looked : (k : ℕ) → (has_place awaited k ≡ true) ↔ ((a : ℕ) × IsDone reached work a × (leads v n i a k ≡ true))

pub begin_search : (v : Held) (n i from place : ℕ) (row none : List ℕ) → IsStrictlyIncreasing v.members → place < length v.members → get_or v.members place 0 ≡ from
    → ((k : ℕ) → has_place row k ≡ (k == place)) → ((k : ℕ) → has_place none k ≡ false) → Searching v n i from row row none
begin_search v n i from place row none up inside is bits empty = record {
  in_work = λ k h. h;
  start = λ k below same. bits k ∙ eq-eqb k place (same_place v.members up k place below inside (same ∙ sym is));
  found = λ k h. let e = eqb-true k place (sym (bits k) ∙ h) in (subst (λ j. j < length v.members) (sym e) inside, ([], sym is ∙ ap (λ j. get_or v.members j 0) (sym e)));
  closed = λ a b done step. absurd (true≢false (sym done.0 ∙ done.1));
  looked = λ k. (λ h. absurd (true≢false (sym h ∙ empty k)), λ h. absurd (true≢false (sym h.1.0 ∙ h.1.1)));
}

module _ (v : Held) (n i from : ℕ) (reached work awaited : List ℕ) (place : ℕ) (led fresh less work' reached' awaited' : List ℕ)
    (s : Searching v n i from reached work awaited) (small : place < 256) (at : has_place work place ≡ true)
    (led_is : (k : ℕ) → has_place led k ≡ leads v n i place k)
    (fresh_is : (k : ℕ) → has_place fresh k ≡ (has_place led k && not (has_place reached k)))
    (less_is : (k : ℕ) → has_place less k ≡ (not (k == place) && has_place work k))
    (work_is : (k : ℕ) → has_place work' k ≡ (has_place less k || has_place fresh k))
    (reached_is : (k : ℕ) → has_place reached' k ≡ (has_place reached k || has_place fresh k))
    (awaited_is : (k : ℕ) → has_place awaited' k ≡ (has_place awaited k || has_place led k)) where
  kept : (k : ℕ) → has_place reached k ≡ true → has_place reached' k ≡ true
  kept k h = reached_is k ∙ or_left (has_place reached k) (has_place fresh k) h

  here : has_place reached place ≡ true
  here = s.in_work place at

  not_fresh : (k : ℕ) → has_place reached k ≡ true → has_place fresh k ≡ false
  not_fresh k h = fresh_is k ∙ ap (λ b. has_place led k && not b) h ∙ and_no (has_place led k)
    where
      and_no : (b : Bool) → (b && false) ≡ false
      and_no true = refl
      and_no false = refl

  -- what is done afterwards was reached before: it was done, or is the one at the place
  was : (a : ℕ) → IsDone reached' work' a → (a ≡ place) ⊎ IsDone reached work a
  was a done =
      let gone = or_parts (has_place less a) (has_place fresh a) (sym (work_is a) ∙ done.1) in
      elim (or_cases (has_place reached a) (has_place fresh a) (sym (reached_is a) ∙ done.0)) [
        | inr e ↦ absurd (true≢false (sym e ∙ gone.1))
        | inl e ↦ elim (cases_eq a place) [
          | inl is ↦ inl is
          | inr ne ↦ inr (e, sym (ap (λ b. not b && has_place work a) (ne_eqb a place ne)) ∙ sym (less_is a) ∙ gone.0)
        ]
      ]

  -- and what is done, or at the place, is done afterwards
  stays : (a : ℕ) → has_place reached a ≡ true → has_place less a ≡ false → IsDone reached' work' a
  stays a h gone = (kept a h, work_is a ∙ ap (λ b. b || has_place fresh a) gone ∙ not_fresh a h)

  still : (a : ℕ) → IsDone reached work a → IsDone reached' work' a
  still a done = stays a done.0 (less_is a ∙ ap (λ b. not (a == place) && b) done.1 ∙ and_no (not (a == place)))
    where
      and_no : (b : Bool) → (b && false) ≡ false
      and_no true = refl
      and_no false = refl

  now : IsDone reached' work' place
  now = stays place here (less_is place ∙ ap (λ b. not b && has_place work place) (eq-eqb place place refl))

  pub search_on : Searching v n i from reached' work' awaited'
  search_on = record {
    in_work = λ k h. elim (or_cases (has_place less k) (has_place fresh k) (sym (work_is k) ∙ h)) [
      | inl e ↦ kept k (s.in_work k (and_parts (not (k == place)) (has_place work k) (sym (less_is k) ∙ e)).1)
      | inr e ↦ reached_is k ∙ or_right (has_place reached k) (has_place fresh k) e
    ];
    start = λ k below is. kept k (s.start k below is);
    found = λ k h. elim (or_cases (has_place reached k) (has_place fresh k) (sym (reached_is k) ∙ h)) [
      | inl e ↦ s.found k e
      | inr e ↦
          let step = sym (led_is k) ∙ (and_parts (has_place led k) (not (has_place reached k)) (sym (fresh_is k) ∙ e)).0 in
          let parts = and_parts (nat_lt k (length v.members)) (counts (state_of v) n i (get_or v.members place 0) (get_or v.members k 0)) step in
          let below = ltb-true k (length v.members) parts.0 in
          let before = s.found place here in
          (below, (before.1.0 ++ get_or v.members k 0 ∷ [], path_further (IsStep v n i) from before.1.0 (get_or v.members place 0) (get_or v.members k 0) before.1.1 (parts.1, at_in v.members k (get_or v.members k 0) below refl)))
    ];
    closed = λ a b done step. elim (was a done) [
      | inr old ↦ kept b (s.closed a b old step)
      | inl is ↦
          let set : has_place led b ≡ true = led_is b ∙ subst (λ x. leads v n i x b ≡ true) is step in
          elim (cases_Bool (has_place reached b)) [
            | inl r ↦ kept b r
            | inr r ↦ reached_is b ∙ or_right (has_place reached b) (has_place fresh b) (fresh_is b ∙ and_from (has_place led b) (not (has_place reached b)) set (ap not r))
          ]
    ];
    looked = λ k. (
      λ h. elim (or_cases (has_place awaited k) (has_place led k) (sym (awaited_is k) ∙ h)) [
        | inl e ↦ let old = (s.looked k).0 e in (old.0, still old.0 old.1, old.2)
        | inr e ↦ (place, now, sym (led_is k) ∙ e)
      ],
      λ h. awaited_is k ∙ (elim (was h.0 h.1) [
        | inr old ↦ or_left (has_place awaited k) (has_place led k) ((s.looked k).1 (h.0, old, h.2))
        | inl is ↦ or_right (has_place awaited k) (has_place led k) (led_is k ∙ subst (λ x. leads v n i x k ≡ true) is h.2)
      ]),
    );
  }

  pub effort_less : 2 * (256 - count_below (has_place reached') 256) + count_below (has_place work') 256 < 2 * (256 - count_below (has_place reached) 256) + count_below (has_place work) 256
  effort_less =
      let more = count_either (has_place reached) (has_place fresh) (has_place reached') reached_is not_fresh 256 in
      let left = count_either (has_place less) (has_place fresh) (has_place work') work_is (λ k h. not_fresh k (s.in_work k (and_parts (not (k == place)) (has_place work k) (sym (less_is k) ∙ h)).1)) 256 in
      let taken = count_without (has_place work) (has_place less) place 256 small at less_is in
      less_to_do (count_below (has_place reached) 256) (count_below (has_place fresh) 256) (count_below (has_place work) 256) (count_below (has_place less) 256) (count_below (has_place reached') 256) (count_below (has_place work') 256)
      more left taken (count_most (has_place reached') 256)

-- ---- at the end

-- the process stands at a place that is reached
abbrev pub IsFound : Held → List ℕ → ℕ → Type 0
IsFound v reached q = (k : ℕ) × (k < length v.members) × (get_or v.members k 0 ≡ q) × (has_place reached k ≡ true)

module _ (v : Held) (n i from : ℕ) (reached work awaited : List ℕ) (s : Searching v n i from reached work awaited) (empty : (k : ℕ) → has_place work k ≡ false) where
  follow : (x : ℕ) (path : List ℕ) (y : ℕ) → IsFound v reached x → IsPath (IsStep v n i) x path y → IsFound v reached y
  follow x [] y at path = subst (IsFound v reached) path at
  follow x (z ∷ more) y at path =
      let next = in_at v.members z path.0.1 in
      let step = and_from (nat_lt next.0 (length v.members)) (counts (state_of v) n i (get_or v.members at.0 0) (get_or v.members next.0 0))
      (lt-ltb next.0 (length v.members) next.1)
      (ap (λ p. counts (state_of v) n i p (get_or v.members next.0 0)) at.2 ∙ ap (counts (state_of v) n i x) next.2 ∙ path.0.0) in
      follow z more y (next.0, next.1, next.2, s.closed at.0 next.0 (at.3, empty at.0) step) path.1

  pub search_ends : IsStrictlyIncreasing v.members → is_member v from ≡ true → AreReached v n i from reached
  search_ends up member = λ k. (
    s.found k,
    λ h.
        let first = in_at v.members from member in
        let last = follow from h.1.0 (get_or v.members k 0) (first.0, first.1, first.2, s.start first.0 first.1 first.2) h.1.1 in
        ap (has_place reached) (sym (same_place v.members up last.0 k last.1 h.0 last.2)) ∙ last.3,
  )

  pub awaited_ends : AreAwaited v n i reached awaited
  awaited_ends = λ k. (
    λ h. let a = (s.looked k).0 h in (a.0, a.1.0, a.2),
    λ h. (s.looked k).1 (h.0, (h.1, empty h.0), h.2),
  )

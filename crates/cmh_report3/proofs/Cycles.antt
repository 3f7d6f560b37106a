-- Cycles of waits that are held as sets.
use Rattle.std.proofs.Common.{◌≡◌, ◌↔◌, ℕ, zero, suc, ◌<◌, Bool, true, false, not, ◌&&◌, List, [], ◌∷◌, length, filter, Vec, if◌then◌else◌, Option, None, Some, refl, sym, ap, subst, ◌∙◌, ◌⊎◌, inl, inr, arith, true≢false, Contains}
use Rattle.std.specs.Global.{Global}
use Rattle.std.specs.Prelude.{IfNone}
use Rattle.std.proofs.lemmas.Bool.{cases_Bool}
use Rattle.cmh_cycles.specs.Cycles.{ComesFirst, IsFirstCycleOf}
use Rattle.cmh_cycles.specs.FoundCycles.{IsCycleIn, WaitsIn}
use Rattle.cmh_frames.specs.Paths.{IsCycleOf}
use Rattle.cmh_frames.proofs.Members.{no_member}
use Rattle.cmh_frames.proofs.PathLemmas.{path_map}
use Rattle.cmh_report3.specs.declared.cycle.CycleNow.{CycleNow}
use Rattle.cmh_report3.specs.declared.cycle.CycleNow.TheVariants as cycle
use Rattle.cmh_report3.specs.Reports.{BecameOf, IsLeastLeaver, Leaves, NoCycleOf}

abbrev pub Same : (ℕ → ℕ → Type 0) → (ℕ → ℕ → Type 0) → Type 0
Same R S = (j k : ℕ) → R j k ↔ S j k

module _ (R S : ℕ → ℕ → Type 0) (same : Same R S) where
  cycle_to : (i : ℕ) (members : List ℕ) → IsCycleOf R i members → IsCycleOf S i members
  cycle_to i [] h = h
  cycle_to i (x ∷ []) h = h
  cycle_to i (x ∷ y ∷ others) h = (h.0, path_map R S (λ p q w. (same p q).0 w) x (y ∷ others) i h.1)

  cycle_from : (i : ℕ) (members : List ℕ) → IsCycleOf S i members → IsCycleOf R i members
  cycle_from i [] h = h
  cycle_from i (x ∷ []) h = h
  cycle_from i (x ∷ y ∷ others) h = (h.0, path_map S R (λ p q w. (same p q).1 w) x (y ∷ others) i h.1)

  pub first_to : (i : ℕ) (members : List ℕ) → IsFirstCycleOf R i members → IsFirstCycleOf S i members
  first_to i members h = record {
    cycle = cycle_to i members h.cycle;
    first = λ other c. h.first other (cycle_from i other c);
  }

  pub none_to : (i : ℕ) → NoCycleOf R i → NoCycleOf S i
  none_to i none = λ members c. none members (cycle_from i members c)

  leaves_to : (members : List ℕ) (j : ℕ) → Leaves R members j → Leaves S members j
  leaves_to [] j h = absurd h
  leaves_to (x ∷ xs) j (k, next, leaves) = (k, next, (same j k).0 leaves)

  leaves_from : (members : List ℕ) (j : ℕ) → Leaves S members j → Leaves R members j
  leaves_from [] j h = absurd h
  leaves_from (x ∷ xs) j (k, next, leaves) = (k, next, (same j k).1 leaves)

  pub least_to : (members : List ℕ) (by : Option ℕ) → IsLeastLeaver R members by → IsLeastLeaver S members by
  least_to members None none = λ j h. none j (leaves_from members j h)
  least_to members (Some by) some = (leaves_to members by some.0, λ j h. some.1 j (leaves_from members j h))

pub became_to : (A B C D E F : ℕ → ℕ → Type 0) → Same A B → Same C D → Same E F → (i : ℕ) (now : CycleNow) → BecameOf A C E i now → BecameOf B D F i now
became_to A B C D E F stood stands left i (cycle.Stands members) h = first_to C D stands i members.items h
became_to A B C D E F stood stands left i (cycle.Left members by) h =
    (none_to C D stands i h.0, first_to A B stood i members.items h.1, least_to E F left members.items by h.2)
became_to A B C D E F stood stands left i cycle.None h = none_to A B stood i h

-- ---- pairs that are left in a list

pub and_both : (a b : Bool) → a ≡ true → b ≡ true → (a && b) ≡ true
and_both true true x y = refl
and_both true false x y = y
and_both false b x y = x

pub and_first : (a b : Bool) → (a && b) ≡ true → a ≡ true
and_first true b h = refl
and_first false b h = h

pub and_second : (a b : Bool) → (a && b) ≡ true → b ≡ true
and_second true b h = h
and_second false true h = refl
and_second false false h = h

split : {X : Type 0} (y : X) (ys : List X) (x : X) → Contains (y ∷ ys) x → (y ≡ x) ⊎ Contains ys x
split y ys x (zero, h, e) = inl e
split y ys x (suc n, h, e) = inr (n, omega arith, e)

later : {X : Type 0} (y : X) (ys : List X) (x : X) → Contains ys x → Contains (y ∷ ys) x
later y ys x c = (suc c.0, (let h : c.0 < length ys = c.1 in omega arith), c.2)

pub from_filter : {X : Type 0} (f : X → Bool) (xs : List X) (x : X) → Contains (filter f xs) x → Contains xs x × (f x ≡ true)
from_filter f [] x c = absurd (no_member x c)
from_filter f (y ∷ ys) x c = elim (cases_Bool (f y)) [
  | inl stays ↦ elim (split y (filter f ys) x (subst (λ l. Contains l x) (ap (λ b. if b then y ∷ filter f ys else filter f ys) stays) c)) [
    | inl here ↦ ((0, omega arith, here), ap f (sym here) ∙ stays)
    | inr there ↦ let old = from_filter f ys x there in (later y ys x old.0, old.1)
  ]
  | inr goes ↦
      let old = from_filter f ys x (subst (λ l. Contains l x) (ap (λ b. if b then y ∷ filter f ys else filter f ys) goes) c) in
      (later y ys x old.0, old.1)
]

pub in_filter : {X : Type 0} (f : X → Bool) (xs : List X) (x : X) → Contains xs x → f x ≡ true → Contains (filter f xs) x
in_filter f [] x c h = absurd (no_member x c)
in_filter f (y ∷ ys) x c h = elim (cases_Bool (f y)) [
  | inl stays ↦
      subst (λ l. Contains l x) (sym (ap (λ b. if b then y ∷ filter f ys else filter f ys) stays)) (elim (split y ys x c) [
        | inl here ↦ (0, omega arith, here)
        | inr there ↦ later y (filter f ys) x (in_filter f ys x there h)
      ])
  | inr goes ↦
      subst (λ l. Contains l x) (sym (ap (λ b. if b then y ∷ filter f ys else filter f ys) goes)) (elim (split y ys x c) [
        | inl here ↦ absurd (true≢false (sym h ∙ ap f (sym here) ∙ goes))
        | inr there ↦ in_filter f ys x there h
      ])
]

-- the waits that are left of those of a set, without those of another
pub beyond_same : (waits ended : ℕ → ℕ → Bool) (pairs : List (ℕ × ℕ)) → ((j k : ℕ) → Contains pairs (j, k) ↔ (waits j k ≡ true))
    → Same (λ j k. WaitsIn (filter (λ (pair : ℕ × ℕ). not (ended pair.0 pair.1)) pairs) j k) (λ j k. (waits j k && not (ended j k)) ≡ true)
beyond_same waits ended pairs are j k = (
  λ c. let old = from_filter (λ (pair : ℕ × ℕ). not (ended pair.0 pair.1)) pairs (j, k) c in
      and_both (waits j k) (not (ended j k)) ((are j k).0 old.0) old.1,
  λ h. in_filter (λ (pair : ℕ × ℕ). not (ended pair.0 pair.1)) pairs (j, k)
      ((are j k).1 (and_first (waits j k) (not (ended j k)) h)) (and_second (waits j k) (not (ended j k)) h),
)

-- what the search finds
pub found_first : (waits : List (ℕ × ℕ)) (R : ℕ → ℕ → Type 0) → Same (λ j k. WaitsIn waits j k) R → (i : ℕ) (members : List ℕ)
    → IsCycleIn waits i members → ((other : List ℕ) → IsCycleIn waits i other → ComesFirst members other) → IsFirstCycleOf R i members
found_first waits R same i members is first = first_to (λ j k. WaitsIn waits j k) R same i members (record { cycle = is; first = first })

pub found_none : (waits : List (ℕ × ℕ)) (R : ℕ → ℕ → Type 0) → Same (λ j k. WaitsIn waits j k) R → (i : ℕ)
    → ((other : List ℕ) → IsCycleIn waits i other → ⊥) → NoCycleOf R i
found_none waits R same i none = none_to (λ j k. WaitsIn waits j k) R same i none

-- the search found none
pub no_cycle : (waits : List (ℕ × ℕ)) (i : ℕ) (found : Option (Vec ℕ Global)) → ((ms : Vec ℕ Global) → found ≡ Some ms → ⊥)
    → IfNone found ((other : List ℕ) → IsCycleIn waits i other → ⊥) → (other : List ℕ) → IsCycleIn waits i other → ⊥
no_cycle waits i None not_some none = none
no_cycle waits i (Some ms) not_some none = absurd (not_some ms refl)

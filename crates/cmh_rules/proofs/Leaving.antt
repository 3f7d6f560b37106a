-- The waits that leave a site, collected process by process.
use Rattle.std.proofs.Common.{inl, inr, zero, suc, ◌≡◌, ◌↔◌, ℕ, ◌+◌, ◌-◌, ◌<◌, ◌≤◌, false, true, true≢false, List, [], ◌∷◌, ◌++◌, length, get_or, map, refl, sym, ap, ◌∙◌, subst, arith, Contains, None, slice_get, Less, nat_cmp, not, ◌&&◌, ◌==◌, Bool}
use Rattle.std.specs.List.{AllByRecursion}
use Rattle.std.specs.List.Sorted.{IsStrictlySortedBy, IsStrictlyIncreasing}
use Rattle.std.specs.Ordering.{ordering_then}
use Rattle.std.specs.Cmp.{nat_cmp_is, nat_cmp_total, tied_itself}
use Rattle.std.proofs.lemmas.Bool.{and_from, cases_Bool, cases_eq, cases_lt, eq-eqb, ne_eqb}
use Rattle.std.proofs.lemmas.List.{map-append}
use Rattle.std.proofs.lemmas.Option.{none-some, slice_get_cases}
use Rattle.std.proofs.lemmas.List.Elements.{Contains-push, Contains-append_left, Contains-append_right, Contains-append_cases}
use Rattle.cmh_frames.proofs.Members.{no_member, increasing_tail}
use Rattle.cmh_frames.specs.declared.frame.Frame.{Frame}
use Rattle.cmh_frames.specs.declared.frame.Frame.TheVariants.{Probe}
use Rattle.cmh_frames.specs.Relation.{Relation, pair_cmp, has, has_some}
use Rattle.cmh_waits.specs.Held.{Held, is_member, IsMember}
use Rattle.cmh_bits.specs.Bits.{is_set}
use Rattle.cmh_dependents.specs.Marks.{AreLeaving, IsMarked}
use Rattle.cmh_dependents.proofs.Marked.{AreMarkedBelow, none_below, skip_member, take_member, all_below}
use Rattle.std.proofs.lemmas.Map.Keys.{sorted_from_strictly_increasing, below_from_sorted}
use Rattle.cmh_rules.specs.Verdicts.{AreProbesOf, acts, probe_along}
use Rattle.cmh_frames.proofs.Each.{all_append}
use Rattle.cmh_frames.proofs.Ascending.{head_below}

pub none_yet : (v : Held) (origin : ℕ) → AreProbesOf v origin (λ q. Contains [] q) []
unfolding IsStrictlySortedBy
none_yet v origin = record {
  edges = [];
  ascending = tt;
  all = λ edge. (λ c. absurd (no_member edge c), λ h. absurd (no_member edge.0 h.0));
  are = refl;
}

-- ---- two lists in order, the first below the second

pub sorted_append : (xs ys : List (ℕ × ℕ)) → IsStrictlySortedBy pair_cmp xs → IsStrictlySortedBy pair_cmp ys → ((x : ℕ × ℕ) → Contains xs x → AllByRecursion (λ y. pair_cmp x y ≡ Less) ys) → IsStrictlySortedBy pair_cmp (xs ++ ys)
unfolding IsStrictlySortedBy
sorted_append [] ys a b below = b
sorted_append (x ∷ xs) ys a b below =
    (all_append _ xs ys a.0 (below x (0, omega arith, refl)), sorted_append xs ys a.1 b (λ z c. below z (suc c.0, (let h : c.0 < length xs = c.1 in omega arith), c.2)))

-- ---- pairs in order

lesser_first : (x y : ℕ × ℕ) → x.0 < y.0 → pair_cmp x y ≡ Less
lesser_first x y h = ap (λ r. ordering_then r (nat_cmp x.1 y.1)) (sym (nat_cmp_is x.0 y.0 Less h))

lesser_second : (p a b : ℕ) → a < b → pair_cmp (p, a) (p, b) ≡ Less
lesser_second p a b h = ap (λ r. ordering_then r (nat_cmp a b)) (tied_itself nat_cmp_total p) ∙ sym (nat_cmp_is a b Less h)

pub pairs_ascend : (p : ℕ) (xs : List ℕ) → IsStrictlyIncreasing xs → IsStrictlySortedBy pair_cmp (map (λ to. (p, to)) xs)
unfolding IsStrictlySortedBy
pairs_ascend p [] up = tt
pairs_ascend p (x ∷ xs) up = (each xs (head_below x xs up), pairs_ascend p xs (increasing_tail x xs up))
  where
    each : (ys : List ℕ) → AllByRecursion (λ y. x < y) ys → AllByRecursion (λ y. pair_cmp (p, x) y ≡ Less) (map (λ to. (p, to)) ys)
    each [] all = tt
    each (y ∷ ys) all = (lesser_second p x y all.0, each ys all.1)

pub all_above : (q p b : ℕ) (xs : List ℕ) → q < p → AllByRecursion (λ y. pair_cmp (q, b) y ≡ Less) (map (λ to. (p, to)) xs)
all_above q p b [] h = tt
all_above q p b (x ∷ xs) h = (lesser_first (q, b) (p, x) h, all_above q p b xs h)

-- ---- members of a list of pairs

pub in_pairs : (p : ℕ) (xs : List ℕ) (k : ℕ) → Contains xs k → Contains {X = ℕ × ℕ} (map (λ to. (p, to)) xs) (p, k)
in_pairs p [] k c = absurd (no_member k c)
in_pairs p (x ∷ xs) k (zero, h, e) = (0, omega arith, ap (λ y. (p, y)) e)
in_pairs p (x ∷ xs) k (suc n, h, e) = let c = in_pairs p xs k (n, omega arith, e) in (suc c.0, (let h : c.0 < length (map (λ to. (p, to)) xs) = c.1 in omega arith), c.2)

pub from_pairs : (p : ℕ) (xs : List ℕ) (e : ℕ × ℕ) → Contains (map (λ to. (p, to)) xs) e → (p ≡ e.0) × Contains xs e.1
from_pairs p [] e c = absurd (no_member e c)
from_pairs p (x ∷ xs) e (zero, h, i) = (ap (λ (y : ℕ × ℕ). y.0) i, (0, omega arith, ap (λ (y : ℕ × ℕ). y.1) i))
from_pairs p (x ∷ xs) e (suc n, h, i) = let c = from_pairs p xs e (n, omega arith, i) in (c.0, (suc c.1.0, (let h : c.1.0 < length xs = c.1.1 in omega arith), c.1.2))

-- ---- one more process

-- the waits of one more process, whose number is greater
pub more_probes : (v : Held) (processes : List ℕ) (p : ℕ) (targets : List ℕ) (origin : ℕ) (frames : List Frame) → ((q : ℕ) → Contains processes q → q < p) → IsStrictlyIncreasing targets → ((k : ℕ) → Contains targets k ↔ ((has v.waits p k ≡ true) × (is_member v k ≡ false))) → AreProbesOf v origin (λ q. Contains processes q) frames → AreProbesOf v origin (λ q. Contains (processes ++ p ∷ []) q) (frames ++ map (λ to. Probe (origin, p, to)) targets)
more_probes v processes p targets origin frames below up each so_far =
    let new = map (λ to. (p, to)) targets in
    record {
      edges = so_far.edges ++ new;
      ascending = sorted_append so_far.edges new so_far.ascending (pairs_ascend p targets up) (λ x c. all_above x.0 p x.1 targets (below x.0 ((so_far.all x).0 c).0));
      all = λ edge. (
        λ c. elim (Contains-append_cases so_far.edges new edge c) [
          | inl d ↦ let old = (so_far.all edge).0 d in (Contains-append_left processes (p ∷ []) edge.0 old.0, old.1, old.2)
          | inr d ↦
              let pair = from_pairs p targets edge d in
              let wait = (each edge.1).0 pair.1 in
              (subst (λ q. Contains (processes ++ p ∷ []) q) pair.0 (Contains-push processes p), subst (λ q. has v.waits q edge.1 ≡ true) pair.0 wait.0, wait.1)
        ],
        λ h. elim (Contains-append_cases processes (p ∷ []) edge.0 h.0) [
          | inl d ↦ Contains-append_left so_far.edges new edge ((so_far.all edge).1 (d, h.1, h.2))
          | inr d ↦
              let is : p ≡ edge.0 = only d in
              Contains-append_right so_far.edges new edge (subst (λ q. Contains {X = ℕ × ℕ} new (q, edge.1)) is (in_pairs p targets edge.1 ((each edge.1).1 (subst (λ q. has v.waits q edge.1 ≡ true) (sym is) h.1, h.2))))
        ],
      );
      are = ap (λ fs. fs ++ map (λ to. Probe (origin, p, to)) targets) so_far.are ∙ sym (map-append (probe_along origin) so_far.edges new ∙ ap (λ fs. map (probe_along origin) so_far.edges ++ fs) (along_pairs targets));
    }
  where
    only : {q : ℕ} → Contains (p ∷ []) q → p ≡ q
    only (zero, h, e) = e
    only (suc n, h, e) = absurd (omega arith)

    along_pairs : (ks : List ℕ) → map (probe_along origin) (map (λ to. (p, to)) ks) ≡ map (λ to. Probe (origin, p, to)) ks
    along_pairs [] = refl
    along_pairs (k ∷ ks) = ap (λ fs. Probe (origin, p, k) ∷ fs) (along_pairs ks)

-- they are the same of the same processes
pub probes_of : (v : Held) (origin : ℕ) (Some Those : ℕ → Type 0) (frames : List Frame) → ((q : ℕ) → Some q ↔ Those q) → AreProbesOf v origin Some frames → AreProbesOf v origin Those frames
probes_of v origin Some Those frames all p = record {
  edges = p.edges;
  ascending = p.ascending;
  all = λ edge. (
    λ c. let e = (p.all edge).0 c in ((all edge.0).0 e.0, e.1, e.2),
    λ e. (p.all edge).1 ((all edge.0).1 e.0, e.1, e.2),
  );
  are = p.are;
}

-- ---- the members in turn

-- the probes from the members before a place that are reached
pub record ProbesBelow (v : Held) (origin places n : ℕ) (frames : List Frame) : Type 0 where
  pub reached : List ℕ
  pub marked : AreMarkedBelow v.members places n reached
  pub probes : AreProbesOf v origin (λ q. Contains reached q) frames

pub probes_begin : (v : Held) (origin places : ℕ) → ProbesBelow v origin places 0 []
probes_begin v origin places = record { reached = []; marked = none_below v.members places; probes = none_yet v origin }

module _ (v : Held) (origin places n : ℕ) (frames : List Frame) (so_far : ProbesBelow v origin places n frames) where
  pub probes_on : (p : ℕ) (targets : List ℕ) → IsStrictlyIncreasing v.members → n < length v.members → get_or v.members n 0 ≡ p → is_set places n ≡ true
      → IsStrictlyIncreasing targets → ((k : ℕ) → Contains targets k ↔ ((has v.waits p k ≡ true) × (is_member v k ≡ false)))
      → ProbesBelow v origin places (n + 1) (frames ++ map (λ to. Probe (origin, p, to)) targets)
  probes_on p targets up inside is set ascending each =
      let below : (q : ℕ) → Contains so_far.reached q → q < p = λ q c.
      let m = so_far.marked.only q c in
      let less : get_or v.members m.0 0 < get_or v.members n 0 = below_from_sorted v.members m.0 n 0 (sorted_from_strictly_increasing v.members up) m.1 inside in
      let same : get_or v.members m.0 0 ≡ q = m.2 in
      omega arith in
      record {
        reached = so_far.reached ++ p ∷ [];
        marked = take_member v.members places n p so_far.reached up inside is set so_far.marked;
        probes = more_probes v so_far.reached p targets origin frames below ascending each so_far.probes;
      }

  -- none of those up to a later place is reached
  pub probes_skip_to : (m : ℕ) → n ≤ m → ((k : ℕ) → n ≤ k → k < m → is_set places k ≡ false) → ProbesBelow v origin places m frames
  probes_skip_to m up none = subst (λ k. ProbesBelow v origin places k frames) (omega (arith, up)) (skip_by (m - n) none_there)
    where
      none_there : (k : ℕ) → k < m - n → is_set places (n + k) ≡ false
      none_there k below = none (n + k) (omega arith) (omega (arith, up, below))

      skip_by : (d : ℕ) → ((k : ℕ) → k < d → is_set places (n + k) ≡ false) → ProbesBelow v origin places (n + d) frames
      skip_by zero unmarked = subst (λ k. ProbesBelow v origin places k frames) (omega arith) so_far
      skip_by (suc d) unmarked =
          let before = skip_by d (λ k below. unmarked k (omega (arith, below))) in
          record {
            reached = before.reached;
            marked = subst (λ k. AreMarkedBelow v.members places k before.reached) (omega arith) (skip_member v.members places (n + d) before.reached (unmarked d (omega arith)) before.marked);
            probes = before.probes;
          }

  pub probes_end : n ≡ length v.members → AreProbesOf v origin (λ q. IsMarked v.members places q) frames
  probes_end end = probes_of v origin (λ q. Contains so_far.reached q) (λ q. IsMarked v.members places q) frames (all_below v.members places n so_far.reached end so_far.marked).all so_far.probes

-- ---- the bits in turn

-- What is left to look at are the places from some number on that have a 1; the probes from those below it are there.
pub record ProbesWithout (v : Held) (origin places left : ℕ) (frames : List Frame) : Type 0 where
  pub done : ℕ
  pub probes : ProbesBelow v origin places done frames
  pub within : done ≤ length v.members
  pub none : (k : ℕ) → k < done → is_set left k ≡ false
  pub later : (k : ℕ) → done ≤ k → k < length v.members → is_set left k ≡ is_set places k

pub without_none : (v : Held) (origin places : ℕ) → ProbesWithout v origin places places []
without_none v origin places = record {
  done = 0;
  probes = probes_begin v origin places;
  within = omega arith;
  none = λ k below. absurd (omega arith);
  later = λ k from below. refl;
}

module _ (v : Held) (origin places left : ℕ) (frames : List Frame) (so_far : ProbesWithout v origin places left frames) where
  -- the probes from those below a place that are reached, where nothing below it is left
  pub probes_up_to : (place : ℕ) → so_far.done ≤ place → place ≤ length v.members → ((k : ℕ) → k < place → is_set left k ≡ false) → ProbesBelow v origin places place frames
  probes_up_to place up within least = probes_skip_to v origin places so_far.done frames so_far.probes place up
      (λ k from below. sym (so_far.later k from (omega (arith, below, within))) ∙ least k below)

  -- nothing is left among the members
  pub without_end : ((k : ℕ) → k < length v.members → is_set left k ≡ false) → AreProbesOf v origin (λ q. IsMarked v.members places q) frames
  without_end least = probes_end v origin places (length v.members) frames (probes_up_to (length v.members) so_far.within (omega arith) least) refl

  module _ (place less : ℕ) (set : is_set left place ≡ true) (least : (k : ℕ) → k < place → is_set left k ≡ false)
      (less_is : (k : ℕ) → is_set less k ≡ (not (k == place) && is_set left k)) where
    none_of_less : (k : ℕ) → k < place + 1 → is_set less k ≡ false
    none_of_less k below = elim (cases_eq k place) [
      | inl e ↦ less_is k ∙ ap (λ b. not b && is_set left k) (eq-eqb k place e)
      | inr n ↦ less_is k ∙ ap (λ b. not (k == place) && b) (least k (omega arith)) ∙ and_false (not (k == place))
    ]
      where
        and_false : (b : Bool) → (b && false) ≡ false
        and_false true = refl
        and_false false = refl

    later_of_less : (k : ℕ) → place < k → is_set less k ≡ is_set left k
    later_of_less k above = less_is k ∙ ap (λ b. not b && is_set left k) (ne_eqb k place (λ e. absurd (omega (arith, e, above))))

    not_done : so_far.done ≤ place
    not_done = elim (cases_lt place so_far.done) [
      | inl below ↦ absurd (true≢false (sym set ∙ so_far.none place below))
      | inr above ↦ above
    ]

    -- the next one is a member with these targets
    pub without_member : (p : ℕ) (targets : List ℕ) → IsStrictlyIncreasing v.members → place < length v.members → get_or v.members place 0 ≡ p
        → IsStrictlyIncreasing targets → ((k : ℕ) → Contains targets k ↔ ((has v.waits p k ≡ true) × (is_member v k ≡ false)))
        → ProbesWithout v origin places less (frames ++ map (λ to. Probe (origin, p, to)) targets)
    without_member p targets up inside is ascending each = record {
      done = place + 1;
      probes = probes_on v origin places place frames (probes_up_to place not_done (omega (arith, inside)) least) p targets up inside is (sym (so_far.later place not_done inside) ∙ set) ascending each;
      within = omega (arith, inside);
      none = none_of_less;
      later = λ k from below. later_of_less k (omega (arith, from)) ∙ so_far.later k (let up = not_done in omega (arith, up, from)) below;
    }

-- the probes of those that wait for processes of other sites are the probes of all
pub probes_of_leaving : (v : Held) (origin places leaving : ℕ) (frames : List Frame) → AreLeaving v places leaving → AreProbesOf v origin (λ q. IsMarked v.members leaving q) frames → AreProbesOf v origin (λ q. IsMarked v.members places q) frames
probes_of_leaving v origin places leaving frames are p = record {
  edges = p.edges;
  ascending = p.ascending;
  all = λ edge. (
    λ c. let e = (p.all edge).0 c in ((e.0.0, e.0.1, e.0.2, are.within e.0.0 e.0.3), e.1, e.2),
    λ e. (p.all edge).1 ((e.0.0, e.0.1, e.0.2, leaves edge e), e.1, e.2),
  );
  are = p.are;
}
  where
    leaves : (edge : ℕ × ℕ) (e : IsMarked v.members places edge.0 × (has v.waits edge.0 edge.1 ≡ true) × (is_member v edge.1 ≡ false)) → is_set leaving e.0.0 ≡ true
    leaves edge e = elim (cases_Bool (is_set leaving e.0.0)) [
      | inl set ↦ set
      | inr unset ↦ absurd (true≢false (sym (are.stay e.0.0 e.0.1 e.0.3 unset edge.1 (ap (λ p. has v.waits p edge.1) e.0.2 ∙ e.1)) ∙ e.2))
    ]

-- a list has nothing at a place past its end
pub past_end : (xs : List ℕ) (k : ℕ) → slice_get xs k ≡ None → length xs ≤ k
past_end xs k none = elim (slice_get_cases xs k).1 [
  | inl some ↦ absurd (none-some some.0 (sym none ∙ some.2))
  | inr past ↦ past.0
]

-- a member is none of another site
pub apart : (v : Held) (q to : ℕ) → IsMember v q → is_member v to ≡ false → q ≡ to → ⊥
apart v q to here away e = true≢false (sym (subst (λ p. IsMember v p) e here) ∙ away)

-- a probe to a blocked process acts where that is not yet known to depend on the origin, and still owes the sender
pub acts_where : (v : Held) (dependents : Relation) (origin from to : ℕ) → has_some v.waits to ≡ true → has dependents to origin ≡ false → has v.owed to from ≡ true → acts v dependents origin from to ≡ true
acts_where v dependents origin from to blocked new owes =
    and_from (has_some v.waits to) (not (has dependents to origin) && has v.owed to from) blocked (and_from (not (has dependents to origin)) (has v.owed to from) (ap not new) owes)

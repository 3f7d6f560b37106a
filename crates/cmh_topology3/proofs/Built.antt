-- Rows that are built from given rows without a fault.
use Rattle.std.proofs.Common.{inl, inr, ◌⊎◌, ◌≡◌, ℕ, ◌<◌, ◌≤◌, Bool, true, false, ◌||◌, List, [], ◌∷◌, length, map, Option, None, Some, refl, sym, ap, ◌∙◌, subst, arith, ◌==◌}
use Rattle.std.specs.Prelude.{nat_le, nat_lt, if◌then◌else◌}
use Rattle.std.specs.Ordering.{nat_cmp}
use Rattle.std.specs.declared.cmp.Ordering.TheVariants.{Less}
use Rattle.std.specs.List.{list_any, AllByRecursion, IsDistinct}
use Rattle.std.specs.List.Sorted.{IsStrictlyIncreasing, IsStrictlySortedBy}
use Rattle.std.proofs.lemmas.Bool.{cases_eq, cases_Bool, ne_eqb, or_parts, and_parts, not-false, leb-true, ltb-false}
use Rattle.std.proofs.lemmas.Cmp.{ranked}
use Rattle.std.proofs.lemmas.List.{length-map}
use Rattle.std.proofs.lemmas.List.Sorted.{list_any-IsPermutation, length_permutation}
use Rattle.std.proofs.lemmas.Map.Keys.{IsDistinct-IsPermutation, IsStrictlyIncreasing-from_distinct, sorted_from_strictly_increasing}
use Rattle.std.proofs.lemmas.Option.{none-some}
use Rattle.cmh_frames.specs.declared.rows.TopologyFault.{TopologyFault}
use Rattle.cmh_frames.specs.declared.rows.TopologyFault.TheVariants.{Limit, RepeatedSite, RepeatedProcess, BadNumber}
use Rattle.cmh_frames.specs.Number.{IsNumber, is_number}
use Rattle.cmh_frames.specs.Rows.{Row, has_bad_number, repeats, all_members}
use Rattle.cmh_frames.specs.Inner.Twice.{repeats_process}
use Rattle.cmh_frames.specs.Inner.Kept.{AreApart, AreInOrder, HasMembersOf, HasNumbers, is_bad, members_in}
use Rattle.cmh_frames.specs.Topology.{home_in}
use Rattle.cmh_frames.proofs.Apart.{some_same, not_both, eqb_comm, home_first, home_later, members_first, members_later, home_has_row, apart, distinct_members, distinct_sites, any_site, named_at, sites_repeat}
use Rattle.cmh_frames.proofs.Built.{good_members, members_at_rise, same_home}
use Rattle.cmh_frames.proofs.Homes.{at_home}
use Rattle.cmh_frames.proofs.Repeats.{processes_repeat}
use Rattle.cmh_frames.proofs.Words.{has_site, repeats_site}
use Rattle.cmh_topology3.specs.Inner.Kept.{AreTidy}
use Rattle.cmh_topology3.specs.Limits.{most_members, most_sites}
use Rattle.cmh_topology3.specs.Rows.{fault_of, is_over_limit}
use Rattle.cmh_topology3.specs.Topology.{IsTopologyOf, Topology}

in_order_rises : (xs ys : List ℕ) → AreInOrder xs ys → IsDistinct (λ x y. x == y) xs → IsStrictlyIncreasing ys
in_order_rises xs ys o distinct = IsStrictlyIncreasing-from_distinct ys o.ascending (IsDistinct-IsPermutation (λ x y. x == y) eqb_comm xs ys o.same distinct)

-- ---- what the checks say

pub record NoFault (rows : List Row) : Type 0 where
  pub within : is_over_limit rows ≡ false
  pub sites : repeats_site rows ≡ false
  pub processes : repeats_process rows ≡ false
  pub numbers : has_bad_number rows ≡ false

some_none : {f : TopologyFault} → Some f ≡ None → ⊥
some_none e = cc

none_of : (a b c d : Bool) → (if a then Some Limit else (if b then Some RepeatedSite else (if c then Some RepeatedProcess else (if d then Some BadNumber else None)))) ≡ None
    → (a ≡ false) × (b ≡ false) × (c ≡ false) × (d ≡ false)
none_of true b c d h = absurd (some_none h)
none_of false true c d h = absurd (some_none h)
none_of false false true d h = absurd (some_none h)
none_of false false false true h = absurd (some_none h)
none_of false false false false h = (refl, refl, refl, refl)

pub no_fault : (rows : List Row) → fault_of rows ≡ None → NoFault rows
no_fault rows h =
    let parts = none_of (is_over_limit rows) (repeats (map (λ (row : Row). row.0) rows)) (repeats (all_members rows)) (has_bad_number rows) h in
    record { within = parts.0; sites = sym (sites_repeat rows) ∙ parts.1; processes = sym (processes_repeat rows) ∙ parts.2; numbers = parts.3 }

few_members : (limit : ℕ) (rows : List Row) (s : ℕ) → list_any (λ (row : Row). nat_lt limit (length row.1)) rows ≡ false → length (members_in rows s) ≤ limit
few_members limit [] s h = omega arith
few_members limit (row ∷ rows) s h =
    let parts = or_parts (nat_lt limit (length row.1)) _ h in
    elim (cases_eq row.0 s) [
      | inl e ↦ subst (λ ps. length ps ≤ limit) (sym (members_first row rows s e)) (ltb-false limit (length row.1) parts.0)
      | inr e ↦ subst (λ ps. length ps ≤ limit) (sym (members_later row rows s e)) (few_members limit rows s parts.1)
    ]

-- a home among them is the given home
home_given : (given rows : List Row) (p s : ℕ) → AreApart given → AllByRecursion (HasMembersOf given) rows → home_in rows p ≡ Some s → home_in given p ≡ Some s
home_given given [] p s apart all h = absurd (none-some _ h)
home_given given (row ∷ rows) p s apart all h = elim (cases_Bool (list_any (λ q. q == p) row.1)) [
  | inl e ↦ (at_home given row.0 p apart).0 (list_any-IsPermutation (λ q. q == p) _ _ all.0.same ∙ e) ∙ sym (home_first row rows p e) ∙ h
  | inr e ↦ home_given given rows p s apart all.1 (sym (home_later row rows p e) ∙ h)
]

cases_home : (home : Option ℕ) → (home ≡ None) ⊎ ((s : ℕ) × (home ≡ Some s))
cases_home None = inl refl
cases_home (Some s) = inr (s, refl)

not_less : (x : ℕ) → nat_cmp x x ≡ Less → ⊥
not_less x h = let below : x < x = ranked x x Less (sym h) in absurd (omega arith)

-- a strictly ascending list has its first number nowhere else
above_all : (x : ℕ) (xs : List ℕ) → AllByRecursion (λ y. nat_cmp x y ≡ Less) xs → list_any (λ y. y == x) xs ≡ false
above_all x [] h = refl
above_all x (y ∷ ys) h = elim (cases_eq y x) [
  | inl e ↦ absurd (not_less x (subst (λ z. nat_cmp x z ≡ Less) e h.0))
  | inr n ↦ ap (λ b. b || list_any (λ z. z == x) ys) (ne_eqb y x n) ∙ above_all x ys h.1
]

apart_built : (given rows : List Row) → AreApart given → AllByRecursion (HasMembersOf given) rows → IsStrictlySortedBy nat_cmp (map (λ (row : Row). row.0) rows) → AreApart rows
unfolding IsStrictlySortedBy
apart_built given [] apart all up = tt
apart_built given (row ∷ rows) apart all up =
    let alone = sym (any_site rows row.0) ∙ above_all row.0 _ up.0 in (
      (λ p found. elim (cases_home (home_in rows p)) [
        | inl none ↦ none
        | inr at ↦
            let here = (at_home given row.0 p apart).0 (list_any-IsPermutation (λ q. q == p) _ _ all.0.same ∙ found) in
            let same : at.0 ≡ row.0 = some_same (sym (home_given given rows p at.0 apart all.1 at.1) ∙ here) in
            absurd (not_both (home_has_row rows p row.0 (at.1 ∙ ap Some same)) alone)
      ]),
      (λ p h. not_both (home_has_row rows p row.0 h) alone),
      apart_built given rows apart all.1 up.1,
    )

members_rise : (given rows : List Row) → repeats_process given ≡ false → AllByRecursion (HasMembersOf given) rows → AllByRecursion (λ (row : Row). IsStrictlyIncreasing row.1) rows
members_rise given [] h all = tt
members_rise given (row ∷ rows) h all = (in_order_rises _ row.1 all.0 (distinct_members given row.0 h), members_rise given rows h all.1)

members_few : (limit : ℕ) (given rows : List Row) → list_any (λ (row : Row). nat_lt limit (length row.1)) given ≡ false → AllByRecursion (HasMembersOf given) rows → AllByRecursion (λ (row : Row). length row.1 ≤ limit) rows
members_few limit given [] h all = tt
members_few limit given (row ∷ rows) h all =
    (subst (λ n. n ≤ limit) (sym (length_permutation _ _ all.0.same)) (few_members limit given row.0 h), members_few limit given rows h all.1)

-- ---- numbers

-- what is not bad is a number
number_from : (n : ℕ) → is_bad n ≡ false → IsNumber n
number_from n h = let parts = and_parts (nat_le 1 n) (nat_le n 9999) (not-false (is_number n) h) in record { least = leb-true 1 n parts.0; most = leb-true n 9999 parts.1 }

-- and so is each of a list
numbers_from : (ns : List ℕ) → list_any is_bad ns ≡ false → AllByRecursion IsNumber ns
numbers_from [] h = tt
numbers_from (n ∷ ns) h = let parts = or_parts (is_bad n) (list_any is_bad ns) h in (number_from n parts.0, numbers_from ns parts.1)

-- the sites have numbers
good_sites : (rows : List Row) → has_bad_number rows ≡ false → list_any is_bad (map (λ (row : Row). row.0) rows) ≡ false
good_sites [] h = refl
good_sites (row ∷ rows) h =
    let parts = or_parts (is_bad row.0 || list_any is_bad row.1) (has_bad_number rows) h in
    ap (λ b. b || list_any is_bad (map (λ (row : Row). row.0) rows)) (or_parts (is_bad row.0) (list_any is_bad row.1) parts.0).0 ∙ good_sites rows parts.1

-- and so have rows of these sites with the given processes
have_numbers : (given rows : List Row) → has_bad_number given ≡ false → list_any is_bad (map (λ (row : Row). row.0) rows) ≡ false → AllByRecursion (HasMembersOf given) rows → AllByRecursion HasNumbers rows
have_numbers given [] good sites all = tt
have_numbers given (row ∷ rows) good sites all =
    let parts = or_parts (is_bad row.0) _ sites in (
      (number_from row.0 parts.0, numbers_from row.1 (sym (list_any-IsPermutation is_bad _ _ all.0.same) ∙ good_members given row.0 good)),
      have_numbers given rows good parts.1 all.1,
    )

-- ---- the whole

module _ (world : List ℕ) (given rows : List Row) (sites : List ℕ) (free : fault_of given ≡ None) (ordered : AreInOrder (map (λ (row : Row). row.0) given) sites)
    (sites_are : map (λ (row : Row). row.0) rows ≡ sites) (all : AllByRecursion (HasMembersOf given) rows) where
  rising : IsStrictlyIncreasing (map (λ (row : Row). row.0) rows)
  rising = subst IsStrictlyIncreasing (sym sites_are) (in_order_rises _ sites ordered (distinct_sites given (no_fault given free).sites))

  same_sites : (s : ℕ) → list_any (λ q. q == s) (map (λ (row : Row). row.0) rows) ≡ has_site given s
  same_sites s = ap (list_any (λ q. q == s)) sites_are ∙ sym (list_any-IsPermutation (λ q. q == s) _ _ ordered.same) ∙ any_site given s

  pub are_tidy : AreTidy rows
  are_tidy =
      let none = no_fault given free in
      let limits = or_parts (nat_lt (most_sites) (length given)) _ none.within in
      let members = or_parts (list_any (λ (row : Row). nat_lt (most_members) (length row.1)) given) _ limits.1 in
      let many : length rows ≡ length given = sym (length-map rows (λ (row : Row). row.0)) ∙ ap length sites_are ∙ length_permutation _ _ ordered.same ∙ length-map given (λ (row : Row). row.0) in
      record {
        apart = apart_built given rows (apart given none.sites none.processes) all (sorted_from_strictly_increasing _ rising);
        sites_ascend = rising;
        members_ascend = members_rise given rows none.processes all;
        few_members = members_few (most_members) given rows members.0 all;
        few_sites = subst (λ n. n ≤ most_sites) (sym many) (ltb-false (most_sites) (length given) limits.0);
        numbers = have_numbers given rows none.numbers (ap (list_any is_bad) sites_are ∙ sym (list_any-IsPermutation is_bad _ _ ordered.same) ∙ good_sites given none.numbers) all;
      }

  pub is_topology_of : (t : Topology) → t.world ≡ world → t.rows ≡ rows → IsTopologyOf world given t
  is_topology_of t world_is rows_are =
      let none = no_fault given free in
      let given_apart = apart given none.sites none.processes in
      record {
        no_fault = free;
        world_is = world_is;
        sites = λ s. ap (λ (rs : List Row). list_any (λ q. q == s) (map (λ (row : Row). row.0) rs)) rows_are ∙ same_sites s ∙ sym (any_site given s);
        places = λ p s.
            let same = ap (λ rs. home_in rs p) rows_are ∙ same_home given rows p given_apart all (λ r h. sym (any_site rows r) ∙ same_sites r ∙ h) in
            let named = named_at given p s given_apart in
            (λ h. named.0 (sym same ∙ h), λ h. same ∙ named.1 h);
        sites_ascend = subst (λ (rs : List Row). IsStrictlyIncreasing (map (λ (row : Row). row.0) rs)) (sym rows_are) rising;
        members_ascend = λ s. members_at_rise t.rows s (subst (λ rs. AllByRecursion (λ (row : Row). IsStrictlyIncreasing row.1) rs) (sym rows_are) (members_rise given rows none.processes all));
      }

-- Rows that are compared, and the base of a state.
use Rattle.std.proofs.Common.{◌≡◌, ℕ, ◌&&◌, ◌||◌, ◌==◌, Bool, true, false, List, [], ◌∷◌, map, if◌then◌else◌, refl, sym, ap, ◌∙◌, inl, inr}
use Rattle.std.specs.Bool.{Decides}
use Rattle.std.specs.Cmp.Lexicographic.{pointwise}
use Rattle.std.specs.List.{filter}
use Rattle.std.proofs.lemmas.Bool.{and_parts, and_from, cases_eq, eqb-true, eq-eqb, ne_eqb, true≢false}
use Rattle.std.proofs.lemmas.Slice.Eq.{slice_eq-Decides}
use Rattle.cmh_model3.specs.Lists.{in_list}
use Rattle.cmh_model3.specs.State.{State}
use Rattle.cmh_segment3.specs.contracts.rows.PairPartialEq.TheImpl as pair
use Rattle.cmh_segment3.specs.contracts.rows.StampedPairPartialEq.TheImpl as stamped_pair
use Rattle.cmh_segment3.specs.contracts.rows.StampedPartialEq.TheImpl as stamped
use Rattle.cmh_segment3.specs.declared.base.Base.{Base}
use Rattle.cmh_segment3.specs.declared.links.LinkState.{LinkState}
use Rattle.cmh_segment3.specs.declared.rows.Pair.{Pair}
use Rattle.cmh_segment3.specs.declared.rows.Stamped.{Stamped}
use Rattle.cmh_segment3.specs.declared.rows.StampedPair.{StampedPair}
use Rattle.cmh_segment3.specs.States.{all_numbers, base_of, stamp_of, stamped_where}
use Rattle.cmh_history3.specs.Inner.Rows.{AreSameRows}
use Rattle.cmh_history3.specs.Says.{IsBaseFor}

-- ---- rows are equal where the comparison says so

pair_decides : (x y : Pair) → Decides (pair.eq-value.it x y) (x ≡ y)
pair_decides x y = (
  (λ e. let p = and_parts (x.first == y.first) (x.second == y.second) e in let one = eqb-true x.first y.first p.0 in let two = eqb-true x.second y.second p.1 in λ i. record { first = one i; second = two i }),
  (λ e. and_from (x.first == y.first) (x.second == y.second) (eq-eqb x.first y.first (ap (λ (r : Pair). r.first) e)) (eq-eqb x.second y.second (ap (λ (r : Pair). r.second) e))),
)

stamped_decides : (x y : Stamped) → Decides (stamped.eq-value.it x y) (x ≡ y)
stamped_decides x y = (
  (λ e. let p = and_parts (x.process == y.process) (x.stamp == y.stamp) e in let one = eqb-true x.process y.process p.0 in let two = eqb-true x.stamp y.stamp p.1 in λ i. record { process = one i; stamp = two i }),
  (λ e. and_from (x.process == y.process) (x.stamp == y.stamp) (eq-eqb x.process y.process (ap (λ (r : Stamped). r.process) e)) (eq-eqb x.stamp y.stamp (ap (λ (r : Stamped). r.stamp) e))),
)

stamped_pair_decides : (x y : StampedPair) → Decides (stamped_pair.eq-value.it x y) (x ≡ y)
stamped_pair_decides x y = (
  (λ e.
      let p = and_parts (x.first == y.first) ((x.second == y.second) && (x.stamp == y.stamp)) e in
      let q = and_parts (x.second == y.second) (x.stamp == y.stamp) p.1 in
      let one = eqb-true x.first y.first p.0 in
      let two = eqb-true x.second y.second q.0 in
      let three = eqb-true x.stamp y.stamp q.1 in
      λ i. record { first = one i; second = two i; stamp = three i }),
  (λ e. and_from (x.first == y.first) ((x.second == y.second) && (x.stamp == y.stamp)) (eq-eqb x.first y.first (ap (λ (r : StampedPair). r.first) e))
      (and_from (x.second == y.second) (x.stamp == y.stamp) (eq-eqb x.second y.second (ap (λ (r : StampedPair). r.second) e)) (eq-eqb x.stamp y.stamp (ap (λ (r : StampedPair). r.stamp) e)))),
)

pub pairs_decide : (xs ys : List Pair) (r : Bool) → r ≡ pointwise pair.eq-value.it xs ys → Decides r (xs ≡ ys)
pairs_decide = slice_eq-Decides pair_decides

pub stamped_decide : (xs ys : List Stamped) (r : Bool) → r ≡ pointwise stamped.eq-value.it xs ys → Decides r (xs ≡ ys)
stamped_decide = slice_eq-Decides stamped_decides

pub stamped_pairs_decide : (xs ys : List StampedPair) (r : Bool) → r ≡ pointwise stamped_pair.eq-value.it xs ys → Decides r (xs ≡ ys)
stamped_pairs_decide = slice_eq-Decides stamped_pair_decides

-- ---- the stops that a base names

abbrev row_of : (ℕ → ℕ) → ℕ → Stamped
row_of stop a = record { process = a; stamp = stop a }

-- in such rows each process has the stop that it was given
stop_in : (stop : ℕ → ℕ) (ps : List ℕ) (p : ℕ) → in_list ps p ≡ true → stamp_of (map (row_of stop) ps) p ≡ stop p
stop_in stop [] p there = absurd (true≢false (sym there))
stop_in stop (q ∷ ps) p there = elim (cases_eq q p) [
  | inl e ↦ ap (λ z. if z then stop q else stamp_of (map (row_of stop) ps) p) (eq-eqb q p e) ∙ ap stop e
  | inr n ↦
      ap (λ z. if z then stop q else stamp_of (map (row_of stop) ps) p) (ne_eqb q p n)
      ∙ stop_in stop ps p (sym (ap (λ z. z || in_list ps p) (ne_eqb q p n)) ∙ there)
]

same_stops : (one other : ℕ → ℕ) (ps : List ℕ) → ((p : ℕ) → in_list ps p ≡ true → one p ≡ other p) → map (row_of one) ps ≡ map (row_of other) ps
same_stops one other [] same = refl
same_stops one other (p ∷ ps) same =
    let first : one p ≡ other p = same p (ap (λ z. z || in_list ps p) (eq-eqb p p refl)) in
    let later = same_stops one other ps (λ q there. same q (or_yes (p == q) (in_list ps q) there)) in
    ap (λ (n : ℕ). let row : Stamped = record { process = p; stamp = n } in row ∷ map (row_of one) ps) first ∙ ap (λ (l : List Stamped). row_of other p ∷ l) later
  where
    or_yes : (a b : Bool) → b ≡ true → (a || b) ≡ true
    or_yes true b h = refl
    or_yes false b h = h

-- so rows with the stops of rows are these
stops_come_back : (test : ℕ → Bool) (stop : ℕ → ℕ) → stamped_where test (stamp_of (stamped_where test stop all_numbers)) all_numbers ≡ stamped_where test stop all_numbers
stops_come_back test stop = same_stops (stamp_of (stamped_where test stop all_numbers)) stop (filter test all_numbers) (λ p there. stop_in stop (filter test all_numbers) p there)

-- ---- the base of a state has the rows of any other one

module _ (v : State) (base own : Base) (stops : List Stamped) (links : List LinkState) (named : stops ≡ base.declared) (made : own ≡ base_of v (stamp_of stops) links) where
  pub is_for : AreSameRows own base → IsBaseFor v base
  is_for same = record {
    stop = stamp_of stops;
    links = base.links;
    is = λ i. record {
      waits = (sym same.waits ∙ ap (λ (b : Base). b.waits) made) i;
      leaving = (sym same.leaving ∙ ap (λ (b : Base). b.leaving) made) i;
      owed = (sym same.owed ∙ ap (λ (b : Base). b.owed) made) i;
      dependents = (sym same.dependents ∙ ap (λ (b : Base). b.dependents) made) i;
      declared = (sym same.declared ∙ ap (λ (b : Base). b.declared) made) i;
      stamps = (sym same.stamps ∙ ap (λ (b : Base). b.stamps) made) i;
      links = base.links;
    };
  }

  pub has_same : IsBaseFor v base → AreSameRows own base
  has_same for = record {
    waits = ap (λ (b : Base). b.waits) made ∙ sym (ap (λ (b : Base). b.waits) for.is);
    leaving = ap (λ (b : Base). b.leaving) made ∙ sym (ap (λ (b : Base). b.leaving) for.is);
    owed = ap (λ (b : Base). b.owed) made ∙ sym (ap (λ (b : Base). b.owed) for.is);
    dependents = ap (λ (b : Base). b.dependents) made ∙ sym (ap (λ (b : Base). b.dependents) for.is);
    declared = ap (λ (b : Base). b.declared) made ∙ ap (λ (rows : List Stamped). stamped_where v.declared (stamp_of rows) all_numbers) (named ∙ ap (λ (b : Base). b.declared) for.is)
        ∙ stops_come_back v.declared for.stop ∙ sym (ap (λ (b : Base). b.declared) for.is);
    stamps = ap (λ (b : Base). b.stamps) made ∙ sym (ap (λ (b : Base). b.stamps) for.is);
  }

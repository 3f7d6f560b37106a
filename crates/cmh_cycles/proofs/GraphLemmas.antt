-- Tables of waits.
use Rattle.std.proofs.Common.{◌≡◌, ℕ, zero, suc, ◌+◌, ◌/◌, ◌<◌, ◌≤◌, ◌==◌, ◌&&◌, ◌||◌, ◌↔◌, true, false, not, true≢false, List, [], ◌∷◌, ◌++◌, length, take, get_or, Option, Some, None, Err, ◌⊎◌, inl, inr, ⊎_elim, sym, ap, subst, refl, ◌∙◌, arith, length-append}
use Rattle.std.specs.Prelude.{Contains, nat_eq}
use Rattle.std.specs.Option.{option_eq}
use Rattle.std.specs.declared.cmp.Ordering.TheVariants.{Less}
use Rattle.std.specs.Ordering.{nat_cmp}
use Rattle.std.specs.List.{AllByRecursion}
use Rattle.std.specs.List.Sorted.{IsStrictlyIncreasing, IsStrictlySortedBy, IsBinarySearchResult}
use Rattle.std.proofs.lemmas.Bool.{cases_Bool, cases_eq, cases_lt, eq-eqb, eqb-true, and_parts, or_cases, or_left, or_right}
use Rattle.std.proofs.Math.Seq.{get_or-append_seam}
use Rattle.std.proofs.lemmas.List.{get_or_append_left, get_or_default}
use Rattle.std.proofs.lemmas.List.Kept.{AllPairs-from_increasing}
use Rattle.std.proofs.lemmas.Option.{none-some}
use Rattle.cmh_frames.specs.Relation.{pair_cmp}
use Rattle.cmh_frames.proofs.Apart.{some_same}
use Rattle.std.proofs.lemmas.List.Sorted.{searched}
use Rattle.cmh_frames.proofs.Members.{no_member, not_decreasing}
use Rattle.cmh_waits.proofs.Ordered.{first_below}
use Rattle.cmh_cycles.specs.Graphs.{WaitsAt, AreAskers}
use Rattle.cmh_bits.specs.Bits.{has_number}
use Rattle.cmh_cycles.specs.Rows.{AreTwins, row_at, IsTable}
use Rattle.cmh_cycles.proofs.Members.{contains_left, contains_last, contains_push, looked_at, looked_before, looked_now, looked_all, looked_within}
use Rattle.cmh_dependents.proofs.Marked.{IsStrictlyIncreasing-push}

-- ---- the askers

at_of_all : (P : ℕ × ℕ → Type 0) (ws : List (ℕ × ℕ)) (k : ℕ) (d : ℕ × ℕ) → AllByRecursion P ws → k < length ws → P (get_or ws k d)
at_of_all P [] k d all l = absurd (omega arith)
at_of_all P (w ∷ ws) zero d all l = all.0
at_of_all P (w ∷ ws) (suc k) d all l = at_of_all P ws k d all.1 (omega arith)

askers_rise : (ws : List (ℕ × ℕ)) (i k : ℕ) (d : ℕ × ℕ) → IsStrictlySortedBy pair_cmp ws → i ≤ k → k < length ws → (get_or ws i d).0 ≤ (get_or ws k d).0
unfolding IsStrictlySortedBy
askers_rise [] i k d up le l = absurd (omega arith)
askers_rise (w ∷ ws) zero zero d up le l = omega arith
askers_rise (w ∷ ws) zero (suc k) d up le l = first_below w.0 (get_or ws k d).0 (nat_cmp w.1 (get_or ws k d).1) (at_of_all (λ y. pair_cmp w y ≡ Less) ws k d up.0 (omega arith))
askers_rise (w ∷ ws) (suc i) zero d up le l = absurd (omega arith)
askers_rise (w ∷ ws) (suc i) (suc k) d up le l = askers_rise ws i k d up.1 (omega arith) (omega arith)

-- the processes so far, of which `last` is the greatest
pub record AreAskersSoFar (waits : List (ℕ × ℕ)) (i : ℕ) (processes : List ℕ) (last : Option ℕ) : Type 0 where
  pub ascending : IsStrictlyIncreasing processes
  pub all : (j k : ℕ) → Contains (take i waits) (j, k) → Contains processes j
  pub top : (p : ℕ) → Contains processes p → (t : ℕ) × (last ≡ Some t) × (p ≤ t)
  pub low : (t k : ℕ) (d : ℕ × ℕ) → last ≡ Some t → i ≤ k → k < length waits → t ≤ (get_or waits k d).0
  pub there : (t : ℕ) → last ≡ Some t → Contains processes t

pub askers_start : (waits : List (ℕ × ℕ)) (processes : List ℕ) → processes ≡ [] → AreAskersSoFar waits 0 processes None
askers_start waits processes empty = record {
  ascending = subst IsStrictlyIncreasing (sym empty) (λ k l. absurd (omega arith));
  all = λ j k c. absurd (no_member (j, k) c);
  top = λ p c. absurd (no_member p (subst (λ ps. Contains ps p) empty c));
  low = λ t k d e. absurd (none-some t e);
  there = λ t e. absurd (none-some t e);
}

module _ (waits : List (ℕ × ℕ)) (i : ℕ) (w : ℕ × ℕ) (l : i < length waits) (here : w ≡ get_or waits i w) (up : IsStrictlySortedBy pair_cmp waits) (processes : List ℕ) (last : Option ℕ) (is : AreAskersSoFar waits i processes last) where
  pub askers_pass : last ≡ Some w.0 → AreAskersSoFar waits (i + 1) processes last
  askers_pass same = record {
    ascending = is.ascending;
    all = λ j k c. ⊎_elim (λ b. is.all j k b) (λ (e : (j, k) ≡ w). subst (Contains processes) (ap (λ (p : ℕ × ℕ). p.0) (sym e)) (is.there w.0 same)) (looked_at waits i w l here (j, k) c);
    top = is.top;
    low = λ t k d e le. is.low t k d e (omega arith);
    there = is.there;
  }

  pub askers_push : (last ≡ Some w.0 → ⊥) → AreAskersSoFar waits (i + 1) (processes ++ w.0 ∷ []) (Some w.0)
  askers_push other = record {
    ascending = IsStrictlyIncreasing-push processes w.0 is.ascending (λ p c. below p (is.top p c));
    all = λ j k c. ⊎_elim (λ b. contains_left processes (w.0 ∷ []) j (is.all j k b)) (λ (e : (j, k) ≡ w). subst (Contains (processes ++ w.0 ∷ [])) (ap (λ (p : ℕ × ℕ). p.0) (sym e)) (contains_last processes w.0)) (looked_at waits i w l here (j, k) c);
    top = λ p c. (w.0, refl, ⊎_elim (λ b. at_most p (is.top p b)) (λ (e : p ≡ w.0). omega (arith, e)) (contains_push processes w.0 p c));
    low = λ t k d e le inside.
        let rise = askers_rise waits i k d up (omega arith) inside in
        let same : (get_or waits i d).0 ≡ w.0 = ap (λ (p : ℕ × ℕ). p.0) (get_or_default waits i d w l ∙ sym here) in
        let t_is = some_same e in
        omega (arith, rise, same, t_is);
    there = λ t e. subst (Contains (processes ++ w.0 ∷ [])) (some_same e) (contains_last processes w.0);
  }
    where
      at_most : (p : ℕ) → (t : ℕ) × (last ≡ Some t) × (p ≤ t) → p ≤ w.0
      at_most p m = let low = is.low m.0 i w m.1 (omega arith) l in let same : (get_or waits i w).0 ≡ w.0 = ap (λ (q : ℕ × ℕ). q.0) (sym here) in let le = m.2 in omega (arith, low, same, le)

      below : (p : ℕ) → (t : ℕ) × (last ≡ Some t) × (p ≤ t) → p < w.0
      below p m =
          let low = is.low m.0 i w m.1 (omega arith) l in
          let same : (get_or waits i w).0 ≡ w.0 = ap (λ (q : ℕ × ℕ). q.0) (sym here) in
          let le = m.2 in
          elim (cases_eq m.0 w.0) [ inl e ↦ absurd (other (m.1 ∙ ap (λ x. Some x) e)) | inr ne ↦ omega (arith, low, same, le, ne) ]

pub askers_end : (waits : List (ℕ × ℕ)) (i : ℕ) (processes : List ℕ) (last : Option ℕ) → length waits ≤ i → AreAskersSoFar waits i processes last → AreAskers waits processes
askers_end waits i processes last past is = record {
  ascending = is.ascending;
  all = λ j k c. is.all j k (looked_all waits i (j, k) past c);
}

pub eq_last : (o : Option ℕ) (n : ℕ) → option_eq nat_eq o (Some n) ≡ true → o ≡ Some n
eq_last None n h = absurd (true≢false (sym h))
eq_last (Some m) n h = ap (λ x. Some x) (eqb-true m n h)

pub same_last : (o : Option ℕ) (n : ℕ) → not (option_eq nat_eq o (Some n)) ≡ false → o ≡ Some n
same_last o n h = elim (cases_Bool (option_eq nat_eq o (Some n))) [
  | inl e ↦ eq_last o n e
  | inr e ↦ absurd (true≢false (sym (ap not e) ∙ h))
]

pub other_last : (o : Option ℕ) (n : ℕ) → not (option_eq nat_eq o (Some n)) ≡ true → o ≡ Some n → ⊥
other_last o n h e = true≢false (sym h ∙ ap (λ x. not (option_eq nat_eq x (Some n))) e ∙ ap not (eq-eqb n n refl))

-- a search that finds no place
pub not_found : (ps : List ℕ) (x place : ℕ) → IsStrictlyIncreasing ps → IsBinarySearchResult (λ y. nat_cmp y x) ps (Err place) → Contains ps x → ⊥
not_found ps x place up search c =
    let missed = searched ps x (Err place) search (not_decreasing ps up) in
    let same : get_or ps c.0 0 ≡ x = get_or_default ps c.0 0 x c.1 ∙ c.2 in
    elim (cases_lt c.0 place) [
      | inl l ↦ let less = missed.1 c.0 l in absurd (omega (arith, less, same))
      | inr past ↦ let above = missed.2 c.0 past c.1 in absurd (omega (arith, above, same))
    ]

-- ---- the tables

pub same_place : (ps : List ℕ) → IsStrictlyIncreasing ps → (i j : ℕ) → i < length ps → j < length ps → get_or ps i 0 ≡ get_or ps j 0 → i ≡ j
same_place ps up i j a b e = elim (cases_lt i j) [
  | inl l ↦ let less = AllPairs-from_increasing ps up i j 0 l b in absurd (omega (arith, less, e))
  | inr ge ↦ elim (cases_lt j i) [
    | inl l ↦ let less = AllPairs-from_increasing ps up j i 0 l a in absurd (omega (arith, less, e))
    | inr le ↦ omega (arith, ge, le)
  ]
]

-- a place more
pub table_more : (old new : List (List ℕ)) (n words a b : ℕ) (Old New : ℕ → ℕ → Type 0) → IsTable old n words Old → length new ≡ length old → ((k : ℕ) → length (row_at new k) ≡ length (row_at old k))
    → ((k v : ℕ) → has_number (row_at new k) v ≡ (((k == a) && (v == b)) || has_number (row_at old k) v)) → ((p q : ℕ) → New p q ↔ (Old p q ⊎ ((p ≡ a) × (q ≡ b)))) → IsTable new n words New
table_more old new n words a b Old New is long wide places step = record {
  long = long ∙ is.long;
  wide = λ k l. wide k ∙ is.wide k l;
  are = λ p q. (
    λ h. (step p q).1 (⊎_elim
        (λ e. let parts = and_parts (p == a) (q == b) e in inr (eqb-true p a parts.0, eqb-true q b parts.1))
        (λ o. inl ((is.are p q).0 o))
        (or_cases ((p == a) && (q == b)) (has_number (row_at old p) q) (sym (places p q) ∙ h))),
    λ h. places p q ∙ ⊎_elim
        (λ o. or_right ((p == a) && (q == b)) (has_number (row_at old p) q) ((is.are p q).1 o))
        (λ e. or_left ((p == a) && (q == b)) (has_number (row_at old p) q) (ap (λ t. t && (q == b)) (eq-eqb p a e.0) ∙ eq-eqb q b e.1))
        ((step p q).0 h),
  );
}

pub table_same : (rows : List (List ℕ)) (n words : ℕ) (Old New : ℕ → ℕ → Type 0) → IsTable rows n words Old → ((p q : ℕ) → New p q ↔ Old p q) → IsTable rows n words New
table_same rows n words Old New is same = record {
  long = is.long;
  wide = is.wide;
  are = λ p q. (λ h. (same p q).1 ((is.are p q).0 h), λ h. (is.are p q).1 ((same p q).0 h));
}

module _ (ps : List ℕ) (waits : List (ℕ × ℕ)) (i : ℕ) (w : ℕ × ℕ) (l : i < length waits) (here : w ≡ get_or waits i w) where
  -- a wait more, between two places
  pub seen_more : IsStrictlyIncreasing ps → (a b : ℕ) → a < length ps → b < length ps → get_or ps a 0 ≡ w.0 → get_or ps b 0 ≡ w.1 → (p q : ℕ) → WaitsAt ps (take (i + 1) waits) p q ↔ (WaitsAt ps (take i waits) p q ⊎ ((p ≡ a) × (q ≡ b)))
  seen_more up a b inside beside asker holder p q = (
    λ h. ⊎_elim
        (λ c. inl (h.0, h.1, c))
        (λ (e : (get_or ps p 0, get_or ps q 0) ≡ w). inr (
          same_place ps up p a h.0 inside (ap (λ (x : ℕ × ℕ). x.0) e ∙ sym asker),
          same_place ps up q b h.1 beside (ap (λ (x : ℕ × ℕ). x.1) e ∙ sym holder),
        ))
        (looked_at waits i w l here (get_or ps p 0, get_or ps q 0) h.2),
    λ h. ⊎_elim
        (λ o. (o.0, o.1, looked_before waits i w l here (get_or ps p 0, get_or ps q 0) o.2))
        (λ e. (
          subst (λ x. x < length ps) (sym e.0) inside,
          subst (λ x. x < length ps) (sym e.1) beside,
          subst (Contains (take (i + 1) waits)) (sym (ap (λ x. (get_or ps x 0, get_or ps q 0)) e.0 ∙ ap (λ x. (get_or ps a 0, get_or ps x 0)) e.1 ∙ ap (λ x. (x, get_or ps b 0)) asker ∙ ap (λ x. (w.0, x)) holder)) (looked_now waits i w l here),
        ))
        h,
  )

  -- a wait of which one process has no place
  pub seen_past : (Contains ps w.0 → ⊥) ⊎ (Contains ps w.1 → ⊥) → (p q : ℕ) → WaitsAt ps (take (i + 1) waits) p q ↔ WaitsAt ps (take i waits) p q
  seen_past missing p q = (
    λ h. ⊎_elim
        (λ c. (h.0, h.1, c))
        (λ (e : (get_or ps p 0, get_or ps q 0) ≡ w). absurd (⊎_elim
        (λ none. none (p, h.0, get_or_default ps p w.0 0 h.0 ∙ ap (λ (x : ℕ × ℕ). x.0) e))
        (λ none. none (q, h.1, get_or_default ps q w.1 0 h.1 ∙ ap (λ (x : ℕ × ℕ). x.1) e))
        missing))
        (looked_at waits i w l here (get_or ps p 0, get_or ps q 0) h.2),
    λ o. (o.0, o.1, looked_before waits i w l here (get_or ps p 0, get_or ps q 0) o.2),
  )

pub none_seen : (ps : List ℕ) (waits : List (ℕ × ℕ)) (p q : ℕ) → WaitsAt ps (take 0 waits) p q ↔ ⊥
none_seen ps waits p q = (λ h. no_member (get_or ps p 0, get_or ps q 0) h.2, λ h. absurd h)

pub all_seen : (ps : List ℕ) (waits : List (ℕ × ℕ)) (i : ℕ) → length waits ≤ i → (p q : ℕ) → WaitsAt ps waits p q ↔ WaitsAt ps (take i waits) p q
all_seen ps waits i past p q = (λ h. (h.0, h.1, looked_all waits i (get_or ps p 0, get_or ps q 0) past h.2), λ h. (h.0, h.1, looked_within waits i (get_or ps p 0, get_or ps q 0) past h.2))

-- ---- the tables of all waits

-- both tables have these waits, ts places
pub record AreTables (ps : List ℕ) (waits : List (ℕ × ℕ)) (hs ts : List (List ℕ)) : Type 0 where
  pub holders : IsTable hs (length ps) (length ps / 64 + 1) (λ a b. WaitsAt ps waits a b)
  pub askers : IsTable ts (length ps) (length ps / 64 + 1) (λ b a. WaitsAt ps waits a b)

pub tables_start : (ps : List ℕ) (waits : List (ℕ × ℕ)) (holders askers : List (List ℕ)) (n : ℕ) → n ≡ length ps → IsTable holders n (n / 64 + 1) (λ a b. ⊥) → IsTable askers n (n / 64 + 1) (λ a b. ⊥) → AreTables ps (take 0 waits) holders askers
tables_start ps waits hs ts n e h a = record {
  holders = table_same hs (length ps) (length ps / 64 + 1) (λ a b. ⊥) (λ a b. WaitsAt ps (take 0 waits) a b) (subst (λ m. IsTable hs m (m / 64 + 1) (λ a b. ⊥)) e h) (none_seen ps waits);
  askers = table_same ts (length ps) (length ps / 64 + 1) (λ a b. ⊥) (λ b a. WaitsAt ps (take 0 waits) a b) (subst (λ m. IsTable ts m (m / 64 + 1) (λ a b. ⊥)) e a) (λ p q. none_seen ps waits q p);
}

pub tables_end : (ps : List ℕ) (waits : List (ℕ × ℕ)) (i : ℕ) (holders askers : List (List ℕ)) → length waits ≤ i → AreTables ps (take i waits) holders askers → AreTables ps waits holders askers
tables_end ps waits i hs ts past is = record {
  holders = table_same hs (length ps) (length ps / 64 + 1) (λ a b. WaitsAt ps (take i waits) a b) (λ a b. WaitsAt ps waits a b) is.holders (all_seen ps waits i past);
  askers = table_same ts (length ps) (length ps / 64 + 1) (λ b a. WaitsAt ps (take i waits) a b) (λ b a. WaitsAt ps waits a b) is.askers (λ p q. all_seen ps waits i past q p);
}

module _ (ps : List ℕ) (waits : List (ℕ × ℕ)) (i : ℕ) (w : ℕ × ℕ) (l : i < length waits) (here : w ≡ get_or waits i w) (hs ts : List (List ℕ)) (is : AreTables ps (take i waits) hs ts) where
  pub tables_pass : (Contains ps w.0 → ⊥) ⊎ (Contains ps w.1 → ⊥) → AreTables ps (take (i + 1) waits) hs ts
  tables_pass missing = record {
    holders = table_same hs (length ps) (length ps / 64 + 1) (λ a b. WaitsAt ps (take i waits) a b) (λ a b. WaitsAt ps (take (i + 1) waits) a b) is.holders (seen_past ps waits i w l here missing);
    askers = table_same ts (length ps) (length ps / 64 + 1) (λ b a. WaitsAt ps (take i waits) a b) (λ b a. WaitsAt ps (take (i + 1) waits) a b) is.askers (λ p q. seen_past ps waits i w l here missing q p);
  }

  pub tables_more : (a b : ℕ) (hs' ts' : List (List ℕ)) → IsStrictlyIncreasing ps → (a < length ps) × (get_or ps a 0 ≡ w.0) → (b < length ps) × (get_or ps b 0 ≡ w.1)
      → length hs' ≡ length hs → ((k : ℕ) → length (row_at hs' k) ≡ length (row_at hs k)) → ((k v : ℕ) → has_number (row_at hs' k) v ≡ (((k == a) && (v == b)) || has_number (row_at hs k) v))
      → length ts' ≡ length ts → ((k : ℕ) → length (row_at ts' k) ≡ length (row_at ts k)) → ((k v : ℕ) → has_number (row_at ts' k) v ≡ (((k == b) && (v == a)) || has_number (row_at ts k) v))
      → AreTables ps (take (i + 1) waits) hs' ts'
  tables_more a b hs' ts' up asker holder long wide places long' wide' places' =
      let more = seen_more ps waits i w l here up a b asker.0 holder.0 asker.1 holder.1 in
      record {
        holders = table_more hs hs' (length ps) (length ps / 64 + 1) a b (λ p q. WaitsAt ps (take i waits) p q) (λ p q. WaitsAt ps (take (i + 1) waits) p q) is.holders long wide places more;
        askers = table_more ts ts' (length ps) (length ps / 64 + 1) b a (λ q p. WaitsAt ps (take i waits) p q) (λ q p. WaitsAt ps (take (i + 1) waits) p q) is.askers long' wide' places'
            (λ q p. (λ h. ⊎_elim (λ o. inl o) (λ e. inr (e.1, e.0)) ((more p q).0 h), λ h. (more p q).1 (⊎_elim (λ o. inl o) (λ e. inr (e.1, e.0)) h)));
      }

  -- the rows are wide enough for each place
  pub holder_fits : (a b : ℕ) → a < length ps → b < length ps → (a < length hs) × (b / 64 < length (row_at hs a))
  holder_fits a b inside beside = let long = is.holders.long in let wide = is.holders.wide a inside in (omega (arith, long, inside), omega (arith, wide, beside))

  pub asker_fits : (b a : ℕ) → b < length ps → a < length ps → (b < length ts) × (a / 64 < length (row_at ts b))
  asker_fits b a inside beside = let long = is.askers.long in let wide = is.askers.wide b inside in (omega (arith, long, inside), omega (arith, wide, beside))

-- ---- the twins

-- a twin for each of the first places
pub record AreTwinsSoFar (table : List (List ℕ)) (at : ℕ) (twins : List ℕ) : Type 0 where
  pub long : length twins ≡ at
  pub back : (k : ℕ) → k < at → get_or twins k 0 ≤ k
  pub same : (k : ℕ) → k < at → row_at table (get_or twins k 0) ≡ row_at table k

pub twins_start : (table : List (List ℕ)) (twins : List ℕ) → twins ≡ [] → AreTwinsSoFar table 0 twins
twins_start table twins empty = record { long = ap length empty; back = λ k l. absurd (omega arith); same = λ k l. absurd (omega arith) }

pub twins_push : (table : List (List ℕ)) (at : ℕ) (twins : List ℕ) (twin : ℕ) → AreTwinsSoFar table at twins → twin ≤ at → row_at table twin ≡ row_at table at → AreTwinsSoFar table (at + 1) (twins ++ twin ∷ [])
twins_push table at twins twin is back same = record {
  long = length-append twins (twin ∷ []) ∙ ap (λ n. n + 1) is.long;
  back = λ k l. elim (cases_eq k at) [
    | inl e ↦ let here = last k e in omega (arith, here, back, e)
    | inr ne ↦ let before = earlier k (omega arith) in let less = is.back k (omega arith) in omega (arith, before, less)
  ];
  same = λ k l. elim (cases_eq k at) [
    | inl e ↦ ap (row_at table) (last k e) ∙ same ∙ ap (row_at table) (sym e)
    | inr ne ↦ ap (row_at table) (earlier k (omega arith)) ∙ is.same k (omega arith)
  ];
}
  where
    last : (k : ℕ) → k ≡ at → get_or (twins ++ twin ∷ []) k 0 ≡ twin
    last k e = ap (λ i. get_or (twins ++ twin ∷ []) i 0) (e ∙ sym is.long) ∙ get_or-append_seam twins twin [] 0

    earlier : (k : ℕ) → k < at → get_or (twins ++ twin ∷ []) k 0 ≡ get_or twins k 0
    earlier k l = let long = is.long in get_or_append_left twins (twin ∷ []) 0 k (omega (arith, long, l))

pub twins_end : (table : List (List ℕ)) (at : ℕ) (twins : List ℕ) → length table ≡ at → AreTwinsSoFar table at twins → AreTwins table twins
twins_end table at twins all is = record {
  long = is.long ∙ sym all;
  back = λ k l. is.back k (omega (arith, all, l));
  same = λ k l. is.same k (omega (arith, all, l));
}

-- The search by levels.
use Rattle.std.proofs.Common.{◌≡◌, ℕ, zero, suc, ◌+◌, ◌-◌, ◌^◌, ◌<◌, ◌≤◌, ◌↔◌, ◌==◌, ◌||◌, ◌/◌, Bool, true, false, true≢false, List, Option, Some, None, is_some, get_or, [], ◌∷◌, ◌++◌, length, inl, inr, ⊎_elim, sym, ap, subst, refl, ◌∙◌, if◌then◌else◌, arith, length-append}
use Rattle.std.specs.Prelude.{IfSome, IfNone}
use Rattle.std.proofs.Math.Bool.{or-false}
use Rattle.std.proofs.Math.Seq.{get_or-append_seam}
use Rattle.std.proofs.lemmas.Bool.{cases_eq, cases_lt, cases_Bool, eq-eqb, eqb-true, or_cases, or_left, or_right}
use Rattle.std.proofs.lemmas.List.{get_or_append_left, get_or_past, get_or_default}
use Rattle.cmh_frames.specs.Paths.{IsPath, IsCycleOf}
use Rattle.cmh_frames.proofs.Beginnings.{empty_list}
use Rattle.cmh_cycles.specs.Inner.Levels.{IsIn, AreLevels, LeadBack}
use Rattle.cmh_bits.specs.Bits.{has_number}
use Rattle.cmh_cycles.specs.Rows.{row_at}
use Rattle.cmh_bits.proofs.BitLemmas.{no_bit}

-- ---- how many places are left

-- how many of the places below n the row lacks
abbrev pub lacking : ℕ → List ℕ → ℕ
lacking zero row = 0
lacking (suc n) row = (if has_number row n then 0 else 1) + lacking n row

one_less : (s t : Bool) → (s ≡ true → t ≡ true) → (if t then 0 else 1) ≤ (if s then 0 else 1)
one_less true true h = omega arith
one_less true false h = absurd (true≢false (sym (h refl)))
one_less false true h = omega arith
one_less false false h = omega arith

lacking_le : (n : ℕ) (old new : List ℕ) → ((k : ℕ) → has_number old k ≡ true → has_number new k ≡ true) → lacking n new ≤ lacking n old
lacking_le zero old new grows = omega arith
lacking_le (suc n) old new grows =
    let more = lacking_le n old new grows in
    let one = one_less (has_number old n) (has_number new n) (grows n) in
    omega (arith, more, one)

pub lacking_less : (n k : ℕ) (old new : List ℕ) → ((k : ℕ) → has_number old k ≡ true → has_number new k ≡ true) → k < n → has_number old k ≡ false → has_number new k ≡ true → lacking n new < lacking n old
lacking_less zero k old new grows l before now = absurd (omega arith)
lacking_less (suc n) k old new grows l before now = elim (cases_eq k n) [
  | inl e ↦
      let more = lacking_le n old new grows in
      let one : Bool → ℕ = λ t. if t then 0 else 1 in
      let first = ap one (ap (has_number old) (sym e) ∙ before) in
      let second = ap one (ap (has_number new) (sym e) ∙ now) in
      omega (arith, more, first, second)
  | inr ne ↦
      let more = lacking_less n k old new grows (omega arith) before now in
      let one = one_less (has_number old n) (has_number new n) (grows n) in
      omega (arith, more, one)
]

-- ---- the levels so far

pub in_level : (levels : List (List ℕ)) (d v : ℕ) → IsIn levels d v → d < length levels
in_level levels d v h = elim (cases_lt d (length levels)) [
  | inl l ↦ l
  | inr past ↦ absurd (true≢false (sym h ∙ ap (λ row. has_number row v) (get_or_past levels d [] past) ∙ no_bit _))
]

-- the levels so far, of rows of so many words, with all their places in `seen`; none but the last has a place that `to` leads to
pub record IsSearched (R : ℕ → ℕ → Type 0) (to n words : ℕ) (levels : List (List ℕ)) (seen : List ℕ) : Type 0 where
  pub are : AreLevels R to levels
  pub some : 0 < length levels
  pub wide : (d : ℕ) → d < length levels → length (row_at levels d) ≡ words
  pub as_wide : length seen ≡ words
  pub seen_in : (v : ℕ) → has_number seen v ≡ true → (d : ℕ) × IsIn levels d v
  pub in_seen : (d v : ℕ) → IsIn levels d v → has_number seen v ≡ true
  pub inside : (d v : ℕ) → IsIn levels d v → v < n
  pub first : (d v : ℕ) → IsIn levels d v → R to v → length levels ≤ d + 1

one_level : (row : List ℕ) (d v : ℕ) → IsIn (row ∷ []) d v → d ≡ 0
one_level row d v h = let l = in_level (row ∷ []) d v h in omega (arith, l)

pub search_start : (R : ℕ → ℕ → Type 0) (to n words : ℕ) (levels : List (List ℕ)) (row seen : List ℕ) → levels ≡ row ∷ [] → length row ≡ words → length seen ≡ words → to < n
    → ((k : ℕ) → has_number row k ≡ (k == to)) → ((k : ℕ) → has_number seen k ≡ (k == to)) → IsSearched R to n words levels seen
search_start R to n words levels row seen is wide as_wide inside row_has seen_has = subst (λ ls. IsSearched R to n words ls seen) (sym is) (record {
  are = record {
    reached = λ d v h. ([], at d v h, sym (one_level row d v h));
    short = λ d v members h path. let e = one_level row d v h in omega (arith, e);
    least = λ v members path l. (0, row_has v ∙ eq-eqb v to (ends v members path (empty_list members (omega arith))), omega arith);
  };
  some = omega arith;
  wide = λ d l. ap (λ q. length (row_at (row ∷ []) q)) (let e : d ≡ 0 = omega arith in e) ∙ wide;
  as_wide = as_wide;
  seen_in = λ v h. (0, row_has v ∙ sym (seen_has v) ∙ h);
  in_seen = λ d v h. seen_has v ∙ eq-eqb v to (at d v h);
  inside = λ d v h. subst (λ x. x < n) (sym (at d v h)) inside;
  first = λ d v h r. omega arith;
})
  where
    at : (d v : ℕ) → IsIn (row ∷ []) d v → v ≡ to
    at d v h = eqb-true v to (sym (row_has v) ∙ ap (λ q. has_number (row_at (row ∷ []) q) v) (sym (one_level row d v h)) ∙ h)

    ends : (v : ℕ) (members : List ℕ) → IsPath R v members to → members ≡ [] → v ≡ to
    ends v [] path e = path
    ends v (x ∷ xs) path e = absurd (cc)

-- one more level: the places that lead to the last one and weren't seen
module _ (R : ℕ → ℕ → Type 0) (to n words : ℕ) (levels : List (List ℕ)) (seen : List ℕ) (is : IsSearched R to n words levels seen)
    (next : List ℕ) (next_has : (v : ℕ) → has_number next v ≡ true ↔ (((k : ℕ) × IsIn levels (length levels - 1) k × R v k) × (has_number seen v ≡ false))) where
  -- a place that leads to a place seen, in a level before the last, was seen
  nearer : (v k d : ℕ) → R v k → IsIn levels d k → d + 1 < length levels → (e : ℕ) × IsIn levels e v × (e ≤ d + 1)
  nearer v k d step at less =
      let path = is.are.reached d k at in
      let long : length path.0 ≡ d = path.2 in
      let found = is.are.least v (k ∷ path.0) (step, path.1) (omega (arith, long, less)) in
      let bound = found.2 in
      (found.0, found.1, omega (arith, bound, long))

  -- without a new place, all that lead to `to` were seen
  all_near : ((v : ℕ) → has_number next v ≡ false) → (v : ℕ) (members : List ℕ) → IsPath R v members to → (d : ℕ) × IsIn levels d v
  all_near none v [] path = let f = is.are.least v [] path is.some in (f.0, f.1)
  all_near none v (k ∷ rest) path =
      let at = all_near none k rest path.1 in
      let inside = in_level levels at.0 k at.1 in
      elim (cases_lt (at.0 + 1) (length levels)) [
        | inl less ↦ let f = nearer v k at.0 path.0 at.1 less in (f.0, f.1)
        | inr past ↦
            let last : at.0 ≡ length levels - 1 = omega (arith, inside, past) in
            elim (cases_Bool (has_number seen v)) [
              | inl e ↦ is.seen_in v e
              | inr e ↦ absurd (true≢false (sym ((next_has v).1 ((k, subst (λ d. IsIn levels d k) last at.1, path.0), e)) ∙ none v))
            ]
      ]

  -- and where no level has a place that `to` leads to, it is on no cycle
  pub no_cycle : ((v : ℕ) → has_number next v ≡ false) → ((v : ℕ) → IsIn levels (length levels - 1) v → R to v → ⊥) → (other : List ℕ) → IsCycleOf R to other → ⊥
  no_cycle none unmet [] h = h
  no_cycle none unmet (x ∷ []) h = h
  no_cycle none unmet (x ∷ k ∷ rest) h =
      let step : R to k = subst (λ j. R j k) h.0 h.1.0 in
      let at = all_near none k rest h.1.1 in
      let inside = in_level levels at.0 k at.1 in
      let low = is.first at.0 k at.1 step in
      unmet k (subst (λ d. IsIn levels d k) (let e : at.0 ≡ length levels - 1 = omega (arith, inside, low) in e) at.1) step

  old_level : (d : ℕ) → d < length levels → row_at (levels ++ next ∷ []) d ≡ row_at levels d
  old_level d l = get_or_append_left levels (next ∷ []) [] d l

  new_level : row_at (levels ++ next ∷ []) (length levels) ≡ next
  new_level = get_or-append_seam levels next [] []

  still : (d v : ℕ) → IsIn levels d v → IsIn (levels ++ next ∷ []) d v
  still d v h = ap (λ row. has_number row v) (old_level d (in_level levels d v h)) ∙ h

  came : (v : ℕ) → has_number next v ≡ true → IsIn (levels ++ next ∷ []) (length levels) v
  came v h = ap (λ row. has_number row v) new_level ∙ h

  -- a place of the longer list is of an old level or of the new one
  from : (P : ℕ → ℕ → Type 0) → ((d v : ℕ) → IsIn levels d v → P d v) → ((v : ℕ) → has_number next v ≡ true → P (length levels) v) → (d v : ℕ) → IsIn (levels ++ next ∷ []) d v → P d v
  from P old new d v h = elim (cases_lt d (length levels)) [
    | inl l ↦ old d v (sym (ap (λ row. has_number row v) (old_level d l)) ∙ h)
    | inr past ↦
        let inside = in_level (levels ++ next ∷ []) d v h in
        let long = length-append levels (next ∷ []) in
        let e : d ≡ length levels = omega (arith, inside, long, past) in
        subst (λ q. P q v) (sym e) (new v (sym (ap (λ q. has_number (row_at (levels ++ next ∷ []) q) v) e ∙ ap (λ row. has_number row v) new_level) ∙ h))
  ]

  long : length (levels ++ next ∷ []) ≡ length levels + 1
  long = length-append levels (next ∷ [])

  more_reached : (v : ℕ) → has_number next v ≡ true → (members : List ℕ) × IsPath R v members to × (length members ≡ length levels)
  more_reached v h =
      let k = ((next_has v).0 h).0 in
      let path = is.are.reached (length levels - 1) k.0 k.1 in
      let some = is.some in
      let l = path.2 in
      (k.0 ∷ path.0, (k.2, path.1), omega (arith, some, l))

  more_short : (v : ℕ) (members : List ℕ) → has_number next v ≡ true → IsPath R v members to → length levels ≤ length members
  more_short v members h path = elim (cases_lt (length members) (length levels)) [
    | inl l ↦ let d = is.are.least v members path l in absurd (true≢false (sym (is.in_seen d.0 v d.1) ∙ ((next_has v).0 h).1))
    | inr le ↦ le
  ]

  more_least : (v : ℕ) (members : List ℕ) → IsPath R v members to → length members < length levels + 1 → (d : ℕ) × IsIn (levels ++ next ∷ []) d v × (d ≤ length members)
  more_least v [] path l = let d = is.are.least v [] path is.some in (d.0, still d.0 v d.1, d.2)
  more_least v (k ∷ rest) path l =
      let at = is.are.least k rest path.1 (omega arith) in
      let bound = at.2 in
      let inside = in_level levels at.0 k at.1 in
      elim (cases_lt (at.0 + 1) (length levels)) [
        | inl less ↦ let f = nearer v k at.0 path.0 at.1 less in let b = f.2 in (f.0, still f.0 v f.1, omega (arith, b, bound))
        | inr past ↦
            let last : at.0 ≡ length levels - 1 = omega (arith, inside, past) in
            elim (cases_Bool (has_number seen v)) [
              | inl e ↦ let d = is.seen_in v e in let within = in_level levels d.0 v d.1 in (d.0, still d.0 v d.1, omega (arith, within, past, bound))
              | inr e ↦ (length levels, came v ((next_has v).1 ((k, subst (λ d. IsIn levels d k) last at.1, path.0), e)), omega (arith, past, bound))
            ]
      ]

  pub search_more : (seen' : List ℕ) → length next ≡ words → length seen' ≡ words → ((v : ℕ) → has_number seen' v ≡ (has_number seen v || has_number next v)) → ((v : ℕ) → has_number next v ≡ true → v < n)
      → ((v : ℕ) → IsIn levels (length levels - 1) v → R to v → ⊥) → IsSearched R to n words (levels ++ next ∷ []) seen'
  search_more seen' next_wide seen_wide places within unmet = record {
    are = record {
      reached = from (λ d v. (members : List ℕ) × IsPath R v members to × (length members ≡ d)) is.are.reached more_reached;
      short = λ d v members h path. from (λ e w. (ms : List ℕ) → IsPath R w ms to → e ≤ length ms) (λ e w g ms p. is.are.short e w ms g p) (λ w g ms p. more_short w ms g p) d v h members path;
      least = λ v members path l. more_least v members path (let e = long in omega (arith, e, l));
    };
    some = let e = long in omega (arith, e);
    wide = λ d l. elim (cases_lt d (length levels)) [
      | inl less ↦ ap length (old_level d less) ∙ is.wide d less
      | inr past ↦ let n = long in let e : d ≡ length levels = omega (arith, l, n, past) in ap (λ q. length (row_at (levels ++ next ∷ []) q)) e ∙ ap length new_level ∙ next_wide
    ];
    as_wide = seen_wide;
    seen_in = λ v h. ⊎_elim
        (λ o. let d = is.seen_in v o in (d.0, still d.0 v d.1))
        (λ g. (length levels, came v g))
        (or_cases (has_number seen v) (has_number next v) (sym (places v) ∙ h));
    in_seen = from (λ d v. has_number seen' v ≡ true) (λ d v h. places v ∙ or_left (has_number seen v) (has_number next v) (is.in_seen d v h)) (λ v h. places v ∙ or_right (has_number seen v) (has_number next v) h);
    inside = from (λ d v. v < n) is.inside within;
    first = from (λ d v. R to v → length (levels ++ next ∷ []) ≤ d + 1)
        (λ d v h r. let low = is.first d v h r in let inside = in_level levels d v h in absurd (unmet v (subst (λ e. IsIn levels e v) (let same : d ≡ length levels - 1 = omega (arith, low, inside) in same) h) r))
        (λ v h r. let e = long in omega (arith, e));
  }

-- the last level has a place that `to` leads to
pub search_end : (R : ℕ → ℕ → Type 0) (to n words : ℕ) (levels : List (List ℕ)) (seen : List ℕ) → IsSearched R to n words levels seen → (v : ℕ) × R to v × IsIn levels (length levels - 1) v → LeadBack R to levels
search_end R to n words levels seen is met = record { are = is.are; some = is.some; met = met; first = is.first }

-- whether the last level has a place that `to` leads to
abbrev pub IsMet : (ℕ → ℕ → Type 0) → ℕ → List (List ℕ) → Bool → Type 0
IsMet R to levels true = (v : ℕ) × R to v × IsIn levels (length levels - 1) v
IsMet R to levels false = (v : ℕ) → IsIn levels (length levels - 1) v → R to v → ⊥

-- what a search of a common place says
pub met_from : (R : ℕ → ℕ → Type 0) (to : ℕ) (levels : List (List ℕ)) (last holders : List ℕ) (o : Option ℕ) (b : Bool) → b ≡ is_some o → row_at levels (length levels - 1) ≡ last → ((v : ℕ) → has_number holders v ≡ true ↔ R to v)
    → IfSome o (λ p. (has_number last p ≡ true) × (has_number holders p ≡ true)) → IfNone o ((k : ℕ) → has_number last k ≡ true → has_number holders k ≡ true → ⊥) → IsMet R to levels b
met_from R to levels last holders (Some p) b is here leads some none = subst (IsMet R to levels) (sym is) (p, (leads p).0 some.1, ap (λ row. has_number row p) here ∙ some.0)
met_from R to levels last holders None b is here leads some none = subst (IsMet R to levels) (sym is) (λ v h r. none v (sym (ap (λ row. has_number row v) here) ∙ h) ((leads v).1 r))

pub unmet : (R : ℕ → ℕ → Type 0) (to : ℕ) (levels : List (List ℕ)) (b : Bool) → b ≡ false → IsMet R to levels b → (v : ℕ) → IsIn levels (length levels - 1) v → R to v → ⊥
unmet R to levels b is met = subst (IsMet R to levels) is met

pub met_end : (R : ℕ → ℕ → Type 0) (to : ℕ) (levels : List (List ℕ)) (b : Bool) → b ≡ true → IsMet R to levels b → (v : ℕ) × R to v × IsIn levels (length levels - 1) v
met_end R to levels b is met = subst (IsMet R to levels) is met

-- the new level, by the places of the last and by R
pub next_from : (R : ℕ → ℕ → Type 0) (levels askers : List (List ℕ)) (last seen next : List ℕ) → row_at levels (length levels - 1) ≡ last → ((v k : ℕ) → has_number (row_at askers k) v ≡ true ↔ R v k)
    → ((v : ℕ) → has_number next v ≡ true ↔ (((k : ℕ) × (has_number last k ≡ true) × (has_number (row_at askers k) v ≡ true)) × (has_number seen v ≡ false)))
    → (v : ℕ) → has_number next v ≡ true ↔ (((k : ℕ) × IsIn levels (length levels - 1) k × R v k) × (has_number seen v ≡ false))
next_from R levels askers last seen next here leads next_has v = (
  λ h. let g = (next_has v).0 h in ((g.0.0, ap (λ row. has_number row g.0.0) here ∙ g.0.1, (leads v g.0.0).0 g.0.2), g.1),
  λ g. (next_has v).1 ((g.0.0, sym (ap (λ row. has_number row g.0.0) here) ∙ g.0.1, (leads v g.0.0).1 g.0.2), g.1),
)

-- a row of one place
pub only_place : (new old : List ℕ) (place : ℕ) → ((k : ℕ) → has_number new k ≡ ((k == place) || has_number old k)) → ((k : ℕ) → has_number old k ≡ false) → (k : ℕ) → has_number new k ≡ (k == place)
only_place new old place places none k = places k ∙ ap (λ b. (k == place) || b) (none k) ∙ or-false (k == place)

pub words_small : (n : ℕ) → n < 2 ^ 63 → n / 64 + 1 ≤ 2 ^ 57
words_small n l = omega arith

pub last_pushed : (levels : List (List ℕ)) (next : List ℕ) → row_at (levels ++ next ∷ []) (length (levels ++ next ∷ []) - 1) ≡ next
last_pushed levels next =
    let long = length-append levels (next ∷ []) in
    let last : length (levels ++ next ∷ []) - 1 ≡ length levels = omega (arith, long) in
    ap (row_at (levels ++ next ∷ [])) last ∙ get_or-append_seam levels next [] []

pub one_last : (levels : List (List ℕ)) (row d : List ℕ) → levels ≡ row ∷ [] → row_at levels (length levels - 1) ≡ get_or levels 0 d
one_last levels row d is = subst (λ ls. row_at ls (length ls - 1) ≡ get_or ls 0 d) (sym is) (last_pushed [] row)

pub last_read : (levels : List (List ℕ)) (n : ℕ) (row : List ℕ) → n ≡ length levels → 0 < length levels → row ≡ get_or levels (n - 1) row → row_at levels (length levels - 1) ≡ row
last_read levels n row e some is = sym (is ∙ get_or_default levels (n - 1) row [] (omega (arith, e, some)) ∙ ap (λ m. row_at levels (m - 1)) e)

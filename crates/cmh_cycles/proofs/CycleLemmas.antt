-- From levels to the first of the shortest cycles.
use Rattle.std.proofs.Common.{◌≡◌, ℕ, suc, true, true≢false, ◌+◌, ◌-◌, ◌<◌, ◌≤◌, List, [], ◌∷◌, ◌++◌, length, map, get_or, ◌⊎◌, inl, inr, ⊎_elim, sym, ap, subst, refl, ◌∙◌, arith, append_assoc, append-nil, length-append}
use Rattle.std.specs.Prelude.{Contains}
use Rattle.std.specs.List.{AllByRecursion}
use Rattle.std.specs.declared.cmp.Ordering.TheVariants.{Less, Equal, Greater}
use Rattle.std.specs.Ordering.{is_le, nat_cmp, ordering_then}
use Rattle.std.specs.Cmp.{nat_cmp_is}
use Rattle.std.specs.Cmp.Lexicographic.{slice_cmp}
use Rattle.std.specs.declared.cmp.Ordering.{Ordering}
use Rattle.std.proofs.lemmas.Bool.{cases_eq, cases_lt}
use Rattle.std.proofs.lemmas.List.{get_or_default}
use Rattle.std.proofs.lemmas.List.Kept.{AllPairs-from_increasing}
use Rattle.cmh_frames.specs.Paths.{IsPath, IsCycleOf}
use Rattle.cmh_frames.proofs.Beginnings.{empty_list}
use Rattle.cmh_cycles.specs.FoundCycles.{WaitsIn, IsCycleIn}
use Rattle.cmh_cycles.specs.Cycles.{IsFirstCycleOf}
use Rattle.cmh_cycles.specs.Graphs.{WaitsAt, AreAskers}
use Rattle.cmh_cycles.specs.Inner.Levels.{IsIn, LeadBack}
use Rattle.cmh_cycles.proofs.LevelLemmas.{in_level}

-- ---- a list that is below another within its length

abbrev pub BelowBy : List ℕ → List ℕ → Type 0
BelowBy [] ys = ⊥
BelowBy (x ∷ xs) [] = ⊥
BelowBy (x ∷ xs) (y ∷ ys) = (x < y) ⊎ ((x ≡ y) × BelowBy xs ys)

below_more : (xs zs ys : List ℕ) → BelowBy xs ys → BelowBy (xs ++ zs) ys
below_more [] zs ys h = absurd h
below_more (x ∷ xs) zs [] h = absurd h
below_more (x ∷ xs) zs (y ∷ ys) h = ⊎_elim (λ l. inl l) (λ e. inr (e.0, below_more xs zs ys e.1)) h

below_here : (xs : List ℕ) (k l : ℕ) (rest : List ℕ) → k < l → BelowBy (xs ++ k ∷ []) (xs ++ l ∷ rest)
below_here [] k l rest h = inl h
below_here (x ∷ xs) k l rest h = inr (refl, below_here xs k l rest h)

-- number by number, the first list is the second or less
abbrev NotAbove : List ℕ → List ℕ → Type 0
NotAbove [] ys = Unit {0}
NotAbove (x ∷ xs) [] = ⊥
NotAbove (x ∷ xs) (y ∷ ys) = (x < y) ⊎ ((x ≡ y) × NotAbove xs ys)

-- which is what comparing them says
first_decides : (x y : ℕ) (o rest : Ordering) → o ≡ nat_cmp x y → is_le (ordering_then o rest) ≡ true → is_le (ordering_then (nat_cmp x y) rest) ≡ true
first_decides x y o rest is le = subst (λ (p : Ordering). is_le (ordering_then p rest) ≡ true) is le

compared : (xs ys : List ℕ) → NotAbove xs ys → is_le (slice_cmp nat_cmp xs ys) ≡ true
compared [] [] h = refl
compared [] (y ∷ ys) h = refl
compared (x ∷ xs) [] h = absurd h
compared (x ∷ xs) (y ∷ ys) h = ⊎_elim
    (λ less. first_decides x y Less (slice_cmp nat_cmp xs ys) (nat_cmp_is x y Less less) refl)
    (λ same. first_decides x y Equal (slice_cmp nat_cmp xs ys) (nat_cmp_is x y Equal same.0) (compared xs ys same.1))
    h

not_above : (xs ys : List ℕ) → is_le (slice_cmp nat_cmp xs ys) ≡ true → NotAbove xs ys
not_above [] ys h = tt
not_above (x ∷ xs) [] h = absurd (true≢false (sym h))
not_above (x ∷ xs) (y ∷ ys) h = ⊎_elim
    (λ less. inl less)
    (λ least. ⊎_elim
    (λ same. inr (same, not_above xs ys (at Equal (nat_cmp_is x y Equal same))))
    (λ apart. absurd (true≢false (sym (at Greater (nat_cmp_is x y Greater (omega arith))))))
    (cases_eq x y))
    (cases_lt x y)
  where
    at : (o : Ordering) → o ≡ nat_cmp x y → is_le (ordering_then o (slice_cmp nat_cmp xs ys)) ≡ true
    at o is = subst (λ (p : Ordering). is_le (ordering_then p (slice_cmp nat_cmp xs ys)) ≡ true) (sym is) h

below_not_above : (xs ys : List ℕ) → BelowBy xs ys → NotAbove xs ys
below_not_above [] ys h = absurd h
below_not_above (x ∷ xs) [] h = absurd h
below_not_above (x ∷ xs) (y ∷ ys) h = ⊎_elim (λ l. inl l) (λ e. inr (e.0, below_not_above xs ys e.1)) h

not_above_refl : (xs : List ℕ) → NotAbove xs xs
not_above_refl [] = tt
not_above_refl (x ∷ xs) = inr (refl, not_above_refl xs)

-- ---- the walk

-- the members so far lead from `to` to `at`, and on through the levels that are left; every cycle of this length is above them already, or goes on from them
pub record IsWalking (R : ℕ → ℕ → Type 0) (to : ℕ) (levels : List (List ℕ)) (members : List ℕ) (at left : ℕ) : Type 0 where
  pub on : (d : ℕ) → d + 1 ≡ left → (k : ℕ) × R at k × IsIn levels d k
  pub low : (k : ℕ) (rest : List ℕ) → R at k → IsPath R k rest to → left ≤ length rest + 1
  pub path : (rest : List ℕ) → 2 ≤ length members + length rest → IsPath R at rest to → IsCycleOf R to (members ++ rest)
  pub long : length members + left ≡ length levels + 1
  pub others : (other : List ℕ) → IsCycleOf R to other → length other ≡ length levels + 1 → BelowBy members other ⊎ ((rest : List ℕ) × (other ≡ members ++ rest) × IsPath R at rest to)
  pub home : left ≡ 0 → at ≡ to

module _ (R : ℕ → ℕ → Type 0) (to : ℕ) (levels : List (List ℕ)) (back : LeadBack R to levels) where
  cycle_parts : (other : List ℕ) → IsCycleOf R to other → (k : ℕ) × (rest : List ℕ) × (other ≡ to ∷ (k ∷ rest)) × R to k × IsPath R k rest to
  cycle_parts [] h = absurd h
  cycle_parts (v ∷ []) h = absurd h
  cycle_parts (v ∷ (k ∷ rest)) h = (k, rest, ap (λ x. x ∷ (k ∷ rest)) h.0, subst (λ x. R x k) h.0 h.1.0, h.1.1)

  low_back : (k : ℕ) (rest : List ℕ) → R to k → IsPath R k rest to → length levels ≤ length rest + 1
  low_back k rest step path = elim (cases_lt (length rest) (length levels)) [
    | inl l ↦ let d = back.are.least k rest path l in let low = back.first d.0 k d.1 step in let le = d.2 in omega (arith, low, le)
    | inr le ↦ omega arith
  ]

  -- no cycle is shorter
  none_shorter : (other : List ℕ) → IsCycleOf R to other → length levels + 1 ≤ length other
  none_shorter other h =
      let p = cycle_parts other h in
      let low = low_back p.0 p.1 p.3 p.4 in
      let long = ap length p.2 in
      omega (arith, low, long)

  pub walk_start : (n : ℕ) → n ≡ length levels → IsWalking R to levels (to ∷ []) to n
  walk_start n all = record {
    on = λ d e. subst (λ q. (k : ℕ) × R to k × IsIn levels q k) (let some = back.some in let same : length levels - 1 ≡ d = omega (arith, e, some, all) in same) back.met;
    low = λ k rest step path. let l = low_back k rest step path in omega (arith, l, all);
    path = cons_path;
    long = omega (arith, all);
    others = λ other h l. let p = cycle_parts other h in inr (p.0 ∷ p.1, p.2, (p.3, p.4));
    home = λ none. refl;
  }
    where
      cons_path : (rest : List ℕ) → 2 ≤ length (to ∷ []) + length rest → IsPath R to rest to → IsCycleOf R to ((to ∷ []) ++ rest)
      cons_path [] l h = absurd (omega arith)
      cons_path (k ∷ rest) l h = (refl, h)

  -- there is a next
  pub walk_goes_on : (members : List ℕ) (at left : ℕ) → IsWalking R to levels members at (left + 1) → ((k : ℕ) → IsIn levels left k → R at k → ⊥) → ⊥
  walk_goes_on members at left walk none = let k = walk.on left refl in none k.0 k.2 k.1

  -- with one more member
  module _ (members : List ℕ) (at left next : ℕ) (walk : IsWalking R to levels members at (left + 1)) (step : R at next) (here : IsIn levels left next) (least : (k : ℕ) → IsIn levels left k → R at k → next ≤ k) where
    path_next : (rest : List ℕ) → 2 ≤ length (members ++ next ∷ []) + length rest → IsPath R next rest to → IsCycleOf R to ((members ++ next ∷ []) ++ rest)
    path_next rest l leads = let n = length-append members (next ∷ []) in subst (IsCycleOf R to) (sym (append_assoc members (next ∷ []) rest)) (walk.path (next ∷ rest) (omega (arith, n, l)) (step, leads))

    others_next : (other : List ℕ) → IsCycleOf R to other → length other ≡ length levels + 1 → BelowBy (members ++ next ∷ []) other ⊎ ((rest : List ℕ) × (other ≡ (members ++ next ∷ []) ++ rest) × IsPath R next rest to)
    others_next other h l = ⊎_elim (λ b. inl (below_more members (next ∷ []) other b)) (λ r. go r.0 r.1 r.2) (walk.others other h l)
      where
        go : (rest : List ℕ) → other ≡ members ++ rest → IsPath R at rest to → BelowBy (members ++ next ∷ []) other ⊎ ((rest : List ℕ) × (other ≡ (members ++ next ∷ []) ++ rest) × IsPath R next rest to)
        go [] e leads = let n = ap length e ∙ length-append members [] in let w = walk.long in absurd (omega (arith, n, w, l))
        go (k ∷ rest) e leads =
            let n = ap length e ∙ length-append members (k ∷ rest) in
            let w = walk.long in
            let inside = in_level levels left next here in
            let d = back.are.least k rest leads.1 (omega (arith, n, w, l, inside)) in
            let p = back.are.reached d.0 k d.1 in
            let low = walk.low k p.0 leads.0 p.1 in
            let bound = d.2 in
            let exact = p.2 in
            let same : d.0 ≡ left = omega (arith, n, w, low, bound, l, exact) in
            let le = least k (subst (λ q. IsIn levels q k) same d.1) leads.0 in
            ⊎_elim
            (λ (less : next < k). inl (subst (BelowBy (members ++ next ∷ [])) (sym e) (below_here members next k rest less)))
            (λ (ge : k ≤ next).
            let eq : k ≡ next = omega (arith, ge, le) in
            inr (rest, e ∙ ap (λ x. members ++ x ∷ rest) eq ∙ sym (append_assoc members (next ∷ []) rest), subst (λ x. IsPath R x rest to) eq leads.1))
            (cases_lt next k)

    pub walk_more : IsWalking R to levels (members ++ next ∷ []) next left
    walk_more = record {
      on = λ d e. go d e (back.are.reached left next here);
      low = λ k rest s p. let short = back.are.short left next (k ∷ rest) here (s, p) in omega (arith, short);
      path = λ rest l leads. path_next rest l leads;
      long = let n = length-append members (next ∷ []) in let w = walk.long in omega (arith, n, w);
      others = others_next;
      home = λ none. let p = back.are.reached left next here in ends p.0 p.1 (empty_list p.0 (p.2 ∙ none));
    }
      where
        ends : (ms : List ℕ) → IsPath R next ms to → ms ≡ [] → next ≡ to
        ends [] path e = path
        ends (x ∷ xs) path e = absurd (cc)

        go : (d : ℕ) → d + 1 ≡ left → (ms : List ℕ) × IsPath R next ms to × (length ms ≡ left) → (k : ℕ) × R next k × IsIn levels d k
        go d e p = step_on p.0 p.1 p.2
          where
            step_on : (ms : List ℕ) → IsPath R next ms to → length ms ≡ left → (k : ℕ) × R next k × IsIn levels d k
            step_on [] leads long = absurd (omega (arith, e, long))
            step_on (k ∷ rest) leads long =
                let inside = in_level levels left next here in
                let f = back.are.least k rest leads.1 (omega (arith, long, inside)) in
                let q = back.are.reached f.0 k f.1 in
                let low = back.are.short left next (k ∷ q.0) here (leads.0, q.1) in
                let bound = f.2 in let exact = q.2 in
                (k, leads.0, subst (λ x. IsIn levels x k) (let same : f.0 ≡ d = omega (arith, low, bound, exact, long, e) in same) f.1)

  -- the walk is back
  pub walk_end : (members : List ℕ) (at left : ℕ) → left ≡ 0 → IsWalking R to levels members at left → IsFirstCycleOf R to members
  walk_end members at left none walk = record {
    cycle = subst (IsCycleOf R to) (append-nil members) (walk.path [] (let w = walk.long in let some = back.some in omega (arith, w, none, some)) (walk.home none));
    first = λ other h.
        let w = walk.long in
        let shorter = none_shorter other h in
        ⊎_elim
        (λ (less : length levels + 1 < length other). inl (omega (arith, w, none, less)))
        (λ (ge : length other ≤ length levels + 1).
        let same : length other ≡ length levels + 1 = omega (arith, ge, shorter) in
        inr (
          omega (arith, w, none, same),
          compared members other (⊎_elim
              (λ b. below_not_above members other b)
              (λ r. let m = ap length r.1 ∙ length-append members r.0 in
              let rest_none : r.0 ≡ [] = empty_list r.0 (omega (arith, m, w, none, same)) in
              subst (NotAbove members) (sym (r.1 ∙ ap (λ l. members ++ l) rest_none ∙ append-nil members)) (not_above_refl members))
              (walk.others other h same)),
        ))
        (cases_lt (length levels + 1) (length other));
  }

-- ---- from places to processes

module _ (waits : List (ℕ × ℕ)) (ps : List ℕ) (are : AreAskers waits ps) where
  path_to : (a : ℕ) (places : List ℕ) (b : ℕ) → IsPath (λ a b. WaitsAt ps waits a b) a places b → IsPath (λ j k. WaitsIn waits j k) (get_or ps a 0) (map (λ c. get_or ps c 0) places) (get_or ps b 0)
  path_to a [] b h = ap (λ c. get_or ps c 0) h
  path_to a (x ∷ xs) b h = (h.0.2, path_to x xs b h.1)

  cycle_to : (a : ℕ) (places : List ℕ) → IsCycleOf (λ a b. WaitsAt ps waits a b) a places → IsCycleIn waits (get_or ps a 0) (map (λ c. get_or ps c 0) places)
  cycle_to a [] h = h
  cycle_to a (x ∷ []) h = h
  cycle_to a (x ∷ y ∷ others) h = (ap (λ c. get_or ps c 0) h.0, path_to x (y ∷ others) a h.1)

  -- the place of an asker
  placed : (j k : ℕ) → WaitsIn waits j k → (a : ℕ) × (a < length ps) × (get_or ps a 0 ≡ j)
  placed j k w = let c = are.all j k w in (c.0, c.1, get_or_default ps c.0 0 j c.1 ∙ c.2)

  -- a path to a process with a place is one of places
  path_from : (v : ℕ) (members : List ℕ) (b : ℕ) → b < length ps → IsPath (λ j k. WaitsIn waits j k) v members (get_or ps b 0)
      → (a : ℕ) × (places : List ℕ) × (a < length ps) × (get_or ps a 0 ≡ v) × (members ≡ map (λ c. get_or ps c 0) places) × IsPath (λ a b. WaitsAt ps waits a b) a places b × AllByRecursion (λ c. c < length ps) places
  path_from v [] b inside h = (b, [], inside, sym h, refl, refl, tt)
  path_from v (k ∷ rest) b inside h =
      let later = path_from k rest b inside h.1 in
      let at = placed v k h.0 in
      let w : Contains waits (get_or ps at.0 0, get_or ps later.0 0) = subst (λ x. Contains waits (x, get_or ps later.0 0)) (sym at.2) (subst (λ y. Contains waits (v, y)) (sym later.3) h.0) in
      (at.0, later.0 ∷ later.1, at.1, at.2, ap (λ x. x ∷ rest) (sym later.3) ∙ ap (λ ms. get_or ps later.0 0 ∷ ms) later.4, ((at.1, later.2, w), later.5), (later.2, later.6))

  cycle_from : (a : ℕ) → a < length ps → (other : List ℕ) → IsCycleIn waits (get_or ps a 0) other → (places : List ℕ) × (other ≡ map (λ c. get_or ps c 0) places) × IsCycleOf (λ a b. WaitsAt ps waits a b) a places × AllByRecursion (λ c. c < length ps) places
  cycle_from a inside [] h = absurd h
  cycle_from a inside (x ∷ []) h = absurd h
  cycle_from a inside (x ∷ k ∷ rest) h =
      let later = path_from k rest a inside h.1.1 in
      let w : Contains waits (get_or ps a 0, get_or ps later.0 0) = subst (λ y. Contains waits (y, get_or ps later.0 0)) h.0 (subst (λ y. Contains waits (x, y)) (sym later.3) h.1.0) in (
        a ∷ later.0 ∷ later.1,
        ap (λ y. y ∷ k ∷ rest) h.0 ∙ ap (λ y. get_or ps a 0 ∷ y ∷ rest) (sym later.3) ∙ ap (λ ms. get_or ps a 0 ∷ get_or ps later.0 0 ∷ ms) later.4,
        (refl, ((inside, later.2, w), later.5)),
        (inside, (later.2, later.6)),
      )

  not_above_to : (xs ys : List ℕ) → AllByRecursion (λ c. c < length ps) ys → NotAbove xs ys → NotAbove (map (λ c. get_or ps c 0) xs) (map (λ c. get_or ps c 0) ys)
  not_above_to [] ys all h = tt
  not_above_to (x ∷ xs) [] all h = absurd h
  not_above_to (x ∷ xs) (y ∷ ys) all h = ⊎_elim
      (λ l. inl (AllPairs-from_increasing ps are.ascending x y 0 l all.0))
      (λ e. inr (ap (λ c. get_or ps c 0) e.0, not_above_to xs ys all.1 e.1))
      h

  long_map : (xs : List ℕ) → length (map (λ c. get_or ps c 0) xs) ≡ length xs
  long_map [] = refl
  long_map (x ∷ xs) = ap suc (long_map xs)

  -- the first cycle of places is the first of processes
  pub first_to : (a : ℕ) (places : List ℕ) → a < length ps → IsFirstCycleOf (λ a b. WaitsAt ps waits a b) a places → IsFirstCycleOf (λ j k. WaitsIn waits j k) (get_or ps a 0) (map (λ c. get_or ps c 0) places)
  first_to a places inside h = record {
    cycle = cycle_to a places h.cycle;
    first = λ other c.
        let f = cycle_from a inside other c in
        let long = long_map places in
        let long' = ap length f.1 ∙ long_map f.0 in
        ⊎_elim
        (λ less. inl (omega (arith, less, long, long')))
        (λ e. inr (long ∙ e.0 ∙ sym long', compared (map (λ c. get_or ps c 0) places) other (subst (NotAbove (map (λ c. get_or ps c 0) places)) (sym f.1) (not_above_to places f.0 f.3 (not_above places f.0 e.1)))))
        (h.first f.0 f.2);
  }

  -- a process on a cycle waits, so it has a place; and where its place is on no cycle, it is on none
  pub on_cycle_waits : (i : ℕ) (other : List ℕ) → IsCycleIn waits i other → Contains ps i
  on_cycle_waits i [] h = absurd h
  on_cycle_waits i (x ∷ []) h = absurd h
  on_cycle_waits i (x ∷ k ∷ rest) h = subst (Contains ps) h.0 (are.all x k h.1.0)

  pub none_to : (a : ℕ) → a < length ps → ((places : List ℕ) → IsCycleOf (λ a b. WaitsAt ps waits a b) a places → ⊥) → (other : List ℕ) → IsCycleIn waits (get_or ps a 0) other → ⊥
  none_to a inside none other c = let f = cycle_from a inside other c in none f.0 f.2

pub map_push : (f : ℕ → ℕ) (xs : List ℕ) (x : ℕ) → map f xs ++ f x ∷ [] ≡ map f (xs ++ x ∷ [])
map_push f [] x = refl
map_push f (y ∷ xs) x = ap (λ ys. f y ∷ ys) (map_push f xs x)

-- From where a merge is stuck to the stops, or to a run.
use Rattle.std.proofs.Common.{◌≡◌, ◌≢◌, ℕ, zero, suc, ◌+◌, ◌-◌, ◌<◌, ◌≤◌, Bool, true, false, List, [], ◌∷◌, ◌++◌, length, map, take, get_or, ⊎_elim, sym, ap, subst, refl, ◌∙◌, append_assoc, append-nil, if◌then◌else◌, arith, take_all, length-take-le, take_at, lt_irrefl, lt_of_lt_of_le, cond}
use Rattle.std.specs.Prelude.{nat_lt, Contains}
use Rattle.std.specs.List.{filter, AllByRecursion}
use Rattle.std.specs.List.Sorted.{IsStrictlyIncreasing}
use Rattle.std.proofs.lemmas.Bool.{cases_eq, cases_lt, eq-eqb, ne_eqb, lt-ltb, le-ltb, ltb-true}
use Rattle.std.proofs.lemmas.List.{take_more, get_or_read}
use Rattle.std.proofs.lemmas.List.Kept.{IsStrictlyIncreasing-filter}
use Rattle.std.proofs.lemmas.List.Elements.{All-from_recursion}
use Rattle.cmh_frames.specs.Topology.{Topology, sites_of}
use Rattle.cmh_frames.specs.Entries.{Entry}
use Rattle.cmh_frames.specs.Runs.{IsBeginningOf, ComeFromRun, entries_of}
use Rattle.cmh_journal.specs.Journal.{Journal}
use Rattle.cmh_audit.specs.Journals.{journal_of, NoneAt}
use Rattle.cmh_audit.specs.Inner.Places.{OneEach}
use Rattle.cmh_audit.specs.Inner.Merging.{taken_of, IsStuck}
use Rattle.cmh_audit.specs.Set.{IsSet}
use Rattle.cmh_audit.proofs.SetLemmas.{set_parts}
use Rattle.cmh_audit.specs.Stops.{AreStops, before_stop}
use Rattle.cmh_audit.specs.Inner.FoundStops.{stops_at}
use Rattle.cmh_frames.proofs.Beginnings.{length-beginning}
use Rattle.cmh_audit.proofs.RunLemmas.{confluence}
use Rattle.cmh_audit.proofs.Sums.{journal_none}
use Rattle.cmh_audit.proofs.CountLemmas.{taken_here, journal_here, found}

-- ---- the helpers' loops

none_push : (site : ℕ) (js : List Journal) (j : Journal) → NoneAt site js → j.site ≢ site → NoneAt site (js ++ j ∷ [])
none_push site [] j none apart = (apart, tt)
none_push site (x ∷ js) j none apart = (none.0, none_push site js j none.1 apart)

pub none_more : (site : ℕ) (js : List Journal) (i : ℕ) (j : Journal) → i < length js → j ≡ get_or js i j → j.site ≢ site → NoneAt site (take i js) → NoneAt site (take (i + 1) js)
none_more site js i j l here apart none =
    subst (NoneAt site) (sym (take_more js i j l ∙ ap (λ x. take i js ++ x ∷ []) (sym here))) (none_push site (take i js) j none apart)

-- ---- the rows

stops_at-append : (xs ys : List ℕ) (js : List Journal) (counts : List ℕ) → stops_at (xs ++ ys) js counts ≡ stops_at xs js counts ++ stops_at ys js counts
stops_at-append [] ys js counts = refl
stops_at-append (x ∷ xs) ys js counts =
    let one : List (ℕ × ℕ) = if nat_lt (length (taken_of js counts x)) (length (journal_of js x)) then (x, length (taken_of js counts x) + 1) ∷ [] else [] in
    ap (λ l. one ++ l) (stops_at-append xs ys js counts) ∙ sym (append_assoc one (stops_at xs js counts) (stops_at ys js counts))

stops_more : (sites : List ℕ) (js : List Journal) (counts : List ℕ) (i : ℕ) → i < length sites → stops_at (take (i + 1) sites) js counts ≡ stops_at (take i sites) js counts ++ stops_at (get_or sites i 0 ∷ []) js counts
stops_more sites js counts i l = ap (λ s. stops_at s js counts) (take_more sites i 0 l) ∙ stops_at-append (take i sites) (get_or sites i 0 ∷ []) js counts

-- a site whose entries were all taken has no row
no_row : (site : ℕ) (js : List Journal) (counts : List ℕ) → length (journal_of js site) ≤ length (taken_of js counts site) → stops_at (site ∷ []) js counts ≡ []
no_row site js counts l = ap (λ t. (if t then (site, length (taken_of js counts site) + 1) ∷ [] else []) ++ []) (le-ltb (length (taken_of js counts site)) (length (journal_of js site)) l)

one_row : (site : ℕ) (js : List Journal) (counts : List ℕ) → length (taken_of js counts site) < length (journal_of js site) → stops_at (site ∷ []) js counts ≡ (site, length (taken_of js counts site) + 1) ∷ []
one_row site js counts l = ap (λ t. (if t then (site, length (taken_of js counts site) + 1) ∷ [] else []) ++ []) (lt-ltb (length (taken_of js counts site)) (length (journal_of js site)) l)

pub stops_none : (sites : List ℕ) (js : List Journal) (counts : List ℕ) (i site : ℕ) (rows : List (ℕ × ℕ)) → i < length sites → site ≡ get_or sites i site → NoneAt site js → rows ≡ stops_at (take i sites) js counts → rows ≡ stops_at (take (i + 1) sites) js counts
stops_none sites js counts i site rows l read none_here so_far =
    let none = subst (λ s. NoneAt s js) (get_or_read sites i site l read 0) none_here in
    so_far ∙ sym (append-nil _) ∙ ap (λ r. stops_at (take i sites) js counts ++ r) (sym (no_row (get_or sites i 0) js counts (subst (λ es. length es ≤ length (taken_of js counts (get_or sites i 0))) (sym (journal_none (get_or sites i 0) js none)) (omega arith))))
    ∙ sym (stops_more sites js counts i l)

module _ (sites : List ℕ) (js : List Journal) (counts : List ℕ) (i : ℕ) (l : i < length sites) (once : OneEach js) (each : length counts ≡ length js)
    (site k at : ℕ) (j : Journal) (site_read : site ≡ get_or sites i site) (lk : k < length js) (here : j ≡ get_or js k j) (is_site : j.site ≡ site) (read : at ≡ get_or counts k 0) where
  is : j.site ≡ get_or sites i 0
  is = is_site ∙ get_or_read sites i site l site_read 0

  same : get_or sites i 0 ≡ site
  same = sym (get_or_read sites i site l site_read 0)

  taken_is : taken_of js counts (get_or sites i 0) ≡ take at j.entries
  taken_is = ap (taken_of js counts) (sym is) ∙ taken_here js counts k j once each lk here ∙ ap (λ n. take n j.entries) (sym read)

  journal_is : journal_of js (get_or sites i 0) ≡ j.entries
  journal_is = ap (journal_of js) (sym is) ∙ journal_here js k j once lk here

  pub stops_row : (rows : List (ℕ × ℕ)) → at < length j.entries → rows ≡ stops_at (take i sites) js counts → rows ++ (site, at + 1) ∷ [] ≡ stops_at (take (i + 1) sites) js counts
  stops_row rows room so_far =
      let long : length (taken_of js counts (get_or sites i 0)) ≡ at = ap length taken_is ∙ length-take-le at j.entries (omega arith) in
      let whole : length (journal_of js (get_or sites i 0)) ≡ length j.entries = ap length journal_is in
      ap (λ s. rows ++ (s, at + 1) ∷ []) (sym same) ∙ ap (λ r. r ++ (get_or sites i 0, at + 1) ∷ []) so_far
      ∙ ap (λ n. stops_at (take i sites) js counts ++ (get_or sites i 0, n + 1) ∷ []) (sym long)
      ∙ ap (λ r. stops_at (take i sites) js counts ++ r) (sym (one_row (get_or sites i 0) js counts (omega (arith, long, whole))))
      ∙ sym (stops_more sites js counts i l)

  pub stops_done : (rows : List (ℕ × ℕ)) → length j.entries ≤ at → rows ≡ stops_at (take i sites) js counts → rows ≡ stops_at (take (i + 1) sites) js counts
  stops_done rows past so_far =
      let long : length (taken_of js counts (get_or sites i 0)) ≡ length j.entries = ap length (taken_is ∙ take_all at j.entries past) in
      let whole : length (journal_of js (get_or sites i 0)) ≡ length j.entries = ap length journal_is in
      so_far ∙ sym (append-nil _)
      ∙ ap (λ r. stops_at (take i sites) js counts ++ r) (sym (no_row (get_or sites i 0) js counts (omega (arith, long, whole))))
      ∙ sym (stops_more sites js counts i l)

-- ---- what stands before the stops is what was taken

skip : (t : Bool) (x s : ℕ) (n : ℕ) (rows : List (ℕ × ℕ)) (es : List Entry) → (t ≡ true → x ≢ s) → before_stop ((if t then (x, n) ∷ [] else []) ++ rows) s es ≡ before_stop rows s es
skip true x s n rows es apart = ap (λ u. if u then take (n - 1) es else before_stop rows s es) (ne_eqb x s (apart refl))
skip false x s n rows es apart = refl

lt_from : (a b : ℕ) → nat_lt a b ≡ true → a < b
lt_from a b h = ltb-true a b h

before_done : (sites : List ℕ) (js : List Journal) (counts : List ℕ) (s : ℕ) (es : List Entry) → length (journal_of js s) ≤ length (taken_of js counts s) → before_stop (stops_at sites js counts) s es ≡ es
before_done [] js counts s es l = refl
before_done (x ∷ sites) js counts s es l =
    skip (nat_lt (length (taken_of js counts x)) (length (journal_of js x))) x s (length (taken_of js counts x) + 1) (stops_at sites js counts) es
    (λ h e. let less : length (taken_of js counts x) < length (journal_of js x) = lt_from (length (taken_of js counts x)) (length (journal_of js x)) h in
    lt_irrefl _ (lt_of_lt_of_le (subst (λ y. length (taken_of js counts y) < length (journal_of js y)) e less) l))
    ∙ before_done sites js counts s es l

before_row : (sites : List ℕ) (js : List Journal) (counts : List ℕ) (s : ℕ) (es : List Entry) (k : ℕ) → k < length sites → get_or sites k s ≡ s → length (taken_of js counts s) < length (journal_of js s) →
    before_stop (stops_at sites js counts) s es ≡ take (length (taken_of js counts s)) es
before_row [] js counts s es k l here room = absurd (omega arith)
before_row (x ∷ sites) js counts s es k l here room =
    ⊎_elim
    (λ e. let P : ℕ → Type 0 = λ y. before_stop (stops_at (y ∷ sites) js counts) s es ≡ take (length (taken_of js counts s)) es in
    subst P (sym e)
    (ap (λ t. before_stop ((if t then (s, length (taken_of js counts s) + 1) ∷ [] else []) ++ stops_at sites js counts) s es) (lt-ltb (length (taken_of js counts s)) (length (journal_of js s)) room)
    ∙ ap (λ u. if u then take (length (taken_of js counts s) + 1 - 1) es else before_stop (stops_at sites js counts) s es) (eq-eqb s s refl)
    ∙ ap (λ n. take n es) (back (length (taken_of js counts s)))))
    (λ ne. skip (nat_lt (length (taken_of js counts x)) (length (journal_of js x))) x s (length (taken_of js counts x) + 1) (stops_at sites js counts) es (λ h. ne)
    ∙ later k l here ne (λ q lq hq. before_row sites js counts s es q lq hq room))
    (cases_eq x s)
  where
    back : (n : ℕ) → n + 1 - 1 ≡ n
    back n = omega arith

    later : (k : ℕ) → k < length (x ∷ sites) → get_or (x ∷ sites) k s ≡ s → x ≢ s → ((q : ℕ) → q < length sites → get_or sites q s ≡ s → before_stop (stops_at sites js counts) s es ≡ take (length (taken_of js counts s)) es) → before_stop (stops_at sites js counts) s es ≡ take (length (taken_of js counts s)) es
    later zero l here ne more = absurd (ne here)
    later (suc q) l here ne more = more q (omega arith) here

-- the taken entries are the first so many of the journal
front : (xs ys : List Entry) → IsBeginningOf xs ys → take (length xs) ys ≡ xs
front xs ys p = ap (take (length xs)) (sym p.1) ∙ take_at xs p.0 (length xs) refl

pub before_is : (t : Topology) (js : List Journal) (counts : List ℕ) → IsSet t js → IsStuck t js counts → (s : ℕ) → before_stop (stops_at (sites_of t) js counts) s (journal_of js s) ≡ taken_of js counts s
before_is t js counts set stuck s =
    ⊎_elim
    (λ room. ⊎_elim
    (λ f. let known : Contains (sites_of t) s = subst (Contains (sites_of t)) f.4 (subst (λ (y : Journal). Contains (sites_of t) y.site) (sym f.3) ((set_parts t js set).known f.0 f.1 f.2)) in
    before_row (sites_of t) js counts s (journal_of js s) known.0 known.1 known.2 room ∙ front (taken_of js counts s) (journal_of js s) (stuck.within s))
    (λ none. let h : length (journal_of js s) ≡ 0 = ap length none in absurd (omega (arith, h, room)))
    (found js s))
    (λ past. before_done (sites_of t) js counts s (journal_of js s) past ∙ sym (take_all (length (taken_of js counts s)) (journal_of js s) past) ∙ front (taken_of js counts s) (journal_of js s) (stuck.within s))
    (cases_lt (length (taken_of js counts s)) (length (journal_of js s)))

-- ---- the rows themselves

map_if : (t : Bool) (x n : ℕ) (rows : List (ℕ × ℕ)) (sites : List ℕ) → map (λ (r : ℕ × ℕ). r.0) rows ≡ sites → map (λ (r : ℕ × ℕ). r.0) ((if t then (x, n) ∷ [] else []) ++ rows) ≡ cond t (x ∷ sites) sites
map_if true x n rows sites h = ap (λ l. x ∷ l) h
map_if false x n rows sites h = h

sites_of_rows : (sites : List ℕ) (js : List Journal) (counts : List ℕ) → map (λ (r : ℕ × ℕ). r.0) (stops_at sites js counts) ≡ filter (λ s. nat_lt (length (taken_of js counts s)) (length (journal_of js s))) sites
sites_of_rows [] js counts = refl
sites_of_rows (x ∷ sites) js counts =
    map_if (nat_lt (length (taken_of js counts x)) (length (journal_of js x))) x (length (taken_of js counts x) + 1) (stops_at sites js counts) _ (sites_of_rows sites js counts)

abbrev pub IsUnfinished : List Journal → ℕ × ℕ → Type 0
IsUnfinished js stop = (1 ≤ stop.1) × (stop.1 ≤ length (journal_of js stop.0))

unfinished_if : (t : Bool) (js : List Journal) (x n : ℕ) (rows : List (ℕ × ℕ)) → (t ≡ true → IsUnfinished js (x, n)) → AllByRecursion (IsUnfinished js) rows → AllByRecursion (IsUnfinished js) ((if t then (x, n) ∷ [] else []) ++ rows)
unfinished_if true js x n rows h all = (h refl, all)
unfinished_if false js x n rows h all = all

unfinished_rows : (sites : List ℕ) (js : List Journal) (counts : List ℕ) → AllByRecursion (IsUnfinished js) (stops_at sites js counts)
unfinished_rows [] js counts = tt
unfinished_rows (x ∷ sites) js counts =
    unfinished_if (nat_lt (length (taken_of js counts x)) (length (journal_of js x))) js x (length (taken_of js counts x) + 1) (stops_at sites js counts)
    (λ h. let less : length (taken_of js counts x) < length (journal_of js x) = lt_from (length (taken_of js counts x)) (length (journal_of js x)) h in (omega arith, omega (arith, less)))
    (unfinished_rows sites js counts)

pub are_stops : (t : Topology) (js : List Journal) (counts : List ℕ) → IsStrictlyIncreasing (sites_of t) → IsSet t js → IsStuck t js counts → 0 < length (stops_at (sites_of t) js counts) → AreStops t js (stops_at (sites_of t) js counts)
are_stops t js counts rising set stuck some = record {
  some = some;
  ascending = subst IsStrictlyIncreasing (sym (sites_of_rows (sites_of t) js counts)) (IsStrictlyIncreasing-filter (λ s. nat_lt (length (taken_of js counts s)) (length (journal_of js s))) (sites_of t) rising);
  unfinished = All-from_recursion (IsUnfinished js) (stops_at (sites_of t) js counts) (unfinished_rows (sites_of t) js counts);
  comes = (stuck.comes.0, stuck.comes.1, λ site. stuck.comes.2 site ∙ sym (before_is t js counts set stuck site));
  most = λ run is_run within site. subst (λ es. length (entries_of site run) ≤ length es) (sym (before_is t js counts set stuck site))
      (length-beginning _ _ (confluence t (journal_of js) (taken_of js counts) run stuck.within stuck.stuck is_run within site));
}

-- no stop: the journals come from a run
pub come_from : (t : Topology) (js : List Journal) (counts : List ℕ) → IsSet t js → IsStuck t js counts → stops_at (sites_of t) js counts ≡ [] → ComeFromRun t (journal_of js)
come_from t js counts set stuck none =
    (stuck.comes.0, stuck.comes.1, λ site. stuck.comes.2 site ∙ sym (before_is t js counts set stuck site) ∙ ap (λ rows. before_stop rows site (journal_of js site)) none)

-- journals that stop come from no run
pub stops_refuse : (t : Topology) (js : List Journal) (stops : List (ℕ × ℕ)) → AreStops t js stops → ComeFromRun t (journal_of js) → ⊥
stops_refuse t js [] are come = lt_irrefl 0 are.some
stops_refuse t js (stop ∷ stops) are come =
    let u : IsUnfinished js stop = are.unfinished 0 stop (omega arith) in
    let all : length (entries_of stop.0 come.0) ≡ length (journal_of js stop.0) = ap length (come.2 stop.0) in
    let bound : length (entries_of stop.0 come.0) ≤ length (before_stop (stop ∷ stops) stop.0 (journal_of js stop.0)) =
    are.most come.0 come.1 (λ site. ([], append-nil _ ∙ come.2 site)) stop.0 in
    let cut : before_stop (stop ∷ stops) stop.0 (journal_of js stop.0) ≡ take (stop.1 - 1) (journal_of js stop.0) =
    ap (λ t. if t then take (stop.1 - 1) (journal_of js stop.0) else before_stop stops stop.0 (journal_of js stop.0)) (eq-eqb stop.0 stop.0 refl) in
    let short : length (before_stop (stop ∷ stops) stop.0 (journal_of js stop.0)) ≡ stop.1 - 1 = ap length cut ∙ length-take-le (stop.1 - 1) (journal_of js stop.0) (omega (arith, u)) in
    let low = u.0 in let high = u.1 in
    absurd (omega (arith, all, bound, short, low, high))

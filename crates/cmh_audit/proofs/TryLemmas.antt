-- The looks of a merge: each entry that was taken, and each at which a site stops, was looked at.
use Rattle.std.proofs.Common.{◌≡◌, ◌≢◌, ℕ, zero, suc, ◌+◌, ◌<◌, ◌≤◌, List, [], ◌∷◌, ◌++◌, length, map, take, take_all, set, replicate, get_or, inl, inr, ⊎_elim, sym, ap, subst, refl, ◌∙◌, if◌then◌else◌, arith, length-append, length-take-le}
use Rattle.std.specs.Prelude.{Contains, nat_lt}
use Rattle.std.specs.List.{AllByRecursion}
use Rattle.std.proofs.lemmas.List.Elements.{recursion_from_All}
use Rattle.std.proofs.lemmas.Bool.{cases_eq, cases_lt, cases_Bool, ltb-true, ltb-false}
use Rattle.std.proofs.lemmas.List.{take_more, get_or_default, get_or-set_same, get_or-set_other}
use Rattle.cmh_frames.proofs.Members.{no_member}
use Rattle.cmh_frames.specs.Topology.{Topology, sites_of}
use Rattle.cmh_frames.specs.Entries.{Entry}
use Rattle.cmh_journal.specs.Journal.{Journal}
use Rattle.cmh_audit.specs.Journals.{journal_of, entry_count}
use Rattle.cmh_audit.specs.Inner.Places.{OneEach}
use Rattle.cmh_audit.specs.Inner.Merging.{taken_of, IsStuck, total, sent_by, AreTried}
use Rattle.cmh_audit.specs.Sums.{in_entries}
use Rattle.cmh_audit.specs.Transit.{sent_count}
use Rattle.cmh_audit.specs.Inner.Ready.{ArePlaces}
use Rattle.cmh_audit.specs.Set.{IsSet}
use Rattle.cmh_audit.proofs.SetLemmas.{set_parts}
use Rattle.cmh_audit.specs.Stops.{before_stop}
use Rattle.cmh_audit.specs.Inner.FoundStops.{stops_at}
use Rattle.cmh_audit.specs.Verdicts.{entries_before, sent_before}
use Rattle.cmh_audit.proofs.CountLemmas.{total-set, total-none, taken_here, journal_here, found}
use Rattle.cmh_audit.proofs.CountingLemmas.{Fresh, Apart, without, without_length, without_keeps, few_journals}
use Rattle.cmh_cycles.proofs.Members.{contains_left, contains_last, contains_push}
use Rattle.cmh_audit.proofs.StopLemmas.{before_is}

-- an entry more of the journal at i
sent-set : (js : List Journal) (counts : List ℕ) (i : ℕ) (j : Journal) (e : Entry) → length counts ≡ length js → i < length js → j ≡ get_or js i j → e ≡ get_or j.entries (get_or counts i 0) e → get_or counts i 0 < length j.entries
    → sent_by js (set counts i (get_or counts i 0 + 1)) ≡ sent_by js counts + length e.sent
sent-set [] counts i j e each l here is room = absurd (omega arith)
sent-set (x ∷ js) [] i j e each l here is room = absurd (omega arith)
sent-set (x ∷ js) (n ∷ counts) zero j e each l here is room =
    let step : take (n + 1) x.entries ≡ take n x.entries ++ e ∷ [] = subst (λ (y : Journal). take (n + 1) y.entries ≡ take n y.entries ++ e ∷ []) here (take_more j.entries n e room ∙ ap (λ z. take n j.entries ++ z ∷ []) (sym is)) in
    let sum = ap (in_entries sent_count) step ∙ sum_push (take n x.entries) e in
    omega (arith, sum)
  where
    sum_push : (es : List Entry) (e : Entry) → in_entries sent_count (es ++ e ∷ []) ≡ in_entries sent_count es + length e.sent
    sum_push [] e = omega arith
    sum_push (y ∷ es) e = let h = sum_push es e in omega (arith, h)
sent-set (x ∷ js) (n ∷ counts) (suc i) j e each l here is room = let h = sent-set js counts i j e (omega arith) (omega arith) here is room in omega (arith, h)

none_taken : (n k : ℕ) → ◌≡◌ {A = ℕ} (get_or (replicate n 0) k 0) 0
none_taken zero k = refl
none_taken (suc n) zero = refl
none_taken (suc n) (suc k) = none_taken n k

-- at first no look was made, and all are on the list
pub tried_start : (js : List Journal) (ready : List ℕ) → ArePlaces ready (length js) → AreTried js (replicate (length js) 0) ready 0
tried_start js ready places = record {
  failed = [];
  passed = [];
  within = λ k j l here. let z = none_taken (length js) k in omega (arith, z);
  all = let none = total-none (length js) in omega (arith, none);
  caused = let n = places.long in omega (arith, n);
  each = λ k j l here. inl (places.each k l);
}

-- the journal at a place
same_journal : (js : List Journal) (i k : ℕ) (j x : Journal) → k ≡ i → i < length js → j ≡ get_or js i j → x ≡ get_or js k x → j ≡ x
same_journal js i k j x q l here at = here ∙ ap (λ n. get_or js n j) (sym q) ∙ get_or_default js k j x (subst (λ n. n < length js) (sym q) l) ∙ sym at

-- a look failed
pub tried_failed : (js : List Journal) (counts ready : List ℕ) (tries i : ℕ) (j : Journal) → AreTried js counts (ready ++ i ∷ []) tries → i < length js → j ≡ get_or js i j → get_or counts i 0 < length j.entries → AreTried js counts ready (tries + 1)
tried_failed js counts ready tries i j old l here room = record {
  failed = old.failed ++ j.site ∷ [];
  passed = old.passed;
  within = old.within;
  all = let a = old.all in let n = length-append old.failed (j.site ∷ []) in omega (arith, a, n);
  caused = let a = old.caused in let n = length-append ready (i ∷ []) in omega (arith, a, n);
  each = λ k x lk at. ⊎_elim
      (λ c. ⊎_elim
      (λ d. inl d)
      (λ (q : k ≡ i).
      let same = same_journal js i k j x q l here at in
      inr (inr (
        subst (λ (y : Journal). Contains (old.failed ++ j.site ∷ []) y.site) same (contains_last old.failed j.site),
        subst (λ (y : Journal). get_or counts k 0 < length y.entries) same (subst (λ n. get_or counts n 0 < length j.entries) (sym q) room),
      )))
      (contains_push ready i k c))
      (λ r. inr (⊎_elim (λ past. inl past) (λ f. inr (contains_left old.failed (j.site ∷ []) x.site f.0, f.1)) r))
      (old.each k x lk at);
}

-- the journal is whole: that is no look
pub tried_whole : (js : List Journal) (counts ready : List ℕ) (tries i : ℕ) (j : Journal) → AreTried js counts (ready ++ i ∷ []) tries → i < length js → j ≡ get_or js i j → length j.entries ≤ get_or counts i 0 → AreTried js counts ready tries
tried_whole js counts ready tries i j old l here past = record {
  failed = old.failed;
  passed = old.passed ++ j.site ∷ [];
  within = old.within;
  all = old.all;
  caused = let a = old.caused in let n = length-append ready (i ∷ []) in let m = length-append old.passed (j.site ∷ []) in omega (arith, a, n, m);
  each = λ k x lk at. ⊎_elim
      (λ c. ⊎_elim
      (λ d. inl d)
      (λ (q : k ≡ i).
      let same = same_journal js i k j x q l here at in
      inr (inl (
        subst (λ (y : Journal). Contains (old.passed ++ j.site ∷ []) y.site) same (contains_last old.passed j.site),
        subst (λ (y : Journal). length y.entries ≤ get_or counts k 0) same (subst (λ n. length j.entries ≤ get_or counts n 0) (sym q) past),
      )))
      (contains_push ready i k c))
      (λ r. inr (⊎_elim (λ p. inl (contains_left old.passed (j.site ∷ []) x.site p.0, p.1)) (λ f. inr f) r))
      (old.each k x lk at);
}

-- an entry was taken, and its site came back to the list, with no more others than frames were sent
pub tried_took : (js : List Journal) (counts first ready : List ℕ) (tries i : ℕ) (j : Journal) (e : Entry) → AreTried js counts (first ++ i ∷ []) tries → ((k : ℕ) → Contains first k → Contains ready k) → Contains ready i →
    length counts ≡ length js → i < length js → j ≡ get_or js i j → e ≡ get_or j.entries (get_or counts i 0) e → get_or counts i 0 < length j.entries → length ready ≤ length first + length e.sent + 1 → AreTried js (set counts i (get_or counts i 0 + 1)) ready (tries + 1)
tried_took js counts first ready tries i j e old kept back each l here is room few = record {
  failed = old.failed;
  passed = old.passed;
  within = λ k x lk at. ⊎_elim
      (λ (q : k ≡ i).
      let same = same_journal js i k j x q l here at in
      let now : get_or (set counts i (get_or counts i 0 + 1)) k 0 ≡ get_or counts i 0 + 1 = ap (λ n. get_or (set counts i (get_or counts i 0 + 1)) n 0) q ∙ get_or-set_same counts i (get_or counts i 0 + 1) 0 (subst (λ n. i < n) (sym each) l) in
      subst (λ (y : Journal). get_or (set counts i (get_or counts i 0 + 1)) k 0 ≤ length y.entries) same (omega (arith, now, room)))
      (λ (ne : k ≢ i). subst (λ n. n ≤ length x.entries) (sym (get_or-set_other counts i k (get_or counts i 0 + 1) 0 ne)) (old.within k x lk at))
      (cases_eq k i);
  all = let a = old.all in let t = total-set counts i (subst (λ n. i < n) (sym each) l) in omega (arith, a, t);
  caused = let a = old.caused in let t = total-set counts i (subst (λ n. i < n) (sym each) l) in let s = sent-set js counts i j e each l here is room in let n = length-append first (i ∷ []) in omega (arith, a, t, s, n, few);
  each = λ k x lk at. ⊎_elim
      (λ (q : k ≡ i). inl (subst (Contains ready) (sym q) back))
      (λ (ne : k ≢ i).
      let same = sym (get_or-set_other counts i k (get_or counts i 0 + 1) 0 ne) in
      ⊎_elim
      (λ c. ⊎_elim (λ d. inl (kept k d)) (λ (q : k ≡ i). absurd (ne q)) (contains_push first i k c))
      (λ r. inr (⊎_elim (λ p. inl (p.0, subst (λ n. length x.entries ≤ n) same p.1)) (λ f. inr (f.0, subst (λ n. n < length x.entries) same f.1)) r))
      (old.each k x lk at))
      (cases_eq k i);
}

-- ---- what that is at the end

-- the entries before the stops are no more than were taken
fewer : (rows : List (ℕ × ℕ)) (js : List Journal) (counts : List ℕ) → length counts ≡ length js → ((k : ℕ) (j : Journal) → k < length js → j ≡ get_or js k j → length (before_stop rows j.site j.entries) ≤ get_or counts k 0) → entries_before rows js ≤ total counts
fewer rows [] counts each below = omega arith
fewer rows (x ∷ js) [] each below = absurd (omega arith)
fewer rows (x ∷ js) (n ∷ counts) each below =
    let one : length (before_stop rows x.site x.entries) ≤ n = below 0 x (omega arith) refl in
    let more = fewer rows js counts (omega arith) (λ k j l here. below (suc k) j (omega arith) here) in
    omega (arith, one, more)

-- a site that stops has a look that failed
stops_tried : (js : List Journal) (counts : List ℕ) (tries : ℕ) (tried : AreTried js counts [] tries) → OneEach js → length counts ≡ length js → (s : ℕ) → length (taken_of js counts s) < length (journal_of js s) → Contains tried.failed s
stops_tried js counts tries tried one each s room = ⊎_elim
    (λ f.
    let taken : length (taken_of js counts s) ≡ length (take (get_or counts f.0 0) f.1.entries) = ap (λ n. length (taken_of js counts n)) (sym f.4) ∙ ap length (taken_here js counts f.0 f.1 one each f.2 f.3) in
    let whole : length (journal_of js s) ≡ length f.1.entries = ap (λ n. length (journal_of js n)) (sym f.4) ∙ ap length (journal_here js f.0 f.1 one f.2 f.3) in
    ⊎_elim
    (λ c. absurd (no_member f.0 c))
    (λ r. ⊎_elim
    (λ p. let past = p.1 in absurd (let n = long (get_or counts f.0 0) f.1.entries past in omega (arith, n, taken, whole, room)))
    (λ c. subst (Contains tried.failed) f.4 c.0)
    r)
    (tried.each f.0 f.1 f.2 f.3))
    (λ none. let h : length (journal_of js s) ≡ 0 = ap length none in absurd (omega (arith, h, room)))
    (found js s)
  where
    long : (n : ℕ) (es : List Entry) → length es ≤ n → length (take n es) ≡ length es
    long n es past = ap length (take_all n es past)

-- of sites that are apart, no more stop than looks failed
few_stops : (js : List Journal) (counts : List ℕ) (sites failed : List ℕ) → Apart sites → AllByRecursion (λ s. length (taken_of js counts s) < length (journal_of js s) → Contains failed s) sites → length (stops_at sites js counts) ≤ length failed
few_stops js counts [] failed apart all = omega arith
few_stops js counts (x ∷ sites) failed apart all = elim (cases_Bool (nat_lt (length (taken_of js counts x)) (length (journal_of js x)))) [
  | inl stops ↦
      let row = ap (λ t. length ((if t then (x, length (taken_of js counts x) + 1) ∷ [] else []) ++ stops_at sites js counts)) stops in
      let n = without_length x failed (all.0 (ltb-true (length (taken_of js counts x)) (length (journal_of js x)) stops)) in
      let more = few_stops js counts sites (without x failed) apart.1 (rest sites apart.0 all.1) in
      omega (arith, row, n, more)
  | inr goes_on ↦
      let none = ap (λ t. length ((if t then (x, length (taken_of js counts x) + 1) ∷ [] else []) ++ stops_at sites js counts)) goes_on in
      let more = few_stops js counts sites failed apart.1 all.1 in
      omega (arith, none, more)
]
  where
    rest : (sites : List ℕ) → Fresh x sites → AllByRecursion (λ s. length (taken_of js counts s) < length (journal_of js s) → Contains failed s) sites → AllByRecursion (λ s. length (taken_of js counts s) < length (journal_of js s) → Contains (without x failed) s) sites
    rest [] fresh all = tt
    rest (s ∷ sites) fresh all = ((λ room. without_keeps x s failed fresh.0 (all.0 room)), rest sites fresh.1 all.1)

-- so the looks are at least the entries before the stops, and the stops
pub looks_made : (t : Topology) (js : List Journal) (counts : List ℕ) (tries : ℕ) → Apart (sites_of t) → IsSet t js → IsStuck t js counts → AreTried js counts [] tries →
    entries_before (stops_at (sites_of t) js counts) js + length (stops_at (sites_of t) js counts) ≤ tries
looks_made t js counts tries apart set stuck tried =
    let taken = fewer (stops_at (sites_of t) js counts) js counts stuck.each below in
    let stops = few_stops js counts (sites_of t) tried.failed apart (all (sites_of t)) in
    let a = tried.all in
    omega (arith, taken, stops, a)
  where
    below : (k : ℕ) (j : Journal) → k < length js → j ≡ get_or js k j → length (before_stop (stops_at (sites_of t) js counts) j.site j.entries) ≤ get_or counts k 0
    below k j l here =
        let is : before_stop (stops_at (sites_of t) js counts) j.site j.entries ≡ take (get_or counts k 0) j.entries =
        ap (before_stop (stops_at (sites_of t) js counts) j.site) (sym (journal_here js k j (set_parts t js set).once l here)) ∙ before_is t js counts set stuck j.site ∙ taken_here js counts k j (set_parts t js set).once stuck.each l here in
        let n = ap length is in
        let short = at_most (get_or counts k 0) j.entries in
        omega (arith, n, short)
      where
        at_most : (n : ℕ) (es : List Entry) → length (take n es) ≤ n
        at_most n es = ⊎_elim
            (λ l. let is = length-take-le n es (omega (arith, l)) in omega (arith, is))
            (λ past. let is = ap length (take_all n es past) in omega (arith, is, past))
            (cases_lt n (length es))

    all : (sites : List ℕ) → AllByRecursion (λ s. length (taken_of js counts s) < length (journal_of js s) → Contains tried.failed s) sites
    all [] = tt
    all (s ∷ sites) = (stops_tried js counts tries tried (set_parts t js set).once stuck.each s, all sites)

-- without a stop the entries are all
pub no_stops : (js : List Journal) → entries_before [] js ≡ entry_count js
no_stops [] = refl
no_stops (x ∷ js) = ap (λ n. length x.entries + n) (no_stops js)

-- ---- and no more than were caused

-- the entries taken are those before the stops, and so are the frames that they sent
taken_before : (rows : List (ℕ × ℕ)) (js : List Journal) (counts : List ℕ) → length counts ≡ length js → ((k : ℕ) (j : Journal) → k < length js → j ≡ get_or js k j → (before_stop rows j.site j.entries ≡ take (get_or counts k 0) j.entries) × (get_or counts k 0 ≤ length j.entries))
    → (total counts ≡ entries_before rows js) × (sent_by js counts ≡ sent_before rows js)
taken_before rows [] [] each is = (refl, refl)
taken_before rows [] (n ∷ counts) each is = absurd (omega arith)
taken_before rows (x ∷ js) [] each is = absurd (omega arith)
taken_before rows (x ∷ js) (n ∷ counts) each is =
    let one = is 0 x (omega arith) refl in
    let short : length (take n x.entries) ≡ n = length-take-le n x.entries one.1 in
    let long = ap length one.0 in
    let sent = ap (in_entries sent_count) one.0 in
    let more = taken_before rows js counts (omega arith) (λ k j l here. is (suc k) j (omega arith) here) in
    let first = more.0 in let second = more.1 in
    (omega (arith, short, long, first), omega (arith, sent, second))

-- of sites that are apart, each stops or went from the list whole
few_passed : (js : List Journal) (counts : List ℕ) (sites passed : List ℕ) → Apart sites → AllByRecursion (λ s. (length (journal_of js s) ≤ length (taken_of js counts s)) → Contains passed s) sites → length sites ≤ length (stops_at sites js counts) + length passed
few_passed js counts [] passed apart all = omega arith
few_passed js counts (x ∷ sites) passed apart all = elim (cases_Bool (nat_lt (length (taken_of js counts x)) (length (journal_of js x)))) [
  | inl stops ↦
      let row = ap (λ t. length ((if t then (x, length (taken_of js counts x) + 1) ∷ [] else []) ++ stops_at sites js counts)) stops in
      let more = few_passed js counts sites passed apart.1 all.1 in
      omega (arith, row, more)
  | inr goes_on ↦
      let none = ap (λ t. length ((if t then (x, length (taken_of js counts x) + 1) ∷ [] else []) ++ stops_at sites js counts)) goes_on in
      let n = without_length x passed (all.0 (ltb-false (length (taken_of js counts x)) (length (journal_of js x)) goes_on)) in
      let more = few_passed js counts sites (without x passed) apart.1 (rest sites apart.0 all.1) in
      omega (arith, none, n, more)
]
  where
    rest : (sites : List ℕ) → Fresh x sites → AllByRecursion (λ s. (length (journal_of js s) ≤ length (taken_of js counts s)) → Contains passed s) sites → AllByRecursion (λ s. (length (journal_of js s) ≤ length (taken_of js counts s)) → Contains (without x passed) s) sites
    rest [] fresh all = tt
    rest (s ∷ sites) fresh all = ((λ whole. without_keeps x s passed fresh.0 (all.0 whole)), rest sites fresh.1 all.1)

-- the journal of a site of the set
site_at : (js : List Journal) (s i : ℕ) → i < length (map (λ (j : Journal). j.site) js) → get_or (map (λ (j : Journal). j.site) js) i s ≡ s → (k : ℕ) × (j : Journal) × (k < length js) × (j ≡ get_or js k j) × (j.site ≡ s)
site_at [] s i l e = absurd (omega arith)
site_at (y ∷ js) s zero l e = (0, y, omega arith, refl, e)
site_at (y ∷ js) s (suc i) l e = let f = site_at js s i (omega arith) e in let inside = f.2 in (suc f.0, f.1, omega (arith, inside), f.3, f.4)

-- a site without a stop went from the list whole
whole_passed : (js : List Journal) (counts : List ℕ) (tries : ℕ) (tried : AreTried js counts [] tries) → OneEach js → length counts ≡ length js → (s : ℕ) → Contains (map (λ (j : Journal). j.site) js) s → length (journal_of js s) ≤ length (taken_of js counts s) → Contains tried.passed s
whole_passed js counts tries tried one each s known whole =
    let f = site_at js s known.0 known.1 known.2 in
    let taken : length (taken_of js counts s) ≡ length (take (get_or counts f.0 0) f.1.entries) = ap (λ n. length (taken_of js counts n)) (sym f.4) ∙ ap length (taken_here js counts f.0 f.1 one each f.2 f.3) in
    let all : length (journal_of js s) ≡ length f.1.entries = ap (λ n. length (journal_of js n)) (sym f.4) ∙ ap length (journal_here js f.0 f.1 one f.2 f.3) in
    ⊎_elim
    (λ c. absurd (no_member f.0 c))
    (λ r. ⊎_elim
    (λ p. subst (Contains tried.passed) f.4 p.0)
    (λ g. let less = g.1 in absurd (let n = length-take-le (get_or counts f.0 0) f.1.entries (omega (arith, less)) in omega (arith, n, taken, all, whole, less)))
    r)
    (tried.each f.0 f.1 f.2 f.3)

-- so the looks are at most the entries before the stops, the stops, and the frames that those entries sent
pub few_looks : (t : Topology) (js : List Journal) (counts : List ℕ) (tries : ℕ) → Apart (sites_of t) → IsSet t js → IsStuck t js counts → AreTried js counts [] tries →
    tries ≤ (entries_before (stops_at (sites_of t) js counts) js + length (stops_at (sites_of t) js counts)) + sent_before (stops_at (sites_of t) js counts) js
few_looks t js counts tries apart set stuck tried =
    let rows = stops_at (sites_of t) js counts in
    let b = taken_before rows js counts stuck.each (λ k j l here. (
      ap (before_stop rows j.site) (sym (journal_here js k j (set_parts t js set).once l here)) ∙ before_is t js counts set stuck j.site ∙ taken_here js counts k j (set_parts t js set).once stuck.each l here,
      tried.within k j l here,
    )) in
    let present = recursion_from_All (λ s. Contains (map (λ (j : Journal). j.site) js) s) (sites_of t) (set_parts t js set).present in
    let whole = few_passed js counts (sites_of t) tried.passed apart (all (sites_of t) present) in
    let few = few_journals js (sites_of t) (set_parts t js set).once (recursion_from_All (λ (j : Journal). Contains (sites_of t) j.site) js (set_parts t js set).known) in
    let caused = tried.caused in
    let taken = b.0 in let sent = b.1 in
    omega (arith, whole, few, caused, taken, sent)
  where
    all : (sites : List ℕ) → AllByRecursion (λ s. Contains (map (λ (j : Journal). j.site) js) s) sites → AllByRecursion (λ s. (length (journal_of js s) ≤ length (taken_of js counts s)) → Contains tried.passed s) sites
    all [] present = tt
    all (s ∷ sites) present = (whole_passed js counts tries tried (set_parts t js set).once stuck.each s present.0, all sites present.1)

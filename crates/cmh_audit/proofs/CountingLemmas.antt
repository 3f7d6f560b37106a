-- Counts over journals and links.
use Rattle.std.proofs.Common.{◌≡◌, ◌≢◌, ℕ, zero, suc, ◌+◌, ◌*◌, ◌<◌, ◌≤◌, ◌^◌, ◌==◌, Bool, true, false, List, [], ◌∷◌, ◌++◌, length, take, get_or, Some, ⊎_elim, sym, ap, subst, refl, ◌∙◌, if◌then◌else◌, arith, length-append, lt_of_lt_of_le}
use Rattle.std.proofs.lemmas.Bool.{cases_eq, eq-eqb, ne_eqb}
use Rattle.std.proofs.lemmas.List.{take_more}
use Rattle.std.proofs.lemmas.List.Elements.{All-push}
use Rattle.std.proofs.lemmas.List.Kept.{AllPairs-from_increasing}
use Rattle.std.specs.Prelude.{Contains}
use Rattle.std.specs.List.{AllPairs, AllByRecursion, sum_by}
use Rattle.std.proofs.lemmas.List.Sums.{sum_by-cons}
use Rattle.std.specs.List.Sorted.{IsStrictlyIncreasing}
use Rattle.cmh_frames.proofs.Members.{no_member}
use Rattle.cmh_frames.specs.declared.frame.Frame.{Frame}
use Rattle.cmh_frames.specs.declared.edition.Edition.{Edition}
use Rattle.cmh_frames.specs.declared.edition.Edition.TheVariants.{One, Two}
use Rattle.cmh_frames.specs.Wire.{spelling}
use Rattle.cmh_frames.specs.Entries.{Entry}
use Rattle.cmh_frames.specs.Journals.{frames_to, sendings_of}
use Rattle.cmh_frames.specs.Topology.{Topology, sites_of}
use Rattle.cmh_frames.specs.Entries.{WorldEvent}
use Rattle.cmh_frames.specs.Laws.{count_of}
use Rattle.cmh_frames.specs.Runs.{under_way}
use Rattle.cmh_frames.specs.Settling.{under_way_in_all}
use Rattle.cmh_journal.specs.Journal.{Journal, entry_limit}
use Rattle.cmh_journal.specs.Entries.{event_spelling, length_bytes, IsWhole}
use Rattle.cmh_journal.specs.Inner.Parts.{sendings_spelling, declaration_spelling}
use Rattle.cmh_audit.specs.Journals.{journal_of, entry_count, NoneAt}
use Rattle.cmh_audit.specs.Inner.Places.{OneEach}
use Rattle.cmh_audit.specs.Sums.{in_entries, in_journals}
use Rattle.cmh_audit.specs.Totals.{AreWithinLimit}
use Rattle.cmh_audit.specs.Transit.{sent_count}
use Rattle.cmh_cycles.proofs.Members.{contains_rest}

-- ---- entries

count-append : (xs ys : List Journal) → entry_count (xs ++ ys) ≡ entry_count xs + entry_count ys
count-append [] ys = omega arith
count-append (x ∷ xs) ys = let h = count-append xs ys in omega (arith, h)

pub count_more : (js : List Journal) (i : ℕ) (j : Journal) → i < length js → j ≡ get_or js i j → entry_count (take (i + 1) js) ≡ entry_count (take i js) + length j.entries
count_more js i j l here =
    let e : entry_count (take (i + 1) js) ≡ entry_count (take i js ++ j ∷ []) = ap entry_count (take_more js i j l ∙ ap (λ x. take i js ++ x ∷ []) (sym here)) in
    let f = count-append (take i js) (j ∷ []) in omega (arith, e, f)

-- ---- frames in whole entries

behind : (n : ℕ) (xs ys : List ℕ) → length ys < length (n ∷ (xs ++ ys))
behind n xs ys = let a = length-append xs ys in omega (arith, a)

abbrev after_first : List ℕ → List ℕ
after_first [] = []
after_first (x ∷ xs) = xs

sendings_long : (sent : List (ℕ × Frame)) → length sent ≤ length (sendings_spelling sent)
sendings_long [] = omega arith
sendings_long (x ∷ xs) =
    let h = sendings_long xs in
    let a : length (spelling x.1 ++ sendings_spelling xs) < length (sendings_spelling (x ∷ xs)) = behind 5 (after_first (declaration_spelling (Some x.0))) (spelling x.1 ++ sendings_spelling xs) in
    let b = length-append (spelling x.1) (sendings_spelling xs) in
    omega (arith, h, a, b)

few_bytes : (edition : Edition) → 256 ^ length_bytes edition ≤ 2 ^ 32
few_bytes One = omega arith
few_bytes Two = omega arith

sent_few : (edition : Edition) (e : Entry) → IsWhole edition e → sent_count e ≤ 2 ^ 32
sent_few edition e whole =
    let h = sendings_long e.sent in
    let a = length-append (event_spelling e.event) (sendings_spelling e.sent ++ declaration_spelling e.declared) in
    let b = length-append (sendings_spelling e.sent) (declaration_spelling e.declared) in
    let f : length (event_spelling e.event ++ (sendings_spelling e.sent ++ declaration_spelling e.declared)) < 2 ^ 32 = lt_of_lt_of_le whole.fits (few_bytes edition) in
    omega (arith, h, a, b, f)

pub entries_sent : (edition : Edition) (es : List Entry) → AllByRecursion (IsWhole edition) es → in_entries sent_count es ≤ length es * 2 ^ 32
entries_sent edition [] whole = omega arith
entries_sent edition (e ∷ es) whole =
    let one = sent_few edition e whole.0 in let more = entries_sent edition es whole.1 in omega (arith, one, more)

-- of the first i journals
pub record Counting (js : List Journal) (i count : ℕ) : Type 0 where
  pub entries : count ≡ entry_count js
  pub most : count ≤ i * 1000000
  pub within : AreWithinLimit js

pub counting_start : Counting [] 0 0
counting_start = record { entries = refl; most = omega arith; within = λ k d l. absurd (omega (arith, l)) }

pub counting_more : (js : List Journal) (i count : ℕ) (j : Journal) (n : ℕ) → i < length js → j ≡ get_or js i j → Counting (take i js) i count →
    n ≡ length j.entries → n ≤ entry_limit → Counting (take (i + 1) js) (i + 1) (count + n)
counting_more js i count j n l here so_far is few =
    let more = count_more js i j l here in
    let now = so_far.entries in let most = so_far.most in
    let next = take_more js i j l ∙ ap (λ y. take i js ++ y ∷ []) (sym here) in
    record {
      entries = omega (arith, is, more, now);
      most = omega (arith, most, few);
      within = subst AreWithinLimit (sym next) (All-push (λ (j : Journal). length j.entries ≤ entry_limit) (take i js) j so_far.within (omega (arith, is, few)));
    }

-- ---- sums over sites

abbrev pub sum_over : (ℕ → ℕ) → List ℕ → ℕ
sum_over f [] = 0
sum_over f (s ∷ sites) = f s + sum_over f sites

abbrev pub in_transit : Topology → List WorldEvent → ℕ
in_transit t events = sum_over (λ a. sum_over (λ b. length (under_way a b events)) (sites_of t)) (sites_of t)

all_counted : (fs : List Frame) → count_of (λ (f : Frame). true) fs ≡ length fs
all_counted [] = refl
all_counted (f ∷ fs) = let h = all_counted fs in omega (arith, h)

summed : (f g : ℕ → ℕ) (sites : List ℕ) → ((s : ℕ) → f s ≡ g s) → sum_by f sites ≡ sum_over g sites
summed f g [] h = refl
summed f g (s ∷ sites) h = let first = h s in let more = summed f g sites h in let all = sum_by-cons f s sites in omega (arith, first, more, all)

-- the frames that are under way in all are those in transit
pub transit_is : (t : Topology) (events : List WorldEvent) → under_way_in_all (λ f. true) t events ≡ in_transit t events
transit_is t events =
    summed (λ a. sum_by (λ b. count_of (λ (f : Frame). true) (under_way a b events)) (sites_of t)) (λ a. sum_over (λ b. length (under_way a b events)) (sites_of t)) (sites_of t)
    (λ a. summed (λ b. count_of (λ (f : Frame). true) (under_way a b events)) (λ b. length (under_way a b events)) (sites_of t) (λ b. all_counted (under_way a b events)))

sum_over-append : (f : ℕ → ℕ) (xs ys : List ℕ) → sum_over f (xs ++ ys) ≡ sum_over f xs + sum_over f ys
sum_over-append f [] ys = omega arith
sum_over-append f (x ∷ xs) ys = let h = sum_over-append f xs ys in omega (arith, h)

pub sum_more : (f : ℕ → ℕ) (sites : List ℕ) (i s : ℕ) → i < length sites → s ≡ get_or sites i s → sum_over f (take (i + 1) sites) ≡ sum_over f (take i sites) + f s
sum_more f sites i s l here =
    let e = ap (sum_over f) (take_more sites i s l ∙ ap (λ x. take i sites ++ x ∷ []) (sym here)) ∙ sum_over-append f (take i sites) (s ∷ []) in omega (arith, e)

pub sum_part : (f : ℕ → ℕ) (i : ℕ) (sites : List ℕ) → sum_over f (take i sites) ≤ sum_over f sites
sum_part f zero sites = omega arith
sum_part f (suc i) [] = omega arith
sum_part f (suc i) (x ∷ sites) = let h = sum_part f i sites in omega (arith, h)

pub sum_one : (f : ℕ → ℕ) (sites : List ℕ) (i s : ℕ) → i < length sites → s ≡ get_or sites i s → f s ≤ sum_over f sites
sum_one f sites i s l here = let m = sum_more f sites i s l here in let p = sum_part f (i + 1) sites in omega (arith, m, p)

pub sum_le : (f g : ℕ → ℕ) (sites : List ℕ) → ((s : ℕ) → f s ≤ g s) → sum_over f sites ≤ sum_over g sites
sum_le f g [] h = omega arith
sum_le f g (x ∷ sites) h = let a = h x in let b = sum_le f g sites h in omega (arith, a, b)

pub sum_same : (f g : ℕ → ℕ) (sites : List ℕ) → ((s : ℕ) → f s ≡ g s) → sum_over f sites ≡ sum_over g sites
sum_same f g [] h = refl
sum_same f g (x ∷ sites) h = let a = h x in let b = sum_same f g sites h in omega (arith, a, b)

pub sum_zero : (sites : List ℕ) → sum_over (λ s. 0) sites ≡ 0
sum_zero [] = refl
sum_zero (x ∷ sites) = let h = sum_zero sites in omega (arith, h)

-- no site of the list is x, and no two are one
abbrev pub Fresh : ℕ → List ℕ → Type 0
Fresh x [] = Unit {0}
Fresh x (y ∷ ys) = (x ≢ y) × Fresh x ys

abbrev pub Apart : List ℕ → Type 0
Apart [] = Unit {0}
Apart (x ∷ xs) = Fresh x xs × Apart xs

fresh_from : (x : ℕ) (ys : List ℕ) → ((k d : ℕ) → k < length ys → x < get_or ys k d) → Fresh x ys
fresh_from x [] h = tt
fresh_from x (y ∷ ys) h = ((λ e. let l = h 0 x (omega arith) in absurd (omega (arith, l, e))), fresh_from x ys (λ k d l. h (suc k) d (omega arith)))

apart_from : (xs : List ℕ) → AllPairs (λ x y. x < y) xs → Apart xs
apart_from [] h = tt
apart_from (x ∷ xs) h = (fresh_from x xs (λ k d l. h 0 (suc k) d (omega arith) (omega arith)), apart_from xs (λ i j d l m. h (suc i) (suc j) d (omega arith) (omega arith)))

pub ascending_apart : (xs : List ℕ) → IsStrictlyIncreasing xs → Apart xs
ascending_apart xs h = apart_from xs (AllPairs-from_increasing xs h)

-- what one site at most adds to a sum adds that to it
sum_fresh : (x c : ℕ) (f g : ℕ → ℕ) (sites : List ℕ) → Fresh x sites → ((s : ℕ) → f s ≤ (if x == s then c else 0) + g s) → sum_over f sites ≤ sum_over g sites
sum_fresh x c f g [] fresh h = omega arith
sum_fresh x c f g (s ∷ sites) fresh h =
    let a = h s in
    let z = ap (λ t. if t then c else 0) (ne_eqb x s fresh.0) in
    let b = sum_fresh x c f g sites fresh.1 h in
    omega (arith, a, z, b)

at_most : (t : Bool) (c : ℕ) → (if t then c else 0) ≤ c
at_most true c = omega arith
at_most false c = omega arith

sum_if : (x c : ℕ) (f g : ℕ → ℕ) (sites : List ℕ) → Apart sites → ((s : ℕ) → f s ≤ (if x == s then c else 0) + g s) → sum_over f sites ≤ c + sum_over g sites
sum_if x c f g [] apart h = omega arith
sum_if x c f g (s ∷ sites) apart h =
    ⊎_elim
    (λ (e : x ≡ s).
    let a = h s in
    let m = at_most (x == s) c in
    let b = sum_fresh x c f g sites (subst (λ y. Fresh y sites) (sym e) apart.0) h in
    omega (arith, a, m, b))
    (λ (ne : x ≢ s).
    let a = h s in
    let z = ap (λ t. if t then c else 0) (ne_eqb x s ne) in
    let b = sum_if x c f g sites apart.1 h in
    omega (arith, a, z, b))
    (cases_eq x s)

-- ---- the frames of all links are at most those that were sent

to_one : (x : ℕ × Frame) (xs : List (ℕ × Frame)) (b : ℕ) → length (frames_to b (x ∷ xs)) ≤ (if x.0 == b then 1 else 0) + length (frames_to b xs)
to_one x xs b = go (x.0 == b)
  where
    go : (t : Bool) → length (if t then x.1 ∷ frames_to b xs else frames_to b xs) ≤ (if t then 1 else 0) + length (frames_to b xs)
    go true = omega arith
    go false = omega arith

pub frames_sum : (sites : List ℕ) (xs : List (ℕ × Frame)) → Apart sites → sum_over (λ b. length (frames_to b xs)) sites ≤ length xs
frames_sum sites [] apart = let z = sum_zero sites in omega (arith, z)
frames_sum sites (x ∷ xs) apart =
    let h = frames_sum sites xs apart in
    let s = sum_if x.0 1 (λ b. length (frames_to b (x ∷ xs))) (λ b. length (frames_to b xs)) sites apart (to_one x xs) in
    omega (arith, h, s)

pub sum_over-plus : (f g : ℕ → ℕ) (sites : List ℕ) → sum_over (λ s. f s + g s) sites ≡ sum_over f sites + sum_over g sites
sum_over-plus f g [] = omega arith
sum_over-plus f g (x ∷ sites) = let h = sum_over-plus f g sites in omega (arith, h)

pub sendings_sum : (sites : List ℕ) (es : List Entry) → Apart sites → sum_over (λ b. length (sendings_of b es)) sites ≤ in_entries sent_count es
sendings_sum sites [] apart = let z = sum_zero sites in omega (arith, z)
sendings_sum sites (e ∷ es) apart =
    let h = sendings_sum sites es apart in
    let f = frames_sum sites e.sent apart in
    let same = sum_same (λ b. length (sendings_of b (e ∷ es))) (λ b. length (frames_to b e.sent) + length (sendings_of b es)) sites (λ b. length-append (frames_to b e.sent) (sendings_of b es)) in
    let plus = sum_over-plus (λ b. length (frames_to b e.sent)) (λ b. length (sendings_of b es)) sites in
    omega (arith, h, f, same, plus)

pub journals_sum : (f : Entry → ℕ) (sites : List ℕ) (js : List Journal) → Apart sites → sum_over (λ a. in_entries f (journal_of js a)) sites ≤ in_journals f js
journals_sum f sites [] apart = let z = sum_zero sites in omega (arith, z)
journals_sum f sites (j ∷ js) apart =
    let h = journals_sum f sites js apart in
    let s = sum_if j.site (in_entries f j.entries) (λ a. in_entries f (journal_of (j ∷ js) a)) (λ a. in_entries f (journal_of js a)) sites apart (λ a. go a (j.site == a)) in
    omega (arith, h, s)
  where
    go : (a : ℕ) (t : Bool) → in_entries f (if t then j.entries else journal_of js a) ≤ (if t then in_entries f j.entries else 0) + in_entries f (journal_of js a)
    go a true = omega arith
    go a false = omega arith

pub frames_bound : (sites : List ℕ) (js : List Journal) (queue : ℕ → ℕ → ℕ) → Apart sites → ((a b : ℕ) → queue a b ≤ length (sendings_of b (journal_of js a))) →
    sum_over (λ a. sum_over (λ b. queue a b) sites) sites ≤ in_journals sent_count js
frames_bound sites js queue apart few =
    let inner = sum_le (λ a. sum_over (λ b. queue a b) sites) (λ a. in_entries sent_count (journal_of js a)) sites
    (λ a. let x = sum_le (λ b. queue a b) (λ b. length (sendings_of b (journal_of js a))) sites (few a) in let y = sendings_sum sites (journal_of js a) apart in omega (arith, x, y)) in
    let outer = journals_sum sent_count sites js apart in
    omega (arith, inner, outer)

-- ---- no more journals than sites

-- the list without x
abbrev pub without : ℕ → List ℕ → List ℕ
without x [] = []
without x (y ∷ ys) = if x == y then ys else y ∷ without x ys

pub without_length : (x : ℕ) (ys : List ℕ) → Contains ys x → length ys ≡ length (without x ys) + 1
without_length x [] c = absurd (no_member x c)
without_length x (y ∷ ys) c = ⊎_elim
    (λ (e : x ≡ y). let h : length (without x (y ∷ ys)) ≡ length ys = ap (λ t. length (if t then ys else y ∷ without x ys)) (eq-eqb x y e) in omega (arith, h))
    (λ (ne : x ≢ y).
    let h : length (without x (y ∷ ys)) ≡ length (without x ys) + 1 = ap (λ t. length (if t then ys else y ∷ without x ys)) (ne_eqb x y ne) ∙ plus_one (length (without x ys)) in
    let m = without_length x ys (contains_rest x y ys (λ e. ne (sym e)) c) in omega (arith, h, m))
    (cases_eq x y)
  where
    plus_one : (n : ℕ) → suc n ≡ n + 1
    plus_one n = omega arith

pub without_keeps : (x z : ℕ) (ys : List ℕ) → x ≢ z → Contains ys z → Contains (without x ys) z
without_keeps x z [] apart c = absurd (no_member z c)
without_keeps x z (y ∷ ys) apart c = ⊎_elim
    (λ (e : x ≡ y). subst (λ l. Contains l z) (sym (ap (λ t. if t then ys else y ∷ without x ys) (eq-eqb x y e))) (contains_rest z y ys (λ f. apart (e ∙ f)) c))
    (λ (ne : x ≢ y). subst (λ l. Contains l z) (sym (ap (λ t. if t then ys else y ∷ without x ys) (ne_eqb x y ne))) (⊎_elim
    (λ (f : z ≡ y). (0, omega arith, sym f))
    (λ (nf : z ≢ y). let d = without_keeps x z ys apart (contains_rest z y ys (λ f. nf (sym f)) c) in (suc d.0, let l = d.1 in omega (arith, l), d.2))
    (cases_eq z y)))
    (cases_eq x y)

pub few_journals : (js : List Journal) (sites : List ℕ) → OneEach js → AllByRecursion (λ (j : Journal). Contains sites j.site) js → length js ≤ length sites
few_journals [] sites one known = omega arith
few_journals (j ∷ js) sites one known =
    let h = without_length j.site sites known.0 in
    let m = few_journals js (without j.site sites) one.1 (rest js one.0 known.1) in
    omega (arith, h, m)
  where
    rest : (js : List Journal) → NoneAt j.site js → AllByRecursion (λ (i : Journal). Contains sites i.site) js → AllByRecursion (λ (i : Journal). Contains (without j.site sites) i.site) js
    rest [] none all = tt
    rest (i ∷ js) none all = (without_keeps j.site i.site sites (λ e. none.0 (sym e)) all.0, rest js none.1 all.1)

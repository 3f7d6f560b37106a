-- Two readings of files around a moment of a run.
use Rattle.std.proofs.Common.{◌≡◌, ◌≢◌, ℕ, zero, suc, ◌+◌, ◌<◌, ◌≤◌, Bool, true, false, ◌||◌, List, [], ◌∷◌, length, take, map, get_or, ◌==◌, if◌then◌else◌, refl, sym, ap, subst, subst₂, ◌∙◌, inl, inr, true≢false, arith, append-nil}
use Rattle.std.specs.List.{AllByRecursion, AllZip, list_any}
use Rattle.std.proofs.lemmas.Bool.{cases_Bool, cases_lt, eq-eqb, ne_eqb}
use Rattle.std.proofs.lemmas.List.{get_or-map, get_or_read, length-map, take_at, take-append-le}
use Rattle.std.proofs.lemmas.Slice.Zip.{AllZip-long}
use Rattle.cmh_frames.specs.declared.edition.Edition.{Edition}
use Rattle.cmh_frames.specs.declared.edition.Edition.TheVariants.{One, Two}
use Rattle.cmh_frames.specs.Topology.{Topology, is_site, lookup}
use Rattle.cmh_frames.specs.Entries.{Entry, WorldEvent}
use Rattle.cmh_frames.specs.Journals.{IsLawful, receipts_of, sendings_of}
use Rattle.cmh_frames.specs.Runs.{ComeFromRun, IsBeginningOf, IsRun, entries_of}
use Rattle.cmh_frames.specs.Laws.{bit, count_of}
use Rattle.cmh_frames.specs.Stops.{IsConsistent, stopped}
use Rattle.cmh_frames.proofs.Beginnings.{beginning_refl, beginning_trans, length-beginning}
use Rattle.cmh_frames.proofs.Members.{found_at}
use Rattle.cmh_world.proofs.Stops.{consistent_between}
use Rattle.cmh_journal.specs.Entries.{IsWhole, length_bytes}
use Rattle.cmh_journal.specs.File.{Writes, file_spelling, tail_of}
use Rattle.cmh_journal.specs.Journal.{Journal}
use Rattle.cmh_journal.proofs.Readings.{one_journal}
use Rattle.cmh_files.specs.Headline.{FilesHold}
use Rattle.cmh_files.specs.Readings.{AreReadTwice, IsReadTwice, IsStopOf, file_at}
use Rattle.cmh_files.specs.Stops.{IsConsistent as AreInOrder, IsWithin, Stop, journal_at, kept, length_at}
use Rattle.cmh_files.specs.TwoReads.{AreEnough, WasReadAround, WereReadAround, cut_to, first_files, second_files}

-- ---- lists, place by place

at_place : {A B : Type 0} (P : A → B → Type 0) (xs : List A) (ys : List B) (d : A) (e : B) → AllZip P xs ys → (i : ℕ) → i < length ys → P (get_or xs i d) (get_or ys i e)
at_place P [] [] d e all i l = absurd (omega (arith, l))
at_place P [] (y ∷ ys) d e all i l = absurd all
at_place P (x ∷ xs) [] d e all i l = absurd all
at_place P (x ∷ xs) (y ∷ ys) d e all zero l = all.0
at_place P (x ∷ xs) (y ∷ ys) d e all (suc i) l = at_place P xs ys d e all.1 i (omega (arith, l))

from_places : {A B : Type 0} (P : A → B → Type 0) (xs : List A) (ys : List B) (d : A) (e : B) → length xs ≡ length ys
    → ((i : ℕ) → i < length ys → P (get_or xs i d) (get_or ys i e)) → AllZip P xs ys
from_places P [] [] d e same each = tt
from_places P [] (y ∷ ys) d e same each = absurd (omega (arith, same))
from_places P (x ∷ xs) [] d e same each = absurd (omega (arith, same))
from_places P (x ∷ xs) (y ∷ ys) d e same each = (each 0 (omega arith), from_places P xs ys d e (omega (arith, same)) (λ i l. each (suc i) (omega (arith, l))))

cut_length : (lengths : List ℕ) (files : List (List ℕ)) → length lengths ≡ length files → length (cut_to lengths files) ≡ length files
cut_length [] files same = same
cut_length (n ∷ ns) [] same = refl
cut_length (n ∷ ns) (f ∷ fs) same = let more = cut_length ns fs (omega (arith, same)) in omega (arith, more)

cut_at : (lengths : List ℕ) (files : List (List ℕ)) → length lengths ≡ length files → (i : ℕ) → i < length files
    → file_at (cut_to lengths files) i ≡ take (length_at lengths i) (file_at files i)
cut_at [] files same i l = absurd (omega (arith, same, l))
cut_at (n ∷ ns) [] same i l = absurd (omega (arith, l))
cut_at (n ∷ ns) (f ∷ fs) same zero l = refl
cut_at (n ∷ ns) (f ∷ fs) same (suc i) l = cut_at ns fs (omega (arith, same)) i (omega (arith, l))

-- the first of a longer list are those of its beginning
take_from : {X : Type 0} (n : ℕ) (xs ys : List X) → IsBeginningOf xs ys → n ≤ length xs → take n ys ≡ take n xs
take_from n xs ys h le = ap (take n) (sym h.1) ∙ take-append-le n xs h.0 le

-- as many as the beginning has are the beginning
take_front : {X : Type 0} (xs ys : List X) → IsBeginningOf xs ys → take (length xs) ys ≡ xs
take_front xs ys h = ap (take (length xs)) (sym h.1) ∙ take_at xs h.0 (length xs) refl

all_take : {X : Type 0} (P : X → Type 0) (n : ℕ) (xs : List X) → AllByRecursion P xs → AllByRecursion P (take n xs)
all_take P zero xs all = tt
all_take P (suc n) [] all = tt
all_take P (suc n) (x ∷ xs) all = (all.0, all_take P n xs all.1)

take_short : {X : Type 0} (n : ℕ) (xs : List X) → length (take n xs) ≤ length xs
take_short zero xs = omega arith
take_short (suc n) [] = omega arith
take_short (suc n) (x ∷ xs) = let more = take_short n xs in omega (arith, more)

-- ---- a stop by sites

-- each site with its number of entries
marks : List ℕ → Stop → List (ℕ × ℕ)
marks [] ns = []
marks (s ∷ sites) [] = []
marks (s ∷ sites) (n ∷ ns) = (s, n) ∷ marks sites ns

counted : (sites : List ℕ) (i : ℕ) → i < length sites → 1 ≤ count_of (λ q. q == get_or sites i 0) sites
counted [] i l = absurd (omega (arith, l))
counted (s ∷ sites) zero l = let first = ap bit (eq-eqb s s refl) in omega (arith, first)
counted (s ∷ sites) (suc i) l = let more = counted sites i (omega (arith, l)) in omega (arith, more)

-- of sites that stand once, each has its own
mark_at : (sites : List ℕ) (ns : Stop) → length ns ≡ length sites → ((s : ℕ) → count_of (λ q. q == s) sites ≤ 1) → (i : ℕ) → i < length sites
    → lookup 0 (marks sites ns) (get_or sites i 0) ≡ length_at ns i
unfolding marks
mark_at [] ns same once i l = absurd (omega (arith, l))
mark_at (s ∷ sites) [] same once i l = absurd (omega (arith, same))
mark_at (s ∷ sites) (n ∷ ns) same once zero l = ap (λ b. if b then n else lookup 0 (marks sites ns) s) (eq-eqb s s refl)
mark_at (s ∷ sites) (n ∷ ns) same once (suc i) l =
    let other = get_or sites i 0 in
    let more = counted sites i (omega (arith, l)) in
    let most = once other in
    let apart : s ≢ other = λ h. let first = ap bit (eq-eqb s other h) in absurd (omega (arith, first, more, most)) in
    ap (λ b. if b then n else lookup 0 (marks sites ns) other) (ne_eqb s other apart)
    ∙ mark_at sites ns (omega (arith, same)) (λ q. let one = once q in omega (arith, one)) i (omega (arith, l))

none_counted : (s : ℕ) (sites : List ℕ) → list_any (λ q. q == s) sites ≡ false → count_of (λ q. q == s) sites ≡ 0
none_counted s [] none = refl
none_counted s (x ∷ sites) none = elim (cases_Bool (x == s)) [
  | inl here ↦ absurd (true≢false (sym (ap (λ b. b || list_any (λ q. q == s) sites) here) ∙ none))
  | inr far ↦
      let first = ap bit far in
      let more = none_counted s sites (sym (ap (λ b. b || list_any (λ q. q == s) sites) far) ∙ none) in
      omega (arith, first, more)
]

no_bit : (b : Bool) → bit b ≡ 0 → b ≡ false
no_bit true none = absurd (omega (arith, none))
no_bit false none = refl

one_bit : (b : Bool) {n : ℕ} → n ≡ bit b → n ≤ 1
one_bit true e = omega (arith, e)
one_bit false e = omega (arith, e)

-- ---- one file

-- the file of the first entries of a journal, without a tail
writes_front : (edition : Edition) (s : ℕ) (entries : List Entry) (tail bytes : List ℕ) (n : ℕ) → Writes edition s entries tail bytes
    → Writes edition s (take n entries) [] (file_spelling edition s (take n entries))
writes_front edition s entries tail bytes n w = record {
  site_is = w.site_is;
  limited = let most = w.limited in let fewer = take_short n entries in omega (arith, most, fewer);
  whole = all_take (IsWhole edition) n entries w.whole;
  tail_is = some edition _;
  bytes_are = sym (append-nil (file_spelling edition s (take n entries)));
}
  where
    some : (e : Edition) (more : ℕ) → 0 < length_bytes e + more
    some One more = omega arith
    some Two more = omega arith

-- what was read around a journal was read twice
read_once : (edition : Edition) (s : ℕ) (entries : List Entry) (read : List ℕ × List ℕ) (w : WasReadAround edition s entries read)
    → IsReadTwice read.0 read.1 (length w.earlier) (record { site = s; edition = edition; entries = w.later; reserved = 0 })
read_once edition s entries read w = record {
  earlier = record { site = s; edition = edition; entries = w.earlier; reserved = 0 };
  first_tail = tail_of w.first_tail;
  second_tail = tail_of w.second_tail;
  first_is = record { left = w.first_tail; writes = w.first; tail_is = refl };
  second_is = record { left = w.second_tail; writes = w.second; tail_is = refl };
  grew = w.grew;
  before_is = refl;
  within = length-beginning _ _ (beginning_trans _ _ _ w.before w.after);
}

-- with one file more
read_cons : (x : List ℕ × List ℕ) (xs : List (List ℕ × List ℕ)) (b : ℕ) (j : Journal) (bs : Stop) (js : List Journal) → IsReadTwice x.0 x.1 b j
    → AreReadTwice (first_files xs) (second_files xs) bs js → AreReadTwice (first_files (x ∷ xs)) (second_files (x ∷ xs)) (b ∷ bs) (j ∷ js)
read_cons x xs b j bs js one more = record {
  firsts = let e = more.firsts in omega (arith, e);
  lengths = let e = more.lengths in omega (arith, e);
  each = let e = more.each in omega (arith, e);
  read = read;
}
  where
    read : (i : ℕ) → i < length (second_files (x ∷ xs)) → IsReadTwice (file_at (first_files (x ∷ xs)) i) (file_at (second_files (x ∷ xs)) i) (length_at (b ∷ bs) i) (journal_at (j ∷ js) i)
    read zero l = one
    read (suc i) l = more.read i (omega (arith, l))

read_all : (edition : Edition) (events : List WorldEvent) (sites : List ℕ) (reads : List (List ℕ × List ℕ)) → AllZip (λ s read. WasReadAround edition s (entries_of s events) read) sites reads
    → (before : Stop) × (journals : List Journal) × AreReadTwice (first_files reads) (second_files reads) before journals
read_all edition events [] [] all = ([], [], record { firsts = refl; lengths = refl; each = refl; read = λ i l. absurd (omega (arith, l)) })
read_all edition events [] (x ∷ xs) all = absurd all
read_all edition events (s ∷ sites) [] all = absurd all
read_all edition events (s ∷ sites) (x ∷ xs) all =
    let more = read_all edition events sites xs all.1 in (
      length all.0.earlier ∷ more.0,
      record { site = s; edition = edition; entries = all.0.later; reserved = 0 } ∷ more.1,
      read_cons x xs _ _ more.0 more.1 (read_once edition s (entries_of s events) x all.0) more.2,
    )

-- ---- all files

module _ (t : Topology) (events : List WorldEvent) (run : IsRun t events) (reads : List (List ℕ × List ℕ)) (r : WereReadAround t events reads) where
  abbrev site : ℕ → ℕ
  site i = get_or r.sites i 0

  abbrev journal : ℕ → List Entry
  journal i = entries_of (site i) events

  sites_long : length r.sites ≡ length reads
  sites_long = sym (AllZip-long _ r.sites reads r.each)

  first_is : (i : ℕ) → i < length reads → file_at (first_files reads) i ≡ (get_or reads i ([], [])).0
  first_is i l = get_or-map (λ (read : List ℕ × List ℕ). read.0) reads i ([], []) [] l

  second_is : (i : ℕ) → i < length reads → file_at (second_files reads) i ≡ (get_or reads i ([], [])).1
  second_is i l = get_or-map (λ (read : List ℕ × List ℕ). read.1) reads i ([], []) [] l

  -- what is known of one place, however its files were read
  record At (before : Stop) (journals : List Journal) (i : ℕ) : Type 0 where
    pub edition : (journal_at journals i).edition ≡ t.edition
    pub site_is : (journal_at journals i).site ≡ site i
    pub earlier : List Entry
    pub first_tail : List ℕ
    pub first : Writes t.edition (site i) earlier first_tail (file_at (first_files reads) i)
    pub second_tail : List ℕ
    pub second : Writes t.edition (site i) (journal_at journals i).entries second_tail (file_at (second_files reads) i)
    pub long : length_at before i ≡ length earlier
    pub begins : IsBeginningOf earlier (journal i)
    pub after : IsBeginningOf (journal i) (journal_at journals i).entries

  module _ (before : Stop) (journals : List Journal) (read : AreReadTwice (first_files reads) (second_files reads) before journals) where
    seconds_long : length (second_files reads) ≡ length reads
    seconds_long = length-map reads (λ (one : List ℕ × List ℕ). one.1)

    inside : (i : ℕ) → i < length journals → i < length reads
    inside i l = let a = read.each in let b = seconds_long in omega (arith, a, b, l)

    at : (i : ℕ) → i < length reads → At before journals i
    at i l =
        let w = at_place _ r.sites reads 0 ([], []) r.each i l in
        let two = read.read i (let b = seconds_long in omega (arith, b, l)) in
        let first = subst (Writes t.edition (site i) w.earlier w.first_tail) (sym (first_is i l)) w.first in
        let second = subst (Writes t.edition (site i) w.later w.second_tail) (sym (second_is i l)) w.second in
        let one = one_journal t.edition (site i) w.later w.second_tail _ (journal_at journals i) two.second_tail second two.second_is in
        let early = one_journal t.edition (site i) w.earlier w.first_tail _ two.earlier two.first_tail first two.first_is in record {
          edition = one.0;
          site_is = one.1;
          earlier = w.earlier;
          first_tail = w.first_tail;
          first = first;
          second_tail = w.second_tail;
          second = subst (λ (es : List Entry). Writes t.edition (site i) es w.second_tail (file_at (second_files reads) i)) (sym one.2) second;
          long = two.before_is ∙ ap length early.2;
          begins = w.before;
          after = subst (IsBeginningOf (journal i)) (sym one.2) w.after;
        }

    -- the stop at the moment between the readings
    abbrev moment : Stop
    moment = map (λ s. length (entries_of s events)) r.sites

    moment_at : (i : ℕ) → i < length reads → length_at moment i ≡ length (journal i)
    moment_at i l = get_or-map (λ s. length (entries_of s events)) r.sites i 0 0 (let a = sites_long in omega (arith, a, l))

    kept_at : (i : ℕ) → i < length reads → kept journals moment i ≡ journal i
    kept_at i l = ap (λ n. take n (journal_at journals i).entries) (moment_at i l) ∙ take_front (journal i) (journal_at journals i).entries (at i l).after

    moment_within : IsWithin before journals moment
    moment_within = record {
      each = let a = length-map r.sites (λ s. length (entries_of s events)) in let b = sites_long in let c = seconds_long in let d = read.each in omega (arith, a, b, c, d);
      above = λ i l. let a = at i (inside i l) in let b = a.long in let c = length-beginning _ _ a.begins in let d = moment_at i (inside i l) in omega (arith, b, c, d);
      below = λ i l. let c = length-beginning _ _ (at i (inside i l)).after in let d = moment_at i (inside i l) in omega (arith, c, d);
    }

    moment_in_order : AreInOrder journals moment
    moment_in_order a b la lb =
        let got = ap (λ s. length (receipts_of s (kept journals moment b))) (at a (inside a la)).site_is ∙ ap (λ es. length (receipts_of (site a) es)) (kept_at b (inside b lb)) in
        let sent = ap (λ s. length (sendings_of s (kept journals moment a))) (at b (inside b lb)).site_is ∙ ap (λ es. length (sendings_of (site b) es)) (kept_at a (inside a la)) in
        let few = length-beginning _ _ (run.in_order events (beginning_refl events) (site a) (site b)) in
        omega (arith, got, sent, few)

  module _ (strangers : (s : ℕ) (entries : List Entry) → is_site t s ≡ false → IsLawful t s entries → entries ≡ []) (lengths : List ℕ) (s : IsStopOf (first_files reads) (second_files reads) lengths) where
    abbrev here : (i : ℕ) → i < length reads → At s.before s.journals i
    here = at s.before s.journals s.read

    in_journals : (i : ℕ) → i < length reads → i < length s.journals
    in_journals i l = let a = s.read.each in let b = seconds_long s.before s.journals s.read in omega (arith, a, b, l)

    -- the stop, by sites
    abbrev stop : ℕ → ℕ
    stop = lookup 0 (marks r.sites s.stop)

    stop_at : (i : ℕ) → i < length reads → stop (site i) ≡ length_at s.stop i
    stop_at i l =
        let a = sites_long in
        let b = s.lowest.within.each in
        let c = s.read.each in
        let d = seconds_long s.before s.journals s.read in
        mark_at r.sites s.stop (omega (arith, a, b, c, d)) (λ q. one_bit (is_site t q) (r.once q)) i (omega (arith, a, l))

    -- it is at the moment or before it
    stop_low : (i : ℕ) → i < length reads → length_at s.stop i ≤ length (journal i)
    stop_low i l =
        let low = s.lowest.lowest (moment s.before s.journals s.read) (moment_within s.before s.journals s.read) (moment_in_order s.before s.journals s.read) i (in_journals i l) in
        let a = moment_at s.before s.journals s.read i l in
        omega (arith, low, a)

    -- so it keeps what the run has up to it
    stopped_at : (i : ℕ) → i < length reads → kept s.journals s.stop i ≡ stopped stop events (site i)
    stopped_at i l = take_from (length_at s.stop i) (journal i) (journal_at s.journals i).entries (here i l).after (stop_low i l) ∙ ap (λ n. take n (journal i)) (sym (stop_at i l))

    between : (i j : ℕ) → i < length reads → j < length reads → length (receipts_of (site i) (stopped stop events (site j))) ≤ length (sendings_of (site j) (stopped stop events (site i)))
    between i j li lj =
        let got = ap (λ x. length (receipts_of x (kept s.journals s.stop j))) (here i li).site_is ∙ ap (λ es. length (receipts_of (site i) es)) (stopped_at j lj) in
        let sent = ap (λ x. length (sendings_of x (kept s.journals s.stop i))) (here j lj).site_is ∙ ap (λ es. length (sendings_of (site j) es)) (stopped_at i li) in
        let few = s.lowest.consistent i j (in_journals i li) (in_journals j lj) in
        omega (arith, got, sent, few)

    consistent : IsConsistent stop events
    consistent = consistent_between t events run stop r.sites
        (λ x far. strangers x (entries_of x events) (no_bit (is_site t x) (sym (r.once x) ∙ none_counted x r.sites far)) (run.lawful x))
        (λ a b in_a in_b.
        let at_a = found_at r.sites a in_a in
        let at_b = found_at r.sites b in_b in
        let long = sites_long in
        let is_a = get_or_read r.sites at_a.0 a at_a.1 (sym at_a.2) 0 in
        let is_b = get_or_read r.sites at_b.0 b at_b.1 (sym at_b.2) 0 in
        let la = at_a.1 in
        let lb = at_b.1 in
        subst₂ (λ (x y : ℕ). length (receipts_of x (stopped stop events y)) ≤ length (sendings_of y (stopped stop events x))) (sym is_a) (sym is_b)
        (between at_a.0 at_b.0 (omega (arith, long, la)) (omega (arith, long, lb))))

    -- and each file is that of what it keeps
    kept_file : (i : ℕ) → i < length reads → (tail : List ℕ) × Writes t.edition (site i) (stopped stop events (site i)) tail (take (length_at lengths i) (file_at (second_files reads) i))
    kept_file i l =
        let a = here i l in
        let keeps = s.keeps i (let b = seconds_long s.before s.journals s.read in omega (arith, b, l)) in
        let above = s.lowest.within.above i (in_journals i l) in
        elim (cases_lt (length_at s.before i) (length_at s.stop i)) [
          | inl more ↦
              let bytes = keeps.raised more ∙ ap (λ e. file_spelling e (journal_at s.journals i).site (kept s.journals s.stop i)) a.edition ∙ ap (λ x. file_spelling t.edition x (kept s.journals s.stop i)) a.site_is in (
                [],
                subst₂ (λ (es : List Entry) (file : List ℕ). Writes t.edition (site i) es [] file) (stopped_at i l) (sym bytes)
                    (writes_front t.edition (site i) (journal_at s.journals i).entries a.second_tail (file_at (second_files reads) i) (length_at s.stop i) a.second),
              )
          | inr not ↦
              let same : length_at s.stop i ≡ length_at s.before i = omega (arith, not, above) in
              let held : stopped stop events (site i) ≡ a.earlier = ap (λ n. take n (journal i)) (stop_at i l ∙ same ∙ a.long) ∙ take_front a.earlier (journal i) a.begins in (
                a.first_tail,
                subst₂ (λ (es : List Entry) (file : List ℕ). Writes t.edition (site i) es a.first_tail file) (sym held) (sym (keeps.same same)) a.first,
              )
        ]

    hold : FilesHold t (stopped stop events) (cut_to lengths (second_files reads))
    hold =
        let long = s.each in
        let all = seconds_long s.before s.journals s.read in
        let cut = cut_length lengths (second_files reads) long in
        let sites = sites_long in record {
          sites = r.sites;
          once = r.once;
          each = from_places (λ x bytes. (tail : List ℕ) × Writes t.edition x (stopped stop events x) tail bytes) r.sites (cut_to lengths (second_files reads)) 0 [] (omega (arith, cut, all, sites))
              (λ i l. subst (λ (bytes : List ℕ). (tail : List ℕ) × Writes t.edition (site i) (stopped stop events (site i)) tail bytes)
              (sym (cut_at lengths (second_files reads) long i (omega (arith, cut, l)))) (kept_file i (omega (arith, cut, all, l))));
        }

  pub enough : ((s : ℕ) (entries : List Entry) → is_site t s ≡ false → IsLawful t s entries → entries ≡ [])
      → ((events : List WorldEvent) → IsRun t events → (stop : ℕ → ℕ) → IsConsistent stop events → ComeFromRun t (stopped stop events))
      → AreEnough t events reads
  enough strangers cut = record {
    found = λ none.
        let own = read_all t.edition events r.sites reads r.each in
        none own.0 own.1 own.2 (moment own.0 own.1 own.2) (moment_within own.0 own.1 own.2) (moment_in_order own.0 own.1 own.2);
    kept = λ lengths s. record {
      stop = stop strangers lengths s;
      consistent = consistent strangers lengths s;
      hold = hold strangers lengths s;
      comes = cut events run (stop strangers lengths s) (consistent strangers lengths s);
      accepted = λ verdict headline. headline.stops events (stop strangers lengths s) run (consistent strangers lengths s) (hold strangers lengths s);
    };
  }

-- The headline from what the crates below promise.
use Rattle.std.proofs.Common.{◌≡◌, ◌<◌, ◌≤◌, ◌⊎◌, ℕ, zero, suc, Bool, true, false, IfOk, List, [], ◌∷◌, ◌++◌, length, take, map, get_or, ◌==◌, if◌then◌else◌, refl, sym, ap, subst, ◌∙◌, inl, inr, arith}
use Rattle.std.specs.Prelude.{Contains}
use Rattle.std.specs.List.{AllByRecursion, AllZip}
use Rattle.std.proofs.lemmas.Bool.{cases_eq, cases_Bool, eq-eqb, ne_eqb}
use Rattle.std.proofs.lemmas.List.Elements.{recursion_from_All}
use Rattle.std.proofs.lemmas.Map.Made.{Contains-tail}
use Rattle.cmh_frames.specs.Edition.{starts_at_ask}
use Rattle.cmh_frames.specs.declared.edition.Edition.{Edition}
use Rattle.cmh_frames.specs.Topology.{Topology, is_site, sites_of, lookup}
use Rattle.cmh_frames.specs.Entries.{Entry, WorldEvent}
use Rattle.cmh_frames.specs.Laws.{bit, count_of, DarkPath}
use Rattle.cmh_frames.specs.LastAsker.{LastAskerDeclared}
use Rattle.cmh_frames.specs.Runs.{IsBeginningOf, IsRun, IsDrained, ComesFrom, entries_of, ComeFromRun}
use Rattle.cmh_frames.specs.Stops.{stopped, IsConsistent}
use Rattle.cmh_frames.proofs.Members.{found_at, found_from}
use Rattle.cmh_journal.specs.declared.tail.Tail.{Tail}
use Rattle.cmh_journal.specs.File.{IsCut, IsFileOf, Writes, tail_of}
use Rattle.cmh_journal.specs.Journal.{Journal}
use Rattle.cmh_audit.specs.Journals.{journal_of, NoneAt}
use Rattle.cmh_audit.specs.Inner.Places.{OneEach}
use Rattle.cmh_audit.specs.Reports.{Reports}
use Rattle.cmh_audit.specs.Set.{IsSet}
use Rattle.cmh_audit.proofs.SetLemmas.{set_parts}
use Rattle.cmh_audit.specs.Verdicts.{IsVerdictOn, as_result}
use Rattle.cmh_audit.specs.declared.verdict.Verdict.{Verdict}
use Rattle.cmh_audit.specs.declared.verdict.Verdict.TheVariants.{Accepted, Refused}
use Rattle.cmh_frames.specs.Journals.{IsLawful}
use Rattle.cmh_files.specs.Headline.{FilesHold, AreFilesOfRun, AreCutFilesOf, Headline}

-- what the headline says of one file, by names
abbrev IsFileWith : Edition → ℕ → List Entry → List ℕ → Type 0
IsFileWith edition s entries bytes = (tail : List ℕ) × Writes edition s entries tail bytes

abbrev IsCutFileOf : Edition → ℕ → List Entry → List ℕ → Type 0
IsCutFileOf edition s entries bytes =
    (file : List ℕ) × Writes edition s entries [] file × IsBeginningOf bytes file × (7 ≤ length bytes)

abbrev AreFilesOfStop : Topology → (ℕ → ℕ) → List WorldEvent → List (List ℕ) → Type 0
AreFilesOfStop t stop events files = FilesHold t (stopped stop events) files

-- ---- journals that are read, by their sites

-- a journal of the site is there, or none
journal_or_none : (s : ℕ) (js : List Journal) → Contains (map (λ (j : Journal). j.site) js) s ⊎ NoneAt s js
journal_or_none s [] = inr tt
journal_or_none s (j ∷ js) = elim (cases_eq j.site s) [
  | inl here ↦ inl (0, omega arith, here)
  | inr far ↦ elim (journal_or_none s js) [
    | inl c ↦ inl (suc c.0, omega arith, c.2)
    | inr none ↦ inr (far, none)
  ]
]

-- how often the site stands among those of the journals
none_counted : (s : ℕ) (js : List Journal) → NoneAt s js → count_of (λ q. q == s) (map (λ (j : Journal). j.site) js) ≡ 0
none_counted s [] none = refl
none_counted s (j ∷ js) none =
    let first = ap bit (ne_eqb j.site s none.0) in
    let more = none_counted s js none.1 in
    omega (arith, first, more)

once_counted : (s : ℕ) (js : List Journal) → OneEach js → Contains (map (λ (j : Journal). j.site) js) s → count_of (λ q. q == s) (map (λ (j : Journal). j.site) js) ≡ 1
once_counted s [] one c = absurd (omega (arith, c.1))
once_counted s (j ∷ js) one c = elim (cases_eq j.site s) [
  | inl here ↦
      let none = none_counted s js (subst (λ z. NoneAt z js) here one.0) in
      let first = ap bit (eq-eqb j.site s here) in
      omega (arith, none, first)
  | inr far ↦
      let more = once_counted s js one.1 (Contains-tail j.site (map (λ (j : Journal). j.site) js) s far c) in
      let first = ap bit (ne_eqb j.site s far) in
      omega (arith, more, first)
]

-- a site that has no journal of a set is none of the topology's
stranger_of : (t : Topology) (js : List Journal) → IsSet t js → (s : ℕ) → NoneAt s js → is_site t s ≡ false
stranger_of t js set s none = elim (cases_Bool (is_site t s)) [
  | inl is ↦ absurd (missing (recursion_from_All (λ site. Contains (map (λ (j : Journal). j.site) js) site) (sites_of t) (set_parts t js set).present) (found_at (sites_of t) s is))
  | inr not ↦ not
]
  where
    nowhere : (js : List Journal) → NoneAt s js → Contains (map (λ (j : Journal). j.site) js) s → ⊥
    nowhere [] none c = omega (arith, c.1)
    nowhere (j ∷ js) none c = nowhere js none.1 (Contains-tail j.site (map (λ (j : Journal). j.site) js) s none.0 c)

    at_place : (sites : List ℕ) → AllByRecursion (λ site. Contains (map (λ (j : Journal). j.site) js) site) sites → (i : ℕ) → i < length sites → get_or sites i s ≡ s → Contains (map (λ (j : Journal). j.site) js) s
    at_place [] all i l e = absurd (omega (arith, l))
    at_place (x ∷ sites) all zero l e = subst (Contains (map (λ (j : Journal). j.site) js)) e all.0
    at_place (x ∷ sites) all (suc i) l e = at_place sites all.1 i (omega (arith, l)) e

    missing : AllByRecursion (λ site. Contains (map (λ (j : Journal). j.site) js) site) (sites_of t) → Contains (sites_of t) s → ⊥
    missing all c = nowhere js none (at_place (sites_of t) all c.0 c.1 c.2)

-- of a set each site of the topology has one journal, and no other site has any
sites_once : (t : Topology) (js : List Journal) → IsSet t js → (s : ℕ) → count_of (λ q. q == s) (map (λ (j : Journal). j.site) js) ≡ bit (is_site t s)
sites_once t js set s = elim (journal_or_none s js) [
  | inl c ↦ once_counted s js (set_parts t js set).once c ∙ sym (ap bit (known js (recursion_from_All (λ (j : Journal). Contains (sites_of t) j.site) js (set_parts t js set).known) c.0 c.1 c.2))
  | inr none ↦ none_counted s js none ∙ sym (ap bit (stranger_of t js set s none))
]
  where
    known : (js : List Journal) → AllByRecursion (λ (j : Journal). Contains (sites_of t) j.site) js → (i : ℕ) → i < length (map (λ (j : Journal). j.site) js) → get_or (map (λ (j : Journal). j.site) js) i s ≡ s → is_site t s ≡ true
    known [] all i l e = absurd (omega (arith, l))
    known (j ∷ js) all zero l e = found_from (sites_of t) s (subst (Contains (sites_of t)) e all.0)
    known (j ∷ js) all (suc i) l e = known js all.1 i (omega (arith, l)) e

-- each journal that is read by its site is what stands there
each_here : (js : List Journal) → OneEach js → AllByRecursion (λ (j : Journal). journal_of js j.site ≡ j.entries) js
each_here [] one = tt
each_here (j ∷ js) one = (
  ap (λ b. if b then j.entries else journal_of js j.site) (eq-eqb j.site j.site refl),
  below js js one.0 (each_here js one.1),
)
  where
    below : (some all : List Journal) → NoneAt j.site some → AllByRecursion (λ (k : Journal). journal_of all k.site ≡ k.entries) some → AllByRecursion (λ (k : Journal). journal_of (j ∷ all) k.site ≡ k.entries) some
    below [] all none each = tt
    below (k ∷ some) all none each = (
      ap (λ b. if b then j.entries else journal_of all k.site) (ne_eqb j.site k.site (λ e. none.0 (sym e))) ∙ each.0,
      below some all none.1 each.1,
    )

-- ---- files and journals

-- A file has one reading: what the contract of cmh_journal says of it.
abbrev pub OneJournal : Type 0
OneJournal = (edition : Edition) (site : ℕ) (entries : List Entry) (left bytes : List ℕ) (journal : Journal) (tail : Tail)
    → Writes edition site entries left bytes → IsFileOf journal tail bytes
    → (journal.edition ≡ edition) × (journal.site ≡ site) × (journal.entries ≡ entries) × (tail ≡ tail_of left)

-- files that were read: each is that of the journal at its place, with what is left after its entries
abbrev AreFiles : List (Journal × List ℕ) → List (List ℕ) → Type 0
AreFiles reads files = AllZip (λ one file. Writes one.0.edition one.0.site one.0.entries one.1 file) reads files

abbrev journals_in : List (Journal × List ℕ) → List Journal
journals_in reads = map (λ one. one.0) reads

-- they hold what the journals have
held : (e : Edition) (journals : ℕ → List Entry) (reads : List (Journal × List ℕ)) (files : List (List ℕ)) → AreFiles reads files
    → AllByRecursion (λ (j : Journal). j.edition ≡ e) (journals_in reads) → AllByRecursion (λ (j : Journal). journals j.site ≡ j.entries) (journals_in reads)
    → AllZip (λ s bytes. IsFileWith e s (journals s) bytes) (map (λ (j : Journal). j.site) (journals_in reads)) files
held e journals [] [] are editions each = tt
held e journals (one ∷ reads) (f ∷ fs) are editions each = (
  (one.1, subst (λ es. Writes e one.0.site es one.1 f) (sym each.0) (subst (λ d. Writes d one.0.site one.0.entries one.1 f) editions.0 are.0)),
  held e journals reads fs are.1 editions.1 each.1,
)
held e journals [] (f ∷ fs) are editions each = absurd are
held e journals (one ∷ reads) [] are editions each = absurd are

-- the journals that were read are those that the files hold
read_back : OneJournal → (e : Edition) (journals : ℕ → List Entry) (reads : List (Journal × List ℕ)) (sites : List ℕ) (files : List (List ℕ)) → AreFiles reads files
    → AllZip (λ s bytes. IsFileWith e s (journals s) bytes) sites files → AllByRecursion (λ (j : Journal). j.entries ≡ journals j.site) (journals_in reads)
read_back law e journals [] sites files are hold = tt
read_back law e journals (one ∷ reads) (s ∷ sites) (f ∷ fs) are hold =
    let same = law e s (journals s) hold.0.0 f one.0 (tail_of one.1) hold.0.1 (record { left = one.1; writes = are.0; tail_is = refl }) in
    (same.2 ∙ ap journals (sym same.1), read_back law e journals reads sites fs are.1 hold.1)
read_back law e journals (one ∷ reads) sites [] are hold = absurd are
read_back law e journals (one ∷ reads) [] (f ∷ fs) are hold = absurd hold

-- so each site's journal is what they hold of it, or it has none
journal_held : (journals : ℕ → List Entry) (js : List Journal) → AllByRecursion (λ (j : Journal). j.entries ≡ journals j.site) js → (s : ℕ) → (journal_of js s ≡ journals s) ⊎ (NoneAt s js × (journal_of js s ≡ []))
journal_held journals [] each s = inr (tt, refl)
journal_held journals (j ∷ js) each s = elim (cases_eq j.site s) [
  | inl here ↦ inl (ap (λ b. if b then j.entries else journal_of js s) (eq-eqb j.site s here) ∙ each.0 ∙ ap journals here)
  | inr far ↦
      let skip = ap (λ b. if b then j.entries else journal_of js s) (ne_eqb j.site s far) in
      elim (journal_held journals js each.1 s) [
        | inl same ↦ inl (skip ∙ same)
        | inr none ↦ inr ((far, none.0), skip ∙ none.1)
      ]
]

-- ---- files that were cut off

-- A beginning of a file is the file of a beginning of its journal: what the contract of cmh_journal says of it.
abbrev pub Beginnings : Type 0
Beginnings = (edition : Edition) (site : ℕ) (entries : List Entry) (file bytes : List ℕ) → Writes edition site entries [] file
    → IsBeginningOf bytes file → 7 ≤ length bytes → IsCut edition site entries bytes

take_front : (xs ys : List Entry) → take (length xs) (xs ++ ys) ≡ xs
take_front [] ys = refl
take_front (x ∷ xs) ys = ap (λ z. x ∷ z) (take_front xs ys)

module _ (begins : Beginnings) (edition : Edition) (events : List WorldEvent) where
  -- how far each site's file got
  marks : (sites : List ℕ) (files : List (List ℕ)) → AllZip (λ s bytes. IsCutFileOf edition s (entries_of s events) bytes) sites files → List (ℕ × ℕ)
  marks [] [] cut = []
  marks [] (f ∷ fs) cut = []
  marks (s ∷ sites) [] cut = []
  marks (s ∷ sites) (f ∷ fs) cut =
      let left = begins edition s (entries_of s events) cut.0.0 f cut.0.1 cut.0.2 cut.0.3 in
      (s, length left.so_far) ∷ marks sites fs cut.1

  -- a mark of another site changes nothing
  with_mark : (x n : ℕ) (pairs : List (ℕ × ℕ)) (sites : List ℕ) (files : List (List ℕ)) → count_of (λ q. q == x) sites ≡ 0
      → AllZip (λ s bytes. IsFileWith edition s (stopped (lookup 0 pairs) events s) bytes) sites files
      → AllZip (λ s bytes. IsFileWith edition s (stopped (lookup 0 ((x, n) ∷ pairs)) events s) bytes) sites files
  with_mark x n pairs [] [] none are = tt
  with_mark x n pairs [] (f ∷ fs) none are = absurd are
  with_mark x n pairs (s ∷ sites) [] none are = absurd are
  with_mark x n pairs (s ∷ sites) (f ∷ fs) none are = elim (cases_eq s x) [
    | inl same ↦ let first = ap bit (eq-eqb s x same) in absurd (omega (arith, first, none))
    | inr far ↦
        let skip : lookup 0 ((x, n) ∷ pairs) s ≡ lookup 0 pairs s = ap (λ b. if b then n else lookup 0 pairs s) (ne_eqb x s (λ e. far (sym e))) in (
          (are.0.0, subst (λ m. Writes edition s (take m (entries_of s events)) are.0.0 f) (sym skip) are.0.1),
          with_mark x n pairs sites fs (omega (arith, none)) are.1,
        )
  ]

  -- of sites that stand once, what is left is the file of the stop at these marks
  marked : (sites : List ℕ) (files : List (List ℕ)) (cut : AllZip (λ s bytes. IsCutFileOf edition s (entries_of s events) bytes) sites files) → ((s : ℕ) → count_of (λ q. q == s) sites ≤ 1)
      → AllZip (λ s bytes. IsFileWith edition s (stopped (lookup 0 (marks sites files cut)) events s) bytes) sites files
  unfolding marks
  marked [] [] cut once = tt
  marked [] (f ∷ fs) cut once = absurd cut
  marked (s ∷ sites) [] cut once = absurd cut
  marked (s ∷ sites) (f ∷ fs) cut once =
      let left = begins edition s (entries_of s events) cut.0.0 f cut.0.1 cut.0.2 cut.0.3 in
      let pairs = marks sites fs cut.1 in
      let at : lookup 0 ((s, length left.so_far) ∷ pairs) s ≡ length left.so_far = ap (λ b. if b then length left.so_far else lookup 0 pairs s) (eq-eqb s s refl) in
      let kept : take (length left.so_far) (entries_of s events) ≡ left.so_far = ap (take (length left.so_far)) (sym left.begins.1) ∙ take_front left.so_far left.begins.0 in
      let first = ap bit (eq-eqb s s refl) in
      let here = once s in (
        (left.tail, subst (λ es. Writes edition s es left.tail f) (sym (ap (λ m. take m (entries_of s events)) at ∙ kept)) left.writes),
        with_mark s (length left.so_far) pairs sites fs (omega (arith, first, here)) (marked sites fs cut.1 (λ q. let l = once q in omega (arith, l))),
      )

-- ---- the headline

module _ (t : Topology) (one : OneJournal) (begins : Beginnings) (strangers : (s : ℕ) (journal : List Entry) → is_site t s ≡ false → IsLawful t s journal → journal ≡ []) (reads : List (Journal × List ℕ)) (files : List (List ℕ)) (are : AreFiles reads files) (set : IsSet t (journals_in reads)) where
  abbrev js : List Journal
  js = journals_in reads

  -- the files of a run are those of journals that come from it
  files_of : (events : List WorldEvent) → ComesFrom (journal_of js) events → AreFilesOfRun t events files
  files_of events comes = record {
    sites = map (λ (j : Journal). j.site) js;
    once = sites_once t js set;
    each = held t.edition (λ s. entries_of s events) reads files are (recursion_from_All (λ (j : Journal). j.edition ≡ t.edition) js (set_parts t js set).edition) (there js (each_here js (set_parts t js set).once));
  }
    where
      there : (some : List Journal) → AllByRecursion (λ (j : Journal). journal_of js j.site ≡ j.entries) some → AllByRecursion (λ (j : Journal). entries_of j.site events ≡ j.entries) some
      there [] each = tt
      there (j ∷ some) each = (comes j.site ∙ each.0, there some each.1)

  -- and if the files hold some journals, these are the ones that were read
  held_by : (journals : ℕ → List Entry) → FilesHold t journals files → ((s : ℕ) → is_site t s ≡ false → journals s ≡ []) → (s : ℕ) → journals s ≡ journal_of js s
  held_by journals hold none s = elim (journal_held journals js (read_back one t.edition journals reads hold.sites files are hold.each) s) [
    | inl same ↦ sym same
    | inr nothing ↦ none s (stranger_of t js set s nothing.0) ∙ sym nothing.1
  ]

  comes_back : (events : List WorldEvent) → IsRun t events → AreFilesOfRun t events files → ComesFrom (journal_of js) events
  comes_back events run hold = held_by (λ s. entries_of s events) hold (λ s stranger. strangers s (entries_of s events) stranger (run.lawful s))

  stopped_back : (events : List WorldEvent) (stop : ℕ → ℕ) → IsRun t events → AreFilesOfStop t stop events files → (s : ℕ) → stopped stop events s ≡ journal_of js s
  stopped_back events stop run hold = held_by (stopped stop events) hold (λ s stranger. ap (take (stop s)) (strangers s (entries_of s events) stranger (run.lawful s)) ∙ nothing (stop s))
    where
      nothing : (n : ℕ) → ◌≡◌ {A = List Entry} (take n []) []
      nothing zero = refl
      nothing (suc n) = refl

  cut_back : (events : List WorldEvent) → AreCutFilesOf t events files → (stop : ℕ → ℕ) × AreFilesOfStop t stop events files
  cut_back events cut = (
    lookup 0 (marks begins t.edition events cut.sites files cut.each),
    record {
      sites = cut.sites;
      once = cut.once;
      each = marked begins t.edition events cut.sites files cut.each (λ s. at_most (is_site t s) (cut.once s));
    },
  )
    where
      at_most : (b : Bool) {n : ℕ} → n ≡ bit b → n ≤ 1
      at_most true e = omega (arith, e)
      at_most false e = omega (arith, e)

  pub headline : ((events : List WorldEvent) → IsRun t events → DarkPath t events)
      → (starts_at_ask t.edition ≡ true → (events : List WorldEvent) → IsRun t events → IsDrained events → LastAskerDeclared events)
      → ((events : List WorldEvent) → IsRun t events → (stop : ℕ → ℕ) → IsConsistent stop events → ComeFromRun t (stopped stop events))
      → (verdict : Verdict) → IsVerdictOn t js verdict → Headline t files verdict
  headline dark drained stops verdict v = record {
    accepted = (
      (λ a. let r = v.accepted.0 a in (r.0, r.1, files_of r.0 r.2)),
      (λ r. v.accepted.1 (r.0, r.1, comes_back r.0 r.1 r.2)),
    );
    no_false_deadlock = λ events run of i. (dark events run).declared i;
    report = report verdict v.report;
    no_silent_deadlock = silent verdict v.report;
    stops = λ events stop run consistent of.
        let cut = stops events run stop consistent in
        v.accepted.1 (cut.0, cut.1, λ s. cut.2 s ∙ stopped_back events stop run of s);
    cut_anywhere = λ events run cut. cut_back events cut;
  }
    where
      report : (verdict : Verdict) → IfOk (as_result verdict) (λ report. (events : List WorldEvent) → IsRun t events → ComesFrom (journal_of js) events → Reports t events report)
          → IfOk (as_result verdict) (λ report. (events : List WorldEvent) → IsRun t events → AreFilesOfRun t events files → Reports t events report)
      report (Accepted r) h = λ events run of. h events run (comes_back events run of)
      report (Refused stops) h = tt

      silent : (verdict : Verdict) → IfOk (as_result verdict) (λ report. (events : List WorldEvent) → IsRun t events → ComesFrom (journal_of js) events → Reports t events report)
          → starts_at_ask t.edition ≡ true → IfOk (as_result verdict) (λ report. report.in_transit ≡ 0 → (events : List WorldEvent) → IsRun t events → AreFilesOfRun t events files → LastAskerDeclared events)
      silent (Accepted r) h two = λ none events run of. drained two events run ((h events run (comes_back events run of)).drained.0 none)
      silent (Refused stops) h two = tt

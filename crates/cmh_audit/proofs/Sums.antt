-- The sum over a run is that over the journals that come from it.
use Rattle.std.proofs.Common.{◌≡◌, ◌≢◌, ℕ, ◌+◌, ◌<◌, ◌==◌, Bool, true, false, List, [], ◌∷◌, ◌++◌, length, take, get_or, ⊎_elim, sym, ap, subst, refl, ◌∙◌, if◌then◌else◌, arith}
use Rattle.std.proofs.lemmas.Bool.{cases_eq, eq-eqb, ne_eqb}
use Rattle.std.proofs.lemmas.List.{take_more}
use Rattle.cmh_frames.specs.Entries.{Entry, WorldEvent}
use Rattle.cmh_frames.specs.Runs.{entries_of, ComesFrom}
use Rattle.cmh_frames.proofs.Journals.{entries_here, entries_elsewhere}
use Rattle.cmh_journal.specs.Journal.{Journal}
use Rattle.cmh_audit.specs.Journals.{journal_of, NoneAt}
use Rattle.cmh_audit.specs.Inner.Places.{OneEach}
use Rattle.cmh_audit.specs.Sums.{in_entries, in_journals}
use Rattle.cmh_audit.specs.Inner.AllSums.{in_run}

pub in_entries-append : (f : Entry → ℕ) (xs ys : List Entry) → in_entries f (xs ++ ys) ≡ in_entries f xs + in_entries f ys
in_entries-append f [] ys = omega arith
in_entries-append f (x ∷ xs) ys = let h = in_entries-append f xs ys in omega (arith, h)

-- one more entry
pub entries_more : (f : Entry → ℕ) (xs : List Entry) (i : ℕ) (e : Entry) → i < length xs → e ≡ get_or xs i e → in_entries f (take (i + 1) xs) ≡ in_entries f (take i xs) + f e
entries_more f xs i e l here =
    let m = ap (in_entries f) (take_more xs i e l ∙ ap (λ x. take i xs ++ x ∷ []) (sym here)) ∙ in_entries-append f (take i xs) (e ∷ []) in omega (arith, m)

in_journals-append : (f : Entry → ℕ) (xs ys : List Journal) → in_journals f (xs ++ ys) ≡ in_journals f xs + in_journals f ys
in_journals-append f [] ys = omega arith
in_journals-append f (x ∷ xs) ys = let h = in_journals-append f xs ys in omega (arith, h)

-- one more journal
pub journals_more : (f : Entry → ℕ) (xs : List Journal) (i : ℕ) (j : Journal) → i < length xs → j ≡ get_or xs i j → in_journals f (take (i + 1) xs) ≡ in_journals f (take i xs) + in_entries f j.entries
journals_more f xs i j l here =
    let m = ap (in_journals f) (take_more xs i j l ∙ ap (λ x. take i xs ++ x ∷ []) (sym here)) ∙ in_journals-append f (take i xs) (j ∷ []) in omega (arith, m)

-- ---- a run, site by site

abbrev pub by_site : (Entry → ℕ) → List Journal → List WorldEvent → ℕ
by_site f [] run = 0
by_site f (j ∷ js) run = in_entries f (entries_of j.site run) + by_site f js run

-- each event is of a site that has a journal
abbrev pub Covered : List Journal → List WorldEvent → Type 0
Covered js [] = Unit {0}
Covered js (w ∷ run) = (NoneAt w.site js → ⊥) × Covered js run

by_site_nil : (f : Entry → ℕ) (js : List Journal) → by_site f js [] ≡ 0
by_site_nil f [] = refl
by_site_nil f (j ∷ js) = let h = by_site_nil f js in omega (arith, h)

by_site_none : (f : Entry → ℕ) (js : List Journal) (w : WorldEvent) (run : List WorldEvent) → NoneAt w.site js → by_site f js (w ∷ run) ≡ by_site f js run
by_site_none f [] w run none = refl
by_site_none f (j ∷ js) w run none =
    let h = by_site_none f js w run none.1 in
    let e = ap (in_entries f) (entries_elsewhere j.site w run (λ e. none.0 (sym e))) in
    omega (arith, h, e)

by_site_more : (f : Entry → ℕ) (js : List Journal) (w : WorldEvent) (run : List WorldEvent) → OneEach js → (NoneAt w.site js → ⊥) → by_site f js (w ∷ run) ≡ f w.entry + by_site f js run
by_site_more f [] w run one some = absurd (some tt)
by_site_more f (j ∷ js) w run one some =
    ⊎_elim
    (λ (e : w.site ≡ j.site).
    let h = by_site_none f js w run (subst (λ s. NoneAt s js) (sym e) one.0) in
    let g = ap (in_entries f) (entries_here j.site w run e) in
    omega (arith, h, g))
    (λ (ne : w.site ≢ j.site).
    let h = by_site_more f js w run one.1 (λ none. some (λ e. ne (sym e), none)) in
    let g = ap (in_entries f) (entries_elsewhere j.site w run ne) in
    omega (arith, h, g))
    (cases_eq w.site j.site)

in_run-by_site : (f : Entry → ℕ) (js : List Journal) (run : List WorldEvent) → OneEach js → Covered js run → by_site f js run ≡ in_run f run
in_run-by_site f js [] one covered = by_site_nil f js
in_run-by_site f js (w ∷ run) one covered =
    let h = in_run-by_site f js run one covered.1 in
    let g = by_site_more f js w run one covered.0 in
    omega (arith, h, g)

pub journal_none : (site : ℕ) (js : List Journal) → NoneAt site js → journal_of js site ≡ []
journal_none site [] none = refl
journal_none site (x ∷ js) none = ap (λ t. if t then x.entries else journal_of js site) (ne_eqb x.site site none.0) ∙ journal_none site js none.1

-- a run that journals come from has events of their sites alone
covered_from : (js : List Journal) (run : List WorldEvent) → ((site : ℕ) → NoneAt site js → entries_of site run ≡ []) → Covered js run
covered_from js [] h = tt
covered_from js (w ∷ run) h = (
  λ none. let e : w.entry ∷ entries_of w.site run ≡ [] = sym (entries_here w.site w run refl) ∙ h w.site none in cc,
  covered_from js run (λ site none. rest (w.site == site) (entries_of site run) (h site none)),
)
  where
    rest : (t : Bool) (es : List Entry) → (if t then w.entry ∷ es else es) ≡ [] → es ≡ []
    rest true es g = absurd (cc)
    rest false es g = g

-- a sum over the journals is one over the run, site by site, where each site's lawful entries have one sum by f and g
pub journals_by_site : (f g : Entry → ℕ) (js : List Journal) (run : List WorldEvent) → OneEach js → ((site : ℕ) → (NoneAt site js → ⊥) → entries_of site run ≡ journal_of js site) →
    ((site : ℕ) → in_entries g (entries_of site run) ≡ in_entries f (entries_of site run)) → by_site f js run ≡ in_journals g js
journals_by_site f g [] run one come same = refl
journals_by_site f g (j ∷ js) run one come same =
    let first : entries_of j.site run ≡ j.entries =
    come j.site (λ none. none.0 refl) ∙ ap (λ t. if t then j.entries else journal_of js j.site) (eq-eqb j.site j.site refl) in
    let more : by_site f js run ≡ in_journals g js = journals_by_site f g js run one.1 (λ site some.
    come site (λ none. some none.1)
    ∙ ap (λ t. if t then j.entries else journal_of js site) (ne_eqb j.site site (λ e. some (subst (λ s. NoneAt s js) e one.0)))) same in
    let e = ap (in_entries g) first in
    let s = same j.site in
    omega (arith, more, e, s)

pub in_run-in_journals : (f g : Entry → ℕ) (js : List Journal) (run : List WorldEvent) → OneEach js → ComesFrom (journal_of js) run → ((site : ℕ) → in_entries g (entries_of site run) ≡ in_entries f (entries_of site run)) → in_run f run ≡ in_journals g js
in_run-in_journals f g js run one come same =
    sym (in_run-by_site f js run one (covered_from js run (λ site none. come site ∙ journal_none site js none)))
    ∙ journals_by_site f g js run one (λ site some. come site) same

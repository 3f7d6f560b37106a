-- Journals read by a count for each.
use Rattle.std.proofs.Common.{◌≡◌, ◌≢◌, ℕ, zero, suc, ◌+◌, ◌<◌, ◌≤◌, ◌==◌, Bool, true, false, List, [], ◌∷◌, ◌++◌, length, take, drop, set, replicate, get_or, ◌⊎◌, inl, inr, ⊎_elim, sym, ap, subst, refl, ◌∙◌, if◌then◌else◌, arith, take-append-drop}
use Rattle.std.proofs.lemmas.Bool.{cases_eq, eq-eqb, ne_eqb}
use Rattle.std.proofs.lemmas.List.{take_all, take_more}
use Rattle.cmh_frames.specs.Topology.{Topology}
use Rattle.cmh_frames.specs.Entries.{Entry}
use Rattle.cmh_frames.specs.Journals.{IsLawful}
use Rattle.cmh_frames.specs.Runs.{IsBeginningOf}
use Rattle.cmh_journal.specs.Journal.{Journal}
use Rattle.cmh_audit.specs.Journals.{journal_of, AreAllLawful, NoneAt, entry_count}
use Rattle.cmh_audit.specs.Inner.Places.{OneEach}
use Rattle.cmh_audit.specs.Inner.Merging.{taken_of, entry_counts, IsLawfulLength, AreLawfulLengths, total}

pub none_at : (site : ℕ) (js : List Journal) (k : ℕ) (j : Journal) → NoneAt site js → k < length js → j ≡ get_or js k j → site ≢ j.site
none_at site [] k j none l here e = absurd (omega arith)
none_at site (x ∷ js) zero j none l here e = none.0 (ap (λ (y : Journal). y.site) (sym here) ∙ sym e)
none_at site (x ∷ js) (suc k) j none l here e = none_at site js k j none.1 (omega arith) here e

pub taken_here : (js : List Journal) (counts : List ℕ) (k : ℕ) (j : Journal) → OneEach js → length counts ≡ length js → k < length js → j ≡ get_or js k j → taken_of js counts j.site ≡ take (get_or counts k 0) j.entries
taken_here [] counts k j one e l here = absurd (omega arith)
taken_here (x ∷ js) [] k j one e l here = absurd (omega arith)
taken_here (x ∷ js) (n ∷ counts) zero j one e l here =
    let P : Journal → Type 0 = λ y. taken_of (x ∷ js) (n ∷ counts) y.site ≡ take n y.entries in
    subst P (sym here) (ap (λ t. if t then take n x.entries else taken_of js counts x.site) (eq-eqb x.site x.site refl))
taken_here (x ∷ js) (n ∷ counts) (suc k) j one e l here =
    ap (λ t. if t then take n x.entries else taken_of js counts j.site) (ne_eqb x.site j.site (none_at x.site js k j one.0 (omega arith) here))
    ∙ taken_here js counts k j one.1 (omega arith) (omega arith) here

pub journal_here : (js : List Journal) (k : ℕ) (j : Journal) → OneEach js → k < length js → j ≡ get_or js k j → journal_of js j.site ≡ j.entries
journal_here [] k j one l here = absurd (omega arith)
journal_here (x ∷ js) zero j one l here =
    let P : Journal → Type 0 = λ y. journal_of (x ∷ js) y.site ≡ y.entries in
    subst P (sym here) (ap (λ t. if t then x.entries else journal_of js x.site) (eq-eqb x.site x.site refl))
journal_here (x ∷ js) (suc k) j one l here =
    ap (λ t. if t then x.entries else journal_of js j.site) (ne_eqb x.site j.site (none_at x.site js k j one.0 (omega arith) here))
    ∙ journal_here js k j one.1 (omega arith) here

pub taken_set_other : (js : List Journal) (counts : List ℕ) (k n site : ℕ) (j : Journal) → k < length js → j ≡ get_or js k j → j.site ≢ site → taken_of js (set counts k n) site ≡ taken_of js counts site
taken_set_other [] counts k n site j l here apart = refl
taken_set_other (x ∷ js) [] k n site j l here apart = refl
taken_set_other (x ∷ js) (m ∷ counts) zero n site j l here apart =
    let ne : x.site ≢ site = λ h. apart (ap (λ (y : Journal). y.site) here ∙ h) in
    ap (λ t. if t then take n x.entries else taken_of js counts site) (ne_eqb x.site site ne)
    ∙ sym (ap (λ t. if t then take m x.entries else taken_of js counts site) (ne_eqb x.site site ne))
taken_set_other (x ∷ js) (m ∷ counts) (suc k) n site j l here apart =
    ap (λ es. if x.site == site then take m x.entries else es) (taken_set_other js counts k n site j (omega arith) here apart)

-- the journal of a site, or that it has none
pub found : (js : List Journal) (site : ℕ) → ((k : ℕ) × (j : Journal) × (k < length js) × (j ≡ get_or js k j) × (j.site ≡ site)) ⊎ (journal_of js site ≡ [])
found [] site = inr refl
found (x ∷ js) site =
    ⊎_elim
    (λ e. inl (0, x, omega arith, refl, e))
    (λ ne. ⊎_elim
    (λ p. inl (suc p.0, p.1, omega (arith, p.2), p.3, p.4))
    (λ none. inr (ap (λ t. if t then x.entries else journal_of js site) (ne_eqb x.site site ne) ∙ none))
    (found js site))
    (cases_eq x.site site)

pick_within : (t : Bool) (n : ℕ) (es xs ys : List Entry) → IsBeginningOf xs ys → IsBeginningOf (if t then take n es else xs) (if t then es else ys)
pick_within true n es xs ys p = (drop n es, take-append-drop n es)
pick_within false n es xs ys p = p

pub taken_within : (js : List Journal) (counts : List ℕ) (site : ℕ) → length counts ≡ length js → IsBeginningOf (taken_of js counts site) (journal_of js site)
taken_within [] counts site e = ([], refl)
taken_within (x ∷ js) [] site e = absurd (omega arith)
taken_within (x ∷ js) (n ∷ counts) site e = pick_within (x.site == site) n x.entries _ _ (taken_within js counts site (omega arith))

pick_none : (t : Bool) (es xs : List Entry) → xs ≡ [] → (if t then take 0 es else xs) ≡ []
pick_none true es xs e = refl
pick_none false es xs e = e

pub taken_none : (js : List Journal) (n site : ℕ) → taken_of js (replicate n 0) site ≡ []
taken_none [] n site = refl
taken_none (x ∷ js) zero site = refl
taken_none (x ∷ js) (suc n) site = pick_none (x.site == site) x.entries _ (taken_none js n site)

pub limit_here : (t : Topology) (js : List Journal) (limits : List ℕ) (k : ℕ) (j : Journal) → AreLawfulLengths t js limits → k < length js → j ≡ get_or js k j → IsLawfulLength t j.site j.entries (get_or limits k 0)
limit_here t [] limits k j are l here = absurd (omega arith)
limit_here t (x ∷ js) [] k j are l here = absurd are
limit_here t (x ∷ js) (n ∷ limits) zero j are l here =
    let P : Journal → Type 0 = λ y. IsLawfulLength t y.site y.entries n in subst P (sym here) are.0
limit_here t (x ∷ js) (n ∷ limits) (suc k) j are l here = limit_here t js limits k j are.1 (omega arith) here

pub length-limits : (t : Topology) (js : List Journal) (limits : List ℕ) → AreLawfulLengths t js limits → length limits ≡ length js
length-limits t [] [] are = refl
length-limits t [] (n ∷ limits) are = absurd are
length-limits t (x ∷ js) [] are = absurd are
length-limits t (x ∷ js) (n ∷ limits) are = ap suc (length-limits t js limits are.1)

-- ---- all counts together

pub total-set : (counts : List ℕ) (k : ℕ) → k < length counts → total (set counts k (get_or counts k 0 + 1)) ≡ total counts + 1
total-set [] k l = absurd (omega arith)
total-set (n ∷ counts) zero l = omega arith
total-set (n ∷ counts) (suc k) l = let h = total-set counts k (omega arith) in omega (arith, h)

pub total-none : (n : ℕ) → total (replicate n 0) ≡ 0
total-none zero = refl
total-none (suc n) = let h = total-none n in omega (arith, h)

pub total-le : (t : Topology) (js : List Journal) (limits counts : List ℕ) → AreLawfulLengths t js limits → length counts ≡ length js → ((k : ℕ) → k < length js → get_or counts k 0 ≤ get_or limits k 0) → total counts ≤ entry_count js
total-le t [] limits [] are e below = omega arith
total-le t [] limits (n ∷ counts) are e below = absurd (omega arith)
total-le t (x ∷ js) [] counts are e below = absurd are
total-le t (x ∷ js) (m ∷ limits) [] are e below = absurd (omega arith)
total-le t (x ∷ js) (m ∷ limits) (n ∷ counts) are e below =
    let first : n ≤ m = below 0 (omega arith) in
    let within : m ≤ length x.entries = are.0.within in
    let more : total counts ≤ entry_count js = total-le t js limits counts are.1 (omega arith) (λ k l. below (suc k) (omega arith)) in
    omega arith

lengths_push : (t : Topology) (js : List Journal) (limits : List ℕ) (j : Journal) (n : ℕ) → AreLawfulLengths t js limits → IsLawfulLength t j.site j.entries n → AreLawfulLengths t (js ++ j ∷ []) (limits ++ n ∷ [])
lengths_push t [] [] j n are is = (is, tt)
lengths_push t [] (m ∷ limits) j n are is = absurd are
lengths_push t (x ∷ js) [] j n are is = absurd are
lengths_push t (x ∷ js) (m ∷ limits) j n are is = (are.0, lengths_push t js limits j n are.1 is)

-- one more journal was replayed
pub lengths_more : (t : Topology) (js : List Journal) (limits : List ℕ) (i : ℕ) (j : Journal) (n : ℕ) → i < length js → j ≡ get_or js i j → AreLawfulLengths t (take i js) limits → IsLawfulLength t j.site j.entries n → AreLawfulLengths t (take (i + 1) js) (limits ++ n ∷ [])
lengths_more t js limits i j n l here are is =
    subst (λ xs. AreLawfulLengths t xs (limits ++ n ∷ [])) (sym (take_more js i j l ∙ ap (λ x. take i js ++ x ∷ []) (sym here))) (lengths_push t (take i js) limits j n are is)

-- of lawful journals each is lawful as far as it goes
pub lawful_counts : (t : Topology) (js : List Journal) → AreAllLawful t js → AreLawfulLengths t js (entry_counts js)
lawful_counts t [] lawful = tt
lawful_counts t (j ∷ js) lawful = (
  record {
    within = omega arith;
    lawful = subst (IsLawful t j.site) (sym (take_all (length j.entries) j.entries (omega arith))) (lawful 0 j (omega arith));
    stops = λ more later. omega (arith, more);
  },
  lawful_counts t js (λ k d l. lawful (suc k) d (omega (arith, l))),
)

-- ---- a replay tells the lawful length

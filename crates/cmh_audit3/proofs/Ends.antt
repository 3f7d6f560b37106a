-- The controllers of segments stand where their entries lead, where these are lawful.
use Rattle.std.proofs.Common.{◌≡◌, ℕ, suc, ◌+◌, ◌<◌, ◌==◌, true, false, true≢false, List, [], ◌∷◌, ◌++◌, length, take, drop, map, get_or, if◌then◌else◌, inl, inr, refl, sym, ap, ◌∙◌, subst, take-append-drop}
use Rattle.std.specs.List.{AllByRecursion, AllZip}
use Rattle.std.proofs.lemmas.Bool.{cases_eq, eq-eqb, ne_eqb, or_left, or_parts, or_right}
use Rattle.std.proofs.lemmas.List.{take_more}
use Rattle.std.proofs.lemmas.Slice.Zip.{all_zipped_more}
use Rattle.cmh_frames.specs.Rows.{repeats}
use Rattle.cmh_model3.specs.Entries.{WorldEvent}
use Rattle.cmh_model3.specs.Journals.{LawfulFrom, state_after}
use Rattle.cmh_model3.specs.Runs.{entries_of}
use Rattle.cmh_model3.specs.State.{State, empty_state}
use Rattle.cmh_topology3.specs.Topology.{Topology, site_of}
use Rattle.cmh_controller3.specs.Controller.{Controller, IsNew}
use Rattle.cmh_segment3.specs.declared.entry.Entry.{Entry}
use Rattle.cmh_segment3.specs.declared.segment.Segment.{Segment}
use Rattle.cmh_segment3.specs.Entries.{step_of}
use Rattle.cmh_segment3.specs.Steps.{entries_from}
use Rattle.cmh_segment3.proofs.WholeEntries.{steps_come_back}
use Rattle.cmh_audit3.specs.Journals.{AreLawfulFrom, journal_of}
use Rattle.cmh_audit3.specs.Set.{has_site, sites_in}
use Rattle.cmh_audit3.specs.Standing.{StandBehind, StandIn, StandsAt}
use Rattle.cmh_audit3.specs.Verdicts.{StandAtEnds}
use Rattle.cmh_audit3.specs.Inner.Lawful.{IsLawfulLength, StandIfLawful}
use Rattle.cmh_audit3.proofs.Lengths.{lawful_beginning}

-- lawful entries do not stop before their end
pub stops_at_end : (t : Topology) (s : ℕ) (v : State) (entries : List Entry) (n : ℕ) → IsLawfulLength t s v entries n → n < length entries → AreLawfulFrom t s v entries → ⊥
stops_at_end t s v entries n longest short lawful =
    longest.stops short (lawful_beginning t s v (take (n + 1) entries) (drop (n + 1) entries) (subst (AreLawfulFrom t s v) (sym (take-append-drop (n + 1) entries)) lawful))

-- what holds of each site and its journal holds of each segment
pub each_journal : (P : ℕ → List Entry → Type 0) (gs : List Segment) → repeats (sites_in gs) ≡ false
    → ((s : ℕ) → has_site (sites_in gs) s ≡ true → P s (journal_of gs s)) → AllByRecursion (λ (g : Segment). P g.header.site g.entries) gs
each_journal P [] once each = tt
each_journal P (g ∷ gs) once each =
    let s = g.header.site in
    let parts = or_parts (has_site (sites_in gs) s) (repeats (sites_in gs)) once in
    let same = eq-eqb s s refl in (
      subst (λ z. P s (if z then g.entries else journal_of gs s)) same (each s (or_left (s == s) (has_site (sites_in gs) s) same)),
      each_journal P gs parts.1 (λ q there.
          let far : (s == q) ≡ false = elim (cases_eq s q) [
            | inl e ↦ absurd (true≢false (sym there ∙ ap (has_site (sites_in gs)) (sym e) ∙ parts.0))
            | inr apart ↦ ne_eqb s q apart
          ] in
          subst (λ z. P q (if z then g.entries else journal_of gs q)) far (each q (or_right (s == q) (has_site (sites_in gs) q) there))),
    )

zip_given : (L : Segment → Type 0) (S : Segment → Controller → Type 0) (gs : List Segment) (cs : List Controller) → AllByRecursion L gs → AllZip (λ (g : Segment) (c : Controller). L g → S g c) gs cs → AllZip S gs cs
zip_given L S [] [] all zip = tt
zip_given L S [] (c ∷ cs) all zip = absurd zip
zip_given L S (g ∷ gs) [] all zip = absurd zip
zip_given L S (g ∷ gs) (c ∷ cs) all zip = (zip.0 all.0, zip_given L S gs cs all.1 zip.1)

pub stand_behind : (t : Topology) (states : ℕ → State) (gs : List Segment) (events : List WorldEvent) (cs : List Controller) → repeats (sites_in gs) ≡ false
    → ((s : ℕ) → LawfulFrom (site_of t) s (states s) (entries_of s events)) → ((s : ℕ) → entries_from (states s).clock (entries_of s events) ≡ journal_of gs s)
    → StandIfLawful t states gs cs → StandBehind t states gs cs
stand_behind t states gs events cs once lawful kept all =
    zip_given (λ (g : Segment). AreLawfulFrom t g.header.site (states g.header.site) g.entries)
    (λ (g : Segment) (c : Controller). StandsAt t g.header.site (state_after (site_of t) g.header.site (states g.header.site) (map step_of g.entries)) c) gs cs
    (each_journal (λ s es. AreLawfulFrom t s (states s) es) gs once (λ s _. journal s)) all
  where
    journal : (s : ℕ) → AreLawfulFrom t s (states s) (journal_of gs s)
    journal s =
        let back = steps_come_back (states s).clock (entries_of s events) in
        subst (AreLawfulFrom t s (states s)) (kept s)
        (record { steps = subst (λ l. LawfulFrom (site_of t) s (states s) l) (sym back) (lawful s); stamps = ap (entries_from (states s).clock) back })

-- from the first states
pub stand_at_ends : (t : Topology) (gs : List Segment) (cs : List Controller) → StandBehind t (λ s. empty_state) gs cs → StandAtEnds t gs cs
stand_at_ends t [] [] all = tt
stand_at_ends t [] (c ∷ cs) all = absurd all
stand_at_ends t (g ∷ gs) [] all = absurd all
stand_at_ends t (g ∷ gs) (c ∷ cs) all = (record { topology = all.0.topology; site = all.0.site; state = all.0.state }, stand_at_ends t gs cs all.1)

-- one new controller more
pub new_more : (t : Topology) (gs : List Segment) (i : ℕ) (g : Segment) (cs : List Controller) (c : Controller) → i < length gs → g ≡ get_or gs i g → StandIn t (λ s. empty_state) (take i gs) cs → IsNew t g.header.site c
    → StandIn t (λ s. empty_state) (take (i + 1) gs) (cs ++ c ∷ [])
new_more t gs i g cs c l is all new =
    subst (λ xs. StandIn t (λ s. empty_state) xs (cs ++ c ∷ [])) (ap (λ y. take i gs ++ y ∷ []) is ∙ sym (take_more gs i g l))
    (all_zipped_more (λ (x : Segment) (k : Controller). StandsAt t x.header.site empty_state k) (take i gs) cs g c all (record { topology = new.topology; site = new.site; state = new.state }))

-- there are as many controllers as segments
pub as_many_stand : (t : Topology) (states : ℕ → State) (gs : List Segment) (cs : List Controller) → StandIn t states gs cs → length cs ≡ length gs
as_many_stand t states [] [] all = refl
as_many_stand t states [] (c ∷ cs) all = absurd all
as_many_stand t states (g ∷ gs) [] all = absurd all
as_many_stand t states (g ∷ gs) (c ∷ cs) all = ap suc (as_many_stand t states gs cs all.1)

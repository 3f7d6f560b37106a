-- A run that is made in the order of its sites.
use Rattle.std.proofs.Common.{◌≡◌, ℕ, ◌+◌, ◌<◌, ◌≤◌, ◌==◌, List, [], ◌∷◌, ◌++◌, length, take, drop, map, get_or, if◌then◌else◌, None, Some, inl, inr, refl, sym, ap, ◌∙◌, subst, arith, add-one, drop-cons, take_all}
use Rattle.std.specs.Prelude.{slice_get}
use Rattle.std.proofs.lemmas.Bool.{cases_eq, eq-eqb, ne_eqb}
use Rattle.std.proofs.lemmas.List.{get_or-map, length-map, take_more}
use Rattle.cmh_runs.proofs.Journals.{entries_elsewhere, entries_here}
use Rattle.cmh_model3.specs.declared.event.Event.TheVariants.{Turn}
use Rattle.cmh_model3.specs.Entries.{WorldEvent}
use Rattle.cmh_model3.specs.Runs.{IsRun, entries_of}
use Rattle.cmh_topology3.specs.Topology.{Topology, site_of}
use Rattle.cmh_segment3.specs.declared.entry.Entry.{Entry}
use Rattle.cmh_segment3.specs.declared.segment.Segment.{Segment}
use Rattle.cmh_segment3.specs.Entries.{step_of}
use Rattle.cmh_segment3.proofs.WholeEntries.{steps_come_back}
use Rattle.cmh_audit3.specs.Journals.{AreJournalsOf, journal_of}
use Rattle.cmh_audit3.specs.Verdicts.{IsOrderOf}
use Rattle.cmh_audit3.specs.Inner.Queues.{Queues, if_some_at, journal_over, queue_at}

-- ---- the queues of segments

over_last : (new : List Segment) (g : Segment) (before after : ℕ → List Entry) (s : ℕ) → after s ≡ (if g.header.site == s then g.entries else before s) → journal_over new after s ≡ journal_over (new ++ g ∷ []) before s
over_last [] g before after s is = is
over_last (x ∷ new) g before after s is = ap (λ l. if x.header.site == s then x.entries else l) (over_last new g before after s is)

pub over_more : (all old new : List Segment) (g : Segment) (before after : Queues) → old ≡ new ++ g ∷ [] → ((s : ℕ) → queue_at after s ≡ (if g.header.site == s then g.entries else queue_at before s))
    → ((s : ℕ) → journal_over old (queue_at before) s ≡ journal_of all s) → (s : ℕ) → journal_over new (queue_at after) s ≡ journal_of all s
over_more all old new g before after is put so_far s =
    over_last new g (queue_at before) (queue_at after) s (put s) ∙ ap (λ l. journal_over l (queue_at before) s) (sym is) ∙ so_far s

pub over_none : (gs : List Segment) (s : ℕ) → journal_over gs (queue_at []) s ≡ journal_of gs s
over_none [] s = refl
over_none (g ∷ gs) s = ap (λ l. if g.header.site == s then g.entries else l) (over_none gs s)

pub over_end : (all left : List Segment) (queues : Queues) → length left ≡ 0 → ((s : ℕ) → journal_over left (queue_at queues) s ≡ journal_of all s) → (s : ℕ) → queue_at queues s ≡ journal_of all s
over_end all [] queues none so_far = so_far
over_end all (g ∷ left) queues none so_far = absurd (omega (arith, none))

-- ---- the run

-- the run has the first entries in that order, and the queues the others
abbrev pub Gone : List Segment → List ℕ → ℕ → Queues → List WorldEvent → Type 0
Gone segments order i queues run =
    (t : Topology) (o : IsOrderOf t segments order) → (run ≡ take i o.events)
    × ((s : ℕ) → map step_of (queue_at queues s) ≡ entries_of s (drop i o.events))

pub begins_gone : (segments : List Segment) (order : List ℕ) (queues : Queues) → ((s : ℕ) → queue_at queues s ≡ journal_of segments s) → Gone segments order 0 queues []
begins_gone segments order queues are t o = (refl, λ s. ap (map step_of) (are s ∙ sym (o.kept s)) ∙ steps_come_back 0 (entries_of s o.events))

module _ (segments : List Segment) (order : List ℕ) (i site : ℕ) (old new : Queues) (run : List WorldEvent) (l : i < length order) (is : site ≡ get_or order i site) (so_far : Gone segments order i old run) where
  module _ (t : Topology) (o : IsOrderOf t segments order) (d : WorldEvent) where
    abbrev next : WorldEvent
    next = get_or o.events i d

    many : length o.events ≡ length order
    many = sym (length-map o.events (λ (e : WorldEvent). e.site)) ∙ ap length o.in_turn

    within : i < length o.events
    within = let e = many in omega (arith, e, l)

    left : drop i o.events ≡ next ∷ drop (i + 1) o.events
    left = drop-cons o.events i d within ∙ (λ j. next ∷ drop (sym (add-one i) j) o.events)

    site_is : next.site ≡ site
    site_is = sym (get_or-map (λ (e : WorldEvent). e.site) o.events i d site within) ∙ ap (λ xs. get_or xs i site) o.in_turn ∙ sym is

  -- the next entry of the site is the next one of the run
  pub goes_on : (entry : Entry) → ((s : ℕ) → queue_at old s ≡ if_some_at site (Some entry) s ++ queue_at new s) → Gone segments order (i + 1) new (run ++ record { site = site; entry = step_of entry } ∷ [])
  goes_on entry moved t o =
      let d : WorldEvent = record { site = site; entry = step_of entry } in
      let e = next t o d in
      let there : map step_of (queue_at old site) ≡ step_of entry ∷ map step_of (queue_at new site) =
      ap (map step_of) (moved site ∙ ap (λ z. (if z then entry ∷ [] else []) ++ queue_at new site) (eq-eqb site site refl)) in
      let both : step_of entry ∷ map step_of (queue_at new site) ≡ e.entry ∷ entries_of site (drop (i + 1) o.events) =
      sym there ∙ (so_far t o).1 site ∙ ap (entries_of site) (left t o d) ∙ entries_here site e (drop (i + 1) o.events) (site_is t o d) in
      let first : step_of entry ≡ e.entry = ap (λ xs. get_or xs 0 (step_of entry)) both in
      let same : d ≡ e = λ j. record { site = sym (site_is t o d) j; entry = first j } in (
        ap (λ xs. xs ++ d ∷ []) (so_far t o).0 ∙ ap (λ x. take i o.events ++ x ∷ []) same ∙ sym (take_more o.events i d (within t o d)),
        λ s. elim (cases_eq site s) [
          | inl here ↦ subst (λ q. map step_of (queue_at new q) ≡ entries_of q (drop (i + 1) o.events)) here (ap (drop 1) both)
          | inr far ↦
              sym (ap (map step_of) (moved s ∙ ap (λ z. (if z then entry ∷ [] else []) ++ queue_at new s) (ne_eqb site s far)))
              ∙ (so_far t o).1 s ∙ ap (entries_of s) (left t o d) ∙ entries_elsewhere s e (drop (i + 1) o.events) (λ h. far (sym (site_is t o d) ∙ h))
        ],
      )

  none_left : (xs : List Entry) → None ≡ slice_get xs 0 → xs ≡ []
  none_left [] e = refl
  none_left (x ∷ xs) e = absurd (cc e)

  -- and there is one
  pub some_left : None ≡ slice_get (queue_at old site) 0 → Gone segments order (i + 1) new run
  some_left none t o =
      let d : WorldEvent = record { site = site; entry = record { event = Turn 0; sent = []; declared = None } } in
      absurd (cc (sym (ap (map step_of) (none_left (queue_at old site) none)) ∙ (so_far t o).1 site ∙ ap (entries_of site) (left t o d) ∙ entries_here site (next t o d) (drop (i + 1) o.events) (site_is t o d)))

pub all_gone : (segments : List Segment) (order : List ℕ) (n : ℕ) (queues : Queues) (run : List WorldEvent) → length order ≤ n → Gone segments order n queues run → (t : Topology) → IsOrderOf t segments order
    → IsRun (site_of t) run × AreJournalsOf run (journal_of segments)
all_gone segments order n queues run end gone t o =
    let many = sym (length-map o.events (λ (e : WorldEvent). e.site)) ∙ ap length o.in_turn in
    let all : run ≡ o.events = (gone t o).0 ∙ take_all n o.events (omega (arith, many, end)) in
    (subst (IsRun (site_of t)) (sym all) o.run, subst (λ events. AreJournalsOf events (journal_of segments)) (sym all) o.kept)

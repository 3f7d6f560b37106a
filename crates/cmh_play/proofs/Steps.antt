-- A step of one site, as the history and its controller have it, is a step of each world that is shown.
use Rattle.std.proofs.Common.{◌≡◌, ℕ, zero, suc, ◌+◌, ◌<◌, ◌≤◌, ◌==◌, Bool, true, false, List, [], ◌∷◌, ◌++◌, length, set, get_or, Option, Some, refl, sym, ap, subst, ◌∙◌, arith, length-append}
use Rattle.std.specs.Prelude.{MatchOption, if◌then◌else◌, slice_get}
use Rattle.std.proofs.lemmas.List.{map-set, set-get_or, length-map, get_or-map, get_or_default}
use Rattle.std.proofs.lemmas.List.Elements.{All-set}
use Rattle.std.proofs.lemmas.Option.{slice_get-get_or}
use Rattle.cmh_frames.specs.Topology.{Topology, sites_of}
use Rattle.cmh_frames.specs.declared.event.Event.{Event}
use Rattle.cmh_frames.specs.Entries.{Entry}
use Rattle.cmh_frames.specs.declared.frame.Frame.{Frame}
use Rattle.cmh_frames.specs.Journals.{frames_to, value}
use Rattle.cmh_frames.specs.Rules.{Accepts, Sends}
use Rattle.cmh_controller.specs.Controller.{Controller}
use Rattle.cmh_controller.specs.Refusals.{Refuses}
use Rattle.cmh_journal.specs.Journal.{Journal, Holds, entry_limit}
use Rattle.cmh_journal.specs.WholeEntries.{EachStepGrows}
use Rattle.cmh_audit.specs.Journals.{journal_of}
use Rattle.cmh_audit.specs.Sums.{in_entries, in_journals}
use Rattle.cmh_audit.proofs.TotalLemmas.{totals_more}
use Rattle.cmh_play.specs.History.{History, Grows, blank_journal, kept_of}
use Rattle.cmh_play.specs.Held.{Held, IsWorldStep, Shows, ShowsLater, Takes, IsReasonAt, IsTaken, step_counts}
use Rattle.cmh_play.specs.Links.{Links, link_of, link_after, with_all}
use Rattle.cmh_play.specs.Sites.{IsStanding}
use Rattle.cmh_play.specs.World.{World, IsReason}
use Rattle.cmh_frames.specs.declared.done.Done.{Done}
use Rattle.cmh_play.specs.declared.site.Refused.{Refused}
use Rattle.cmh_play.specs.declared.site.Refused.TheVariants.{Full, Rule}
use Rattle.cmh_play.specs.declared.site.Step.{Step}
use Rattle.cmh_play.specs.declared.site.Step.TheVariants.{Taken, Refused as StepRefused}
use Rattle.cmh_play.proofs.Seats.{standing, standing_after, seat_entries, new_entries, others_stay}
use Rattle.cmh_play.proofs.Takings.{stands_after}

-- ---- the journal of the site grows

in_entries-push : (f : Entry → ℕ) (es : List Entry) (e : Entry) → in_entries f (es ++ e ∷ []) ≡ in_entries f es + f e
in_entries-push f [] e = omega arith
in_entries-push f (x ∷ es) e = let h = in_entries-push f es e in omega (arith, h)

-- so a sum over all journals has the entry more
sum_grown : (f : Entry → ℕ) (js : List Journal) (i : ℕ) (j w : Journal) (e : Entry) → i < length js → j ≡ get_or js i j → w.entries ≡ j.entries ++ e ∷ [] → in_journals f (set js i w) ≡ in_journals f js + f e
sum_grown f [] i j w e l here grows = absurd (omega arith)
sum_grown f (x ∷ js) zero j w e l here grows =
    let more = ap (in_entries f) grows ∙ in_entries-push f j.entries e in
    let same = ap (λ (y : Journal). in_entries f y.entries) here in
    omega (arith, more, same)
sum_grown f (x ∷ js) (suc i) j w e l here grows = let h = sum_grown f js i j w e (omega (arith, l)) here grows in omega (arith, h)

-- the journal that has the entry: that which is kept, or one that might be
record Written (keeps : Bool) (js kept_new : List Journal) (place : ℕ) (j : Journal) (entry : Entry) : Type 0 where
  grown : Journal
  holds : Holds j grown (j.entries ++ entry ∷ [])
  kept : kept_new ≡ kept_of keeps (set js place grown)

written : (keeps : Bool) (js kept_old kept_new : List Journal) (place : ℕ) (j : Journal) (entry : Entry) → place < length js → j ≡ get_or js place j → kept_old ≡ kept_of keeps js
    → MatchOption (slice_get kept_old place) (kept_new ≡ kept_old) (λ journal. Grows kept_old kept_new place journal entry) → Written keeps js kept_new place j entry
written true js kept_old kept_new place j entry l here kept grows =
    let found : slice_get kept_old place ≡ Some j = ap (λ (xs : List Journal). slice_get xs place) kept ∙ slice_get-get_or js place j l ∙ ap Some (sym here) in
    let M : Option Journal → Type 0 = λ o. MatchOption o (kept_new ≡ kept_old) (λ journal. Grows kept_old kept_new place journal entry) in
    let g : Grows kept_old kept_new place j entry = subst M found grows in
    record { grown = g.grown; holds = g.holds; kept = g.others ∙ ap (λ (xs : List Journal). set xs place g.grown) kept }
written false js kept_old kept_new place j entry l here kept grows =
    let M : List Journal → Type 0 = λ xs. MatchOption (slice_get xs place) (kept_new ≡ kept_old) (λ journal. Grows kept_old kept_new place journal entry) in
    record {
      grown = record { site = j.site; edition = j.edition; entries = j.entries ++ entry ∷ []; reserved = 0 };
      holds = record { site = refl; edition = refl; entries_are = refl };
      kept = subst M kept grows ∙ kept;
    }

-- ---- the step

module _ (keeps : Bool) (world : World) (held : Held) (shows : Shows keeps world held) (s place : ℕ) (inside : place < length (sites_of held.topology)) (known : get_or (sites_of held.topology) place 0 ≡ s)
    (grows : EachStepGrows held.topology) (c d : Controller) (c_here : c ≡ get_or held.controllers place c) (history : History) (links : Links) (event : Event) where
  abbrev t : Topology
  t = world.topology

  abbrev js : List Journal
  js = world.journals

  j : Journal
  j = get_or js place (blank_journal t.edition s)

  l : place < length js
  l =
      let n = length-map js (λ (x : Journal). x.site) in
      let m = ap length shows.standing.placed in
      let e = ap (λ (x : Topology). length (sites_of x)) shows.topology in
      omega (arith, n, m, e, inside)

  j_here : j ≡ get_or js place j
  unfolding j
  j_here = get_or_default js place (blank_journal t.edition s) (get_or js place (blank_journal t.edition s)) l

  j_site : j.site ≡ s
  unfolding j
  j_site =
      sym (get_or-map (λ (x : Journal). x.site) js place (blank_journal t.edition s) 0 l)
      ∙ ap (λ (xs : List ℕ). get_or xs place 0) (shows.standing.placed ∙ ap sites_of (sym shows.topology))
      ∙ known

  stands : IsStanding t c j
  stands = standing t held.controllers js shows.standing place l c j c_here j_here

  entries_are : journal_of js s ≡ j.entries
  entries_are = ap (journal_of js) (sym j_site) ∙ seat_entries t held.controllers js shows.standing place l j j_here

  -- the controller as the world has it
  wrote : c ≡ record { topology = t; site = s; state = value t s (journal_of js s) }
  wrote = stands.wrote ∙ (λ i. record { topology = t; site = j_site i; state = value t (j_site i) (sym entries_are i) })

  steps_are : get_or held.history.steps place 0 ≡ length j.entries
  unfolding j
  steps_are =
      ap (λ (ns : List ℕ). get_or ns place 0) shows.steps
      ∙ get_or-map (λ (x : Journal). length x.entries) js place (blank_journal t.edition s) 0 l

  few : length j.entries ≤ entry_limit
  unfolding j
  few = shows.limit place (blank_journal t.edition s) l

  taken : (done : Done) → Takes c d place held.history history held.links links event done → ShowsLater (λ old new. IsWorldStep old new s event (Taken done)) keeps world (record { topology = held.topology; controllers = set held.controllers place d; history = history; links = links })
  taken done takes =
      let entry : Entry = record { event = event; sent = takes.sent; declared = done.declared } in
      let w = written keeps js held.history.journals history.journals place j entry l j_here shows.journals takes.adds.written in
      let grown : Journal = w.grown in
      let site : grown.site ≡ s = w.holds.site ∙ j_site in
      let same : grown.site ≡ (get_or js place grown).site = w.holds.site ∙ ap (λ (x : Journal). x.site) (j_here ∙ get_or_default js place j grown l) in
      let stands_now : IsStanding t d grown = stands_after t c j stands entry takes.accepted takes.sends (subst EachStepGrows shows.topology grows) d grown takes.stands w.holds.site w.holds.edition w.holds.entries_are in
      let long : length grown.entries ≡ length j.entries + 1 = ap length w.holds.entries_are ∙ length-append j.entries (entry ∷ []) in
      let room = takes.room in
      let counted = steps_are in
      record {
        later = record { topology = t; journals = set js place grown; links = link_of links };
        shows = record {
          topology = shows.topology;
          links = λ a b. refl;
          standing = standing_after t held.controllers js shows.standing place l d grown same stands_now;
          limit = All-set (λ (x : Journal). length x.entries ≤ entry_limit) js place grown (omega (arith, long, room, counted)) shows.limit;
          steps = takes.adds.counted
              ∙ ap (λ (ns : List ℕ). set ns place (get_or held.history.steps place 0 + 1)) shows.steps
              ∙ ap (λ (n : ℕ). set (step_counts js) place n) (ap (λ n. n + 1) counted ∙ sym long)
              ∙ sym (map-set (λ (x : Journal). length x.entries) js place grown);
          totals = totals_more (λ f. in_journals f js) (λ f. in_journals f (set js place grown)) held.history.totals history.totals entry shows.totals takes.adds.summed
              (λ f. sum_grown f js place j grown entry l j_here w.holds.entries_are);
          journals = w.kept;
        };
        related = record {
          sent = takes.sent;
          accepted = subst (λ (k : Controller). Accepts k.topology k.site k.state event) wrote takes.accepted;
          sends = subst (λ (k : Controller). Sends k.topology k.site k.state event takes.sent done.declared) wrote takes.sends;
          counted = takes.counted;
          grows = ap (journal_of (set js place grown)) (sym site) ∙ new_entries t held.controllers js shows.standing place l d grown same stands_now
              ∙ w.holds.entries_are ∙ ap (λ (es : List Entry). es ++ entry ∷ []) (sym entries_are);
          others = λ q other. others_stay js place grown l same q (λ e. other (e ∙ site));
          topology = refl;
          links = λ a b. takes.links_are a b
              ∙ ap (λ (k : Controller). link_after held.links k.site takes.sent a b) wrote
              ∙ ap (λ (link : Option (List Frame)). if s == a then with_all link (frames_to b takes.sent) else link) (sym (shows.links a b));
        };
      }

  reason : (refused : Refused) → IsReasonAt c (get_or held.history.steps place 0) event refused → IsReason world s event refused
  reason Full full = ap length entries_are ∙ (let is = steps_are in let most = few in omega (arith, full, is, most))
  reason (Rule refusal) because = (
    let same = ap length entries_are in let is = steps_are in let room = because.0 in omega (arith, same, is, room),
    subst (λ (k : Controller). Refuses k.topology k.site k.state event refusal) wrote because.1,
  )

  pub step_shown : (step : Step) → IsTaken c d place held.history history held.links links event step
      → ShowsLater (λ old new. IsWorldStep old new s event step) keeps world (record { topology = held.topology; controllers = set held.controllers place d; history = history; links = links })
  step_shown (Taken done) takes = taken done takes
  step_shown (StepRefused refused) stays =
      let controllers : set held.controllers place d ≡ held.controllers =
      ap (set held.controllers place) (stays.0 ∙ c_here) ∙ set-get_or held.controllers place c in
      record {
        later = world;
        shows = subst (λ (h : Held). Shows keeps world h) (λ i. record { topology = held.topology; controllers = sym controllers i; history = sym stays.1 i; links = sym stays.2 i }) shows;
        related = (reason refused stays.3, refl);
      }

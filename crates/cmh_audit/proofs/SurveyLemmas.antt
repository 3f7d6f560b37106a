-- A controller on its way through entries, and the totals of those that it makes.
use Rattle.std.proofs.Common.{inl, inr, ◌≡◌, ℕ, suc, ◌+◌, ◌<◌, ◌≤◌, List, [], ◌∷◌, ◌++◌, length, get_or, take, drop, Option, None, Some, refl, sym, ap, subst, ◌∙◌, arith, length-append}
use Rattle.std.specs.Prelude.{IfNone, IfSome}
use Rattle.std.proofs.Math.Seq.{take-append_seam, take-length}
use Rattle.std.proofs.lemmas.Bool.{cases_lt}
use Rattle.std.proofs.lemmas.List.{take-append-drop, take-append-le, take_all, take_more}
use Rattle.cmh_frames.specs.Topology.{Topology}
use Rattle.cmh_frames.specs.Entries.{Entry, Outcome}
use Rattle.cmh_frames.specs.Journals.{IsLawful, value}
use Rattle.cmh_frames.specs.Runs.{ComeFromRun}
use Rattle.cmh_frames.specs.Rules.{Accepts, Sends, after}
use Rattle.cmh_frames.specs.State.{empty_state}
use Rattle.cmh_frames.proofs.Journals.{lawful_front, lawful_rest, state_after-append}
use Rattle.cmh_frames.proofs.LongerRuns.{lawful_more}
use Rattle.cmh_journal.specs.Journal.{Journal}
use Rattle.cmh_controller.specs.Controller.{Controller}
use Rattle.cmh_audit.specs.Inner.Merging.{AreLawfulLengths, IsLawfulLength, entry_counts}
use Rattle.cmh_audit.specs.Inner.Walks.{GrowsBy, TotalsWith, Walks, WalksOn, cut_all_to}
use Rattle.cmh_audit.specs.Journals.{journal_of}
use Rattle.cmh_audit.specs.Inner.Places.{OneEach}
use Rattle.cmh_audit.specs.Set.{IsSet}
use Rattle.cmh_audit.proofs.SetLemmas.{set_parts}
use Rattle.cmh_audit.specs.Sums.{in_entries, in_journals}
use Rattle.cmh_audit.specs.Totals.{Totals, AddsEntry, AreTotals, AreTotalsOf, AreTotalsOfRun, AreWithinLimit}
use Rattle.cmh_audit.specs.declared.walk.Walk.{Walk}
use Rattle.cmh_audit.proofs.CountLemmas.{journal_here}
use Rattle.cmh_audit.proofs.Sums.{in_entries-append}
use Rattle.cmh_audit.proofs.TotalLemmas.{totals_more, totals_same}

longer : (entries : List Entry) (e : Entry) → length (entries ++ e ∷ []) ≡ length entries + 1
longer entries e = length-append entries (e ∷ [])

-- where it stopped before the end it stays, whatever comes
pub halted : (t : Topology) (site : ℕ) (entries : List Entry) (e : Entry) (n : ℕ) → IsLawfulLength t site entries n → n < length entries → IsLawfulLength t site (entries ++ e ∷ []) n
halted t site entries e n is short = record {
  within = omega (arith, longer entries e);
  lawful = subst (IsLawful t site) (sym (take-append-le n entries (e ∷ []) is.within)) is.lawful;
  stops = λ l lawful. is.stops short (subst (IsLawful t site) (take-append-le (n + 1) entries (e ∷ []) (omega arith)) lawful);
}

-- the same entries are added up before the next
same_totals : (entries : List Entry) (e : Entry) (n : ℕ) (totals : Totals) → n ≤ length entries → (sum : (Entry → ℕ) → ℕ) → TotalsWith sum (take n entries) totals → TotalsWith sum (take n (entries ++ e ∷ [])) totals
same_totals entries e n totals within sum = subst (λ es. TotalsWith sum es totals) (sym (take-append-le n entries (e ∷ []) within))

module _ (t : Topology) (site : ℕ) (entries : List Entry) (e : Entry) (old new : Walk) (before : Totals) (walks : Walks t site entries old) where
  module _ (c : Controller) (on : old.controller ≡ Some c) where
    stands : (old.count ≡ length entries) × (c ≡ record { topology = t; site = site; state = value t site entries })
    stands = subst (λ (o : Option Controller). IfSome o (λ c. (old.count ≡ length entries) × (c ≡ record { topology = t; site = site; state = value t site entries }))) on walks.goes_on

    lawful : IsLawful t site entries
    lawful = subst (IsLawful t site) (take_all old.count entries (let at = stands.0 in omega arith)) walks.lawful.lawful

    all_before : take old.count (entries ++ e ∷ []) ≡ entries
    all_before = ap (λ n. take n (entries ++ e ∷ [])) stands.0 ∙ take-append_seam entries (e ∷ [])

    all_with : take (old.count + 1) (entries ++ e ∷ []) ≡ entries ++ e ∷ []
    all_with = take_all (old.count + 1) (entries ++ e ∷ []) (let at = stands.0 in omega (arith, longer entries e))

    -- it does not make the entry
    pub stops_here : (Accepts c.topology c.site c.state e.event → Sends c.topology c.site c.state e.event e.sent e.declared → ⊥) → new.controller ≡ None → new.count ≡ old.count → WalksOn t site entries e old new before before
    unfolding stands
    stops_here none stopped same = record {
      walks = record {
        lawful = subst (IsLawfulLength t site (entries ++ e ∷ [])) (sym same) (record {
          within = let at = stands.0 in omega (arith, longer entries e);
          lawful = subst (IsLawful t site) (sym all_before) lawful;
          stops = λ l longer_lawful.
              let last = lawful_rest t site empty_state entries (e ∷ []) (subst (IsLawful t site) all_with longer_lawful) in
              let refused = subst (λ (k : Controller). Accepts k.topology k.site k.state e.event → Sends k.topology k.site k.state e.event e.sent e.declared → ⊥) stands.1 none in
              refused last.0 last.1;
        });
        goes_on = subst (λ (o : Option Controller). IfSome o (λ c. (new.count ≡ length (entries ++ e ∷ [])) × (c ≡ record { topology = t; site = site; state = value t site (entries ++ e ∷ []) }))) (sym stopped) tt;
        stopped = subst (λ (o : Option Controller). IfNone o (new.count < length (entries ++ e ∷ []))) (sym stopped) (let at = stands.0 in omega (arith, longer entries e, same));
      };
      totals = λ sum are. subst (λ n. TotalsWith sum (take n (entries ++ e ∷ [])) before) (sym same) (same_totals entries e old.count before walks.lawful.within sum are);
    }

    -- it makes the entry
    pub makes : (next : Controller) (outcome : Outcome) (after_it : Totals) → Accepts c.topology c.site c.state e.event → Sends c.topology c.site c.state e.event outcome.sent outcome.declared
        → next ≡ record { topology = c.topology; site = c.site; state = after c.topology c.site c.state e.event outcome.declared }
        → outcome ≡ record { sent = e.sent; declared = e.declared } → AddsEntry before after_it e → new.controller ≡ Some next → new.count ≡ old.count + 1 → WalksOn t site entries e old new before after_it
    makes next outcome after_it accepts sends steps recorded adds on_next one = record {
      walks = record {
        lawful = subst (IsLawfulLength t site (entries ++ e ∷ [])) (sym one) (record {
          within = let at = stands.0 in omega (arith, longer entries e);
          lawful = subst (IsLawful t site) (sym all_with) all_lawful;
          stops = λ l. absurd (let at = stands.0 in omega (arith, l, longer entries e));
        });
        goes_on = subst (λ (o : Option Controller). IfSome o (λ k. (new.count ≡ length (entries ++ e ∷ [])) × (k ≡ record { topology = t; site = site; state = value t site (entries ++ e ∷ []) }))) (sym on_next)
            (let at = stands.0 in omega (arith, longer entries e, one), there);
        stopped = subst (λ (o : Option Controller). IfNone o (new.count < length (entries ++ e ∷ []))) (sym on_next) tt;
      };
      totals = λ sum are.
          subst (λ es. TotalsWith sum es after_it) (sym (ap (λ n. take n (entries ++ e ∷ [])) one ∙ all_with))
          (totals_more (λ f. sum f + in_entries f entries) (λ f. sum f + in_entries f (entries ++ e ∷ [])) before after_it e
          (subst (λ es. TotalsWith sum es before) (take_all old.count entries (let at = stands.0 in omega arith)) are) adds
          (λ f. let more = in_entries-append f entries (e ∷ []) in omega (arith, more)));
    }
      where
        accepted : Accepts t site (value t site entries) e.event
        accepted = subst (λ (k : Controller). Accepts k.topology k.site k.state e.event) stands.1 accepts

        sent : Sends t site (value t site entries) e.event e.sent e.declared
        sent = subst (λ (o : Outcome). Sends t site (value t site entries) e.event o.sent o.declared) recorded
            (subst (λ (k : Controller). Sends k.topology k.site k.state e.event outcome.sent outcome.declared) stands.1 sends)

        all_lawful : IsLawful t site (entries ++ e ∷ [])
        all_lawful = lawful_more t site empty_state entries e lawful accepted sent

        there : next ≡ record { topology = t; site = site; state = value t site (entries ++ e ∷ []) }
        there = steps
            ∙ ap (λ (k : Controller). let moved : Controller = record { topology = k.topology; site = k.site; state = after k.topology k.site k.state e.event outcome.declared } in moved) stands.1
            ∙ ap (λ (o : Outcome). let moved : Controller = record { topology = t; site = site; state = after t site (value t site entries) e.event o.declared } in moved) recorded
            ∙ ap (λ v. let moved : Controller = record { topology = t; site = site; state = v } in moved) (sym (state_after-append t site empty_state entries (e ∷ [])))

-- nothing is added up of no entries
pub no_entries_more : (sum : (Entry → ℕ) → ℕ) (n : ℕ) (totals : Totals) → AreTotals sum totals → TotalsWith sum (take n []) totals
no_entries_more sum n totals are = totals_same sum (λ f. sum f + in_entries f (take n [])) totals (λ f. let none = ap (in_entries f) (take_all n [] (omega arith)) in omega (arith, none)) are

-- ---- journals, one after the other

-- the totals of one journal more
cut_push : (t : Topology) (js : List Journal) (limits : List ℕ) (j : Journal) (n : ℕ) (f : Entry → ℕ) → AreLawfulLengths t js limits → in_journals f (cut_all_to (js ++ j ∷ []) (limits ++ n ∷ [])) ≡ in_journals f (cut_all_to js limits) + in_entries f (take n j.entries)
cut_push t [] [] j n f are = omega arith
cut_push t [] (m ∷ limits) j n f are = absurd are
cut_push t (x ∷ js) [] j n f are = absurd are
cut_push t (x ∷ js) (m ∷ limits) j n f are = let later = cut_push t js limits j n f are.1 in omega (arith, later)

pub totals_more_of : (t : Topology) (js : List Journal) (limits : List ℕ) (i : ℕ) (j : Journal) (n : ℕ) (old new : Totals) → i < length js → j ≡ get_or js i j → AreLawfulLengths t (take i js) limits → AreTotalsOf (cut_all_to (take i js) limits) old → GrowsBy old new j n → AreTotalsOf (cut_all_to (take (i + 1) js) (limits ++ n ∷ [])) new
totals_more_of t js limits i j n old new l here lengths are grows =
    let next = take_more js i j l ∙ ap (λ y. take i js ++ y ∷ []) (sym here) in
    totals_same (λ f. in_journals f (cut_all_to (take i js) limits) + in_entries f (take n j.entries)) (λ f. in_journals f (cut_all_to (take (i + 1) js) (limits ++ n ∷ []))) new
    (λ f. ap (λ xs. in_journals f (cut_all_to xs (limits ++ n ∷ []))) next ∙ cut_push t (take i js) limits j n f lengths)
    (grows (λ f. in_journals f (cut_all_to (take i js) limits)) are)

-- journals that were lawful to their ends are not cut
cut_whole : (js : List Journal) (limits : List ℕ) → limits ≡ entry_counts js → cut_all_to js limits ≡ js
cut_whole js limits e = ap (cut_all_to js) e ∙ all js
  where
    all : (js : List Journal) → cut_all_to js (entry_counts js) ≡ js
    all [] = refl
    all (j ∷ js) = ap (λ (es : List Entry). let cut : Journal = record j { entries = es } in cut ∷ cut_all_to js (entry_counts js)) (take-length j.entries) ∙ ap (λ (xs : List Journal). j ∷ xs) (all js)

-- of journals that come from a run each is lawful to its end
cut_lawful : (t : Topology) (js : List Journal) (limits : List ℕ) → OneEach js → ComeFromRun t (journal_of js) → AreLawfulLengths t js limits → limits ≡ entry_counts js
cut_lawful t js limits once comes are = all js limits (λ k j l here. subst (IsLawful t j.site) (comes.2 j.site ∙ journal_here js k j once l here) (comes.1.lawful j.site)) are
  where
    whole : (j : Journal) (n : ℕ) → IsLawful t j.site j.entries → IsLawfulLength t j.site j.entries n → n ≡ length j.entries
    whole j n lawful is = elim (cases_lt n (length j.entries)) [
      | inl short ↦ absurd (is.stops short (lawful_front t j.site empty_state (take (n + 1) j.entries) (drop (n + 1) j.entries) (subst (IsLawful t j.site) (sym (take-append-drop (n + 1) j.entries)) lawful)))
      | inr long ↦ (let within = is.within in omega arith)
    ]

    all : (js : List Journal) (limits : List ℕ) → ((k : ℕ) (j : Journal) → k < length js → j ≡ get_or js k j → IsLawful t j.site j.entries) → AreLawfulLengths t js limits → limits ≡ entry_counts js
    all [] [] each are = refl
    all [] (m ∷ limits) each are = absurd are
    all (x ∷ js) [] each are = absurd are
    all (x ∷ js) (m ∷ limits) each are =
        let first = whole x m (each 0 x (omega arith) refl) are.0 in
        let others = all js limits (λ k j l here. each (suc k) j (omega arith) here) are.1 in
        cc

-- so the totals of their lawful entries are those of the run
pub run_totals : (t : Topology) (js : List Journal) (limits : List ℕ) (totals : Totals) → IsSet t js → AreWithinLimit js → ComeFromRun t (journal_of js) → AreLawfulLengths t js limits → AreTotalsOf (cut_all_to js limits) totals → AreTotalsOfRun t js totals
run_totals t js limits totals set within comes are sums = record {
  set = set;
  limit = within;
  comes = comes;
  sums = subst (λ (js : List Journal). AreTotalsOf js totals) (cut_whole js limits (cut_lawful t js limits (set_parts t js set).once comes are)) sums;
}

use Rattle.std.proofs.Common.{◌≡◌, ◌+◌, ◌<◌, ◌≤◌, ◌*◌, ℕ, List, [], length, true≢false, refl, sym, subst, ap, ◌∙◌, arith}
use Rattle.std.proofs.lemmas.Bool.{eqb-true, eqb-false}
use Rattle.std.specs.List.Sorted.{IsStrictlyIncreasing}
use Rattle.cmh_frames.specs.Topology.{sites_of}
use Rattle.cmh_audit.specs.Journals.{entry_count}
use Rattle.cmh_audit.specs.Inner.FoundStops.{stops_at}
use Rattle.cmh_audit.specs.Stops.{AreStops}
use Rattle.cmh_audit.specs.Verdicts.{entries_before, sent_before}
use Rattle.cmh_audit.proofs.SurveyLemmas.{run_totals}
use Rattle.cmh_audit.proofs.AuditLemmas.{set_few, tries_fit}
use Rattle.cmh_audit.proofs.SetLemmas.{set_parts}
use Rattle.cmh_frames.proofs.Beginnings.{empty_list, some_list}
use Rattle.cmh_audit.proofs.CountingLemmas.{ascending_apart}
use Rattle.cmh_audit.proofs.TryLemmas.{looks_made, few_looks, no_stops}
use Rattle.cmh_audit.proofs.StopLemmas.{are_stops, come_from, stops_refuse}
use Rattle.cmh_audit.proofs.verdict.audit_surveyed.Goals as goal

pub count_entries-requires : goal.count_entries-requires
count_entries-requires c = let few = set_few c.args.topology.now c.args.journals.now c.sites-sites.result.now c.sites-sites.ensures.value c.sites-sites.ensures.few c.requires.set in omega (arith, few)

pub merge-requires-clause-few : goal.merge-requires-clause-few
merge-requires-clause-few c = let few = set_few c.args.topology.now c.args.journals.now c.sites-sites.result.now c.sites-sites.ensures.value c.sites-sites.ensures.few c.requires.set in omega (arith, few)

pub merge-requires-clause-once : goal.merge-requires-clause-once
merge-requires-clause-once c = (set_parts c.args.topology.now c.args.journals.now c.requires.set).once

pub stops_of-requires-clause-once : goal.stops_of-requires-clause-once
stops_of-requires-clause-once c = (set_parts c.args.topology.now c.args.journals.now c.requires.set).once

pub merge-requires-clause-small : goal.merge-requires-clause-small
merge-requires-clause-small c =
    let limited : entry_count c.args.journals.now ≤ length c.args.journals.now * 1000000 = subst (λ n. n ≤ length c.args.journals.now * 1000000) c.count_entries.ensures.value c.count_entries.ensures.limited in
    tries_fit (entry_count c.args.journals.now) (length c.args.journals.now) limited (set_few c.args.topology.now c.args.journals.now c.sites-sites.result.now c.sites-sites.ensures.value c.sites-sites.ensures.few c.requires.set)

pub returns-then-is_empty-clause-verdict : goal.returns-then-is_empty-clause-verdict
returns-then-is_empty-clause-verdict c =
    let none : stops_at (sites_of c.args.topology.now) c.args.journals.now c.in_ok-merged.merged.taken.items ≡ [] = sym (c.in_ok-rows.ensures ∙ ap (λ ss. stops_at ss c.args.journals.now c.deref-2.result.now) c.sites-sites.ensures.value ∙ ap (stops_at (sites_of c.args.topology.now) c.args.journals.now) c.deref-2.ensures.value) ∙ empty_list c.in_ok-rows.rows.items (sym c.in_ok-rows.rows.ok.0 ∙ eqb-true c.in_ok-rows.rows.len 0 (sym c.is_empty.ensures ∙ c.if-is_empty.true)) in
    let comes = come_from c.args.topology.now c.args.journals.now c.in_ok-merged.merged.taken.items c.requires.set c.in_ok-merged.ensures.stuck none in
    let of_run = run_totals c.args.topology.now c.args.journals.now c.args.survey.now.limits.items c.args.survey.now.totals c.requires.set c.count_entries.ensures.within comes c.requires.lawful c.requires.totals in
    let looked = c.in_ok-merged.ensures.tries in
    let same = c.in_ok-report.ensures.tries in
    record {
      accepted = (λ _. comes, λ _. refl);
      report = c.in_ok-report.ensures.reports c.args.journals.now of_run;
      order = c.in_ok-report.ensures.order;
      counted = c.in_ok-report.ensures.events c.args.journals.now of_run;
      stops = tt;
      tries = omega (arith, looked, same);
    }

-- the rows are stops where there is one
rows_stop : (c : goal.After-drop-merged-3) → AreStops c.args.topology.now c.args.journals.now c.in_ok-rows.rows.items
rows_stop c =
    let rows : c.in_ok-rows.rows.items ≡ stops_at (sites_of c.args.topology.now) c.args.journals.now c.in_ok-merged.merged.taken.items = c.in_ok-rows.ensures ∙ ap (λ ss. stops_at ss c.args.journals.now c.deref-2.result.now) c.sites-sites.ensures.value ∙ ap (stops_at (sites_of c.args.topology.now) c.args.journals.now) c.deref-2.ensures.value in
    let some : 0 < length c.in_ok-rows.rows.items = some_list c.in_ok-rows.rows.items (λ h. eqb-false c.in_ok-rows.rows.len 0 (sym c.is_empty.ensures ∙ c.if-is_empty.false) (c.in_ok-rows.rows.ok.0 ∙ h)) in
    subst (AreStops c.args.topology.now c.args.journals.now) (sym rows)
    (are_stops c.args.topology.now c.args.journals.now c.in_ok-merged.merged.taken.items (subst IsStrictlyIncreasing c.sites-sites.ensures.value c.sites-sites.ensures.ascending) c.requires.set c.in_ok-merged.ensures.stuck
    (subst (λ (l : List (ℕ × ℕ)). 0 < length l) rows some))

pub returns-clause-verdict : goal.returns-clause-verdict
returns-clause-verdict c =
    let looked = c.in_ok-merged.ensures.tries in
    let same = c.new.ensures.tries in
    record {
      accepted = (λ h. absurd (true≢false (sym h)), λ come. absurd (stops_refuse c.args.topology.now c.args.journals.now c.in_ok-rows.rows.items (rows_stop c) come));
      report = tt;
      order = tt;
      counted = tt;
      stops = subst (AreStops c.args.topology.now c.args.journals.now) (sym c.new.ensures.rows) (rows_stop c);
      tries = omega (arith, looked, same);
    }

pub returns-then-is_empty-clause-looked : goal.returns-then-is_empty-clause-looked
returns-then-is_empty-clause-looked c =
    let none : stops_at (sites_of c.args.topology.now) c.args.journals.now c.in_ok-merged.merged.taken.items ≡ [] = sym (c.in_ok-rows.ensures ∙ ap (λ ss. stops_at ss c.args.journals.now c.deref-2.result.now) c.sites-sites.ensures.value ∙ ap (stops_at (sites_of c.args.topology.now) c.args.journals.now) c.deref-2.ensures.value) ∙ empty_list c.in_ok-rows.rows.items (sym c.in_ok-rows.rows.ok.0 ∙ eqb-true c.in_ok-rows.rows.len 0 (sym c.is_empty.ensures ∙ c.if-is_empty.true)) in
    let L : List (ℕ × ℕ) → Type 0 = λ rows. entries_before rows c.args.journals.now + length rows ≤ c.in_ok-merged.merged.tries in
    let looks = subst L none (looks_made c.args.topology.now c.args.journals.now c.in_ok-merged.merged.taken.items c.in_ok-merged.merged.tries (ascending_apart (sites_of c.args.topology.now) (subst IsStrictlyIncreasing c.sites-sites.ensures.value c.sites-sites.ensures.ascending)) c.requires.set c.in_ok-merged.ensures.stuck c.in_ok-merged.ensures.looked) in
    let all = no_stops c.args.journals.now in
    let same = c.in_ok-report.ensures.tries in
    omega (arith, looks, all, same)

pub returns-clause-looked : goal.returns-clause-looked
returns-clause-looked c =
    let rows : c.new.result.rows ≡ stops_at (sites_of c.args.topology.now) c.args.journals.now c.in_ok-merged.merged.taken.items = c.new.ensures.rows ∙ c.in_ok-rows.ensures ∙ ap (λ ss. stops_at ss c.args.journals.now c.deref-2.result.now) c.sites-sites.ensures.value ∙ ap (stops_at (sites_of c.args.topology.now) c.args.journals.now) c.deref-2.ensures.value in
    let L : List (ℕ × ℕ) → Type 0 = λ stops. entries_before stops c.args.journals.now + length stops ≤ c.in_ok-merged.merged.tries in
    let looks = subst L (sym rows) (looks_made c.args.topology.now c.args.journals.now c.in_ok-merged.merged.taken.items c.in_ok-merged.merged.tries (ascending_apart (sites_of c.args.topology.now) (subst IsStrictlyIncreasing c.sites-sites.ensures.value c.sites-sites.ensures.ascending)) c.requires.set c.in_ok-merged.ensures.stuck c.in_ok-merged.ensures.looked) in
    let same = c.new.ensures.tries in
    omega (arith, looks, same)

pub returns-then-is_empty-clause-caused : goal.returns-then-is_empty-clause-caused
returns-then-is_empty-clause-caused c =
    let none : stops_at (sites_of c.args.topology.now) c.args.journals.now c.in_ok-merged.merged.taken.items ≡ [] = sym (c.in_ok-rows.ensures ∙ ap (λ ss. stops_at ss c.args.journals.now c.deref-2.result.now) c.sites-sites.ensures.value ∙ ap (stops_at (sites_of c.args.topology.now) c.args.journals.now) c.deref-2.ensures.value) ∙ empty_list c.in_ok-rows.rows.items (sym c.in_ok-rows.rows.ok.0 ∙ eqb-true c.in_ok-rows.rows.len 0 (sym c.is_empty.ensures ∙ c.if-is_empty.true)) in
    let L : List (ℕ × ℕ) → Type 0 = λ rows. c.in_ok-merged.merged.tries ≤ (entries_before rows c.args.journals.now + length rows) + sent_before rows c.args.journals.now in
    let looks = subst L none (few_looks c.args.topology.now c.args.journals.now c.in_ok-merged.merged.taken.items c.in_ok-merged.merged.tries (ascending_apart (sites_of c.args.topology.now) (subst IsStrictlyIncreasing c.sites-sites.ensures.value c.sites-sites.ensures.ascending)) c.requires.set c.in_ok-merged.ensures.stuck c.in_ok-merged.ensures.looked) in
    let all = no_stops c.args.journals.now in
    let same = c.in_ok-report.ensures.tries in
    omega (arith, looks, all, same)

pub returns-clause-caused : goal.returns-clause-caused
returns-clause-caused c =
    let rows : c.new.result.rows ≡ stops_at (sites_of c.args.topology.now) c.args.journals.now c.in_ok-merged.merged.taken.items = c.new.ensures.rows ∙ c.in_ok-rows.ensures ∙ ap (λ ss. stops_at ss c.args.journals.now c.deref-2.result.now) c.sites-sites.ensures.value ∙ ap (stops_at (sites_of c.args.topology.now) c.args.journals.now) c.deref-2.ensures.value in
    let L : List (ℕ × ℕ) → Type 0 = λ stops. c.in_ok-merged.merged.tries ≤ (entries_before stops c.args.journals.now + length stops) + sent_before stops c.args.journals.now in
    let looks = subst L (sym rows) (few_looks c.args.topology.now c.args.journals.now c.in_ok-merged.merged.taken.items c.in_ok-merged.merged.tries (ascending_apart (sites_of c.args.topology.now) (subst IsStrictlyIncreasing c.sites-sites.ensures.value c.sites-sites.ensures.ascending)) c.requires.set c.in_ok-merged.ensures.stuck c.in_ok-merged.ensures.looked) in
    let same = c.new.ensures.tries in
    omega (arith, looks, same)

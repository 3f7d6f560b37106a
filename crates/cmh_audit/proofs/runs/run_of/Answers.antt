use Rattle.std.proofs.Common.{◌≡◌, ◌<◌, ◌≤◌, ◌*◌, ℕ, List, [], length, sym, subst, ap, ◌∙◌, arith}
use Rattle.std.proofs.lemmas.Bool.{eqb-true, eqb-false}
use Rattle.std.specs.List.Sorted.{IsStrictlyIncreasing}
use Rattle.cmh_frames.specs.Topology.{sites_of}
use Rattle.cmh_audit.specs.Journals.{entry_count}
use Rattle.cmh_audit.specs.Inner.FoundStops.{stops_at}
use Rattle.cmh_audit.specs.Stops.{AreStops}
use Rattle.cmh_audit.proofs.AuditLemmas.{set_few, tries_fit, all_taken}
use Rattle.cmh_audit.proofs.SetLemmas.{set_parts}
use Rattle.cmh_audit.proofs.OrderLemmas.{run_is}
use Rattle.cmh_audit.proofs.StopLemmas.{are_stops, stops_refuse}
use Rattle.cmh_frames.proofs.Beginnings.{empty_list, some_list}
use Rattle.cmh_audit.proofs.runs.run_of.Goals as goal

pub count_entries-requires : goal.count_entries-requires
count_entries-requires c = let few = set_few c.args.topology.now c.args.journals.now c.sites-sites.result.now c.sites-sites.ensures.value c.sites-sites.ensures.few c.requires in omega (arith, few)

pub merge-requires-clause-few : goal.merge-requires-clause-few
merge-requires-clause-few c = let few = set_few c.args.topology.now c.args.journals.now c.sites-sites.result.now c.sites-sites.ensures.value c.sites-sites.ensures.few c.requires in omega (arith, few)

pub merge-requires-clause-once : goal.merge-requires-clause-once
merge-requires-clause-once c = (set_parts c.args.topology.now c.args.journals.now c.requires).once

pub stops_of-requires-clause-once : goal.stops_of-requires-clause-once
stops_of-requires-clause-once c = (set_parts c.args.topology.now c.args.journals.now c.requires).once

pub merge-requires-clause-small : goal.merge-requires-clause-small
merge-requires-clause-small c =
    let limited : entry_count c.args.journals.now ≤ length c.args.journals.now * 1000000 = subst (λ n. n ≤ length c.args.journals.now * 1000000) c.count_entries.ensures.value c.count_entries.ensures.limited in
    tries_fit (entry_count c.args.journals.now) (length c.args.journals.now) limited (set_few c.args.topology.now c.args.journals.now c.sites-sites.result.now c.sites-sites.ensures.value c.sites-sites.ensures.few c.requires)

pub returns-then-is_empty : goal.returns-then-is_empty
returns-then-is_empty c =
    let none : stops_at (sites_of c.args.topology.now) c.args.journals.now c.in_ok-merged.merged.taken.items ≡ [] = sym (c.in_ok-rows.ensures ∙ ap (λ ss. stops_at ss c.args.journals.now c.deref-2.result.now) c.sites-sites.ensures.value ∙ ap (stops_at (sites_of c.args.topology.now) c.args.journals.now) c.deref-2.ensures.value) ∙ empty_list c.in_ok-rows.rows.items (sym c.in_ok-rows.rows.ok.0 ∙ eqb-true c.in_ok-rows.rows.len 0 (sym c.is_empty.ensures ∙ c.if-is_empty.true)) in
    run_is c.args.topology.now c.args.journals.now c.in_ok-merged.merged.taken.items c.in_ok-merged.merged.steps.items
    (all_taken c.args.topology.now c.args.journals.now c.in_ok-merged.merged.taken.items c.requires c.in_ok-merged.ensures.stuck none) c.in_ok-merged.ensures.order

pub returns : goal.returns
returns c =
    let rows : c.in_ok-rows.rows.items ≡ stops_at (sites_of c.args.topology.now) c.args.journals.now c.in_ok-merged.merged.taken.items = c.in_ok-rows.ensures ∙ ap (λ ss. stops_at ss c.args.journals.now c.deref-2.result.now) c.sites-sites.ensures.value ∙ ap (stops_at (sites_of c.args.topology.now) c.args.journals.now) c.deref-2.ensures.value in
    let some : 0 < length c.in_ok-rows.rows.items = some_list c.in_ok-rows.rows.items (λ h. eqb-false c.in_ok-rows.rows.len 0 (sym c.is_empty.ensures ∙ c.if-is_empty.false) (c.in_ok-rows.rows.ok.0 ∙ h)) in
    let stop : AreStops c.args.topology.now c.args.journals.now c.in_ok-rows.rows.items = subst (AreStops c.args.topology.now c.args.journals.now) (sym rows)
    (are_stops c.args.topology.now c.args.journals.now c.in_ok-merged.merged.taken.items (subst IsStrictlyIncreasing c.sites-sites.ensures.value c.sites-sites.ensures.ascending) c.requires c.in_ok-merged.ensures.stuck
    (subst (λ (l : List (ℕ × ℕ)). 0 < length l) rows some)) in
    λ come. stops_refuse c.args.topology.now c.args.journals.now c.in_ok-rows.rows.items stop come

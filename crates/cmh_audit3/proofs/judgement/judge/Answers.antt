use Rattle.std.proofs.Common.{ap, length, sym, subst, ◌∙◌}
use Rattle.std.specs.List.Sorted.{IsStrictlyIncreasing}
use Rattle.cmh_merge.specs.Merges.{AreDistinct}
use Rattle.cmh_merge.specs.Queues.{waiting}
use Rattle.cmh_audit3.specs.Set.{sites_in}
use Rattle.cmh_audit3.specs.Inner.Survey.{stop_at, stops_at}
use Rattle.cmh_audit3.proofs.Places.{lefts_in}
use Rattle.cmh_audit3.proofs.Surveys.{not_repeated}
use Rattle.cmh_audit3.proofs.Verdicts.{judged_is, same_length}
use Rattle.cmh_audit3.proofs.judgement.judge.Goals as goal

pub merge_from-requires : goal.merge_from-requires
merge_from-requires c = record { distinct = subst AreDistinct (sym c.in_ok-limits.ensures.sites) (not_repeated (sites_in c.args.segments.now) c.requires.once) }

pub stops_of-requires-clause-limits : goal.stops_of-requires-clause-limits
stops_of-requires-clause-limits c = ap length c.deref.ensures.value ∙ c.in_ok-limits.ensures.as_many

pub stops_of-requires-clause-walks : goal.stops_of-requires-clause-walks
stops_of-requires-clause-walks c = ap length c.deref-2.ensures.value ∙ same_length c.args.segments.now c.in_ok-merged.merged.walks.items (c.in_ok-merged.ensures.sites ∙ c.in_ok-limits.ensures.sites)

pub returns : goal.returns
returns c states stand =
    let t = c.args.topology.now in
    let gs = c.args.segments.now in
    let s = c.in_ok-limits in
    let m = c.in_ok-merged in
    judged_is t states (waiting c.args.queues) gs s.field-0.limits.items s.field-0.walks.items m.merged.walks.items m.merged.order.items _ s.ensures.sites s.ensures.walks m.ensures.merged m.ensures.under_way
    (subst (λ l. IsStrictlyIncreasing l) c.sites.ensures.value c.sites.ensures.ascending) c.requires.known c.requires.once c.new.ensures (c.new-2.ensures
    ∙ c.in_ok-stops.ensures ∙ (λ i. stops_at (stop_at gs (c.deref.ensures.value i) (lefts_in (c.deref-2.ensures.value i))) (c.sites.ensures.value i))) (s.ensures.lawful t states stand)

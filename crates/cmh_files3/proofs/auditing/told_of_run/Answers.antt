use Rattle.std.proofs.Common.{ℕ, List, string_bytes, sym, subst, subst₂}
use Rattle.cmh_model3.specs.Entries.{WorldEvent}
use Rattle.cmh_model3.specs.Runs.{IsRun}
use Rattle.cmh_topology3.specs.Topology.{site_of}
use Rattle.cmh_segment3.specs.declared.segment.Segment.{Segment}
use Rattle.cmh_audit3.specs.Verdicts.{IsOrderOf}
use Rattle.cmh_report3.specs.Reports.{AreSomeRun, Reports, StandEach}
use Rattle.cmh_files3.specs.Inner.Runs.{IsMoreOfEvents, IsMoreOfOrder}
use Rattle.cmh_files3.proofs.FindingLemmas.{more_of_run, stand_each}
use Rattle.cmh_files3.proofs.auditing.told_of_run.Goals as goal

pub more_of_events-requires : goal.more_of_events-requires
more_of_events-requires c =
    subst (λ (es : List WorldEvent). AreSomeRun es) (sym c.deref-2.ensures.value)
    (site_of c.args.world.now, c.in_ok-events.ensures.run c.args.world.now c.requires.order)

pub new-requires-clause-run : goal.new-requires-clause-run
new-requires-clause-run c =
    subst (λ (es : List WorldEvent). IsRun (site_of c.args.world.now) es) (sym c.deref-3.ensures.value)
    (c.in_ok-events.ensures.run c.args.world.now c.requires.order)

pub new-requires-clause-stand : goal.new-requires-clause-stand
new-requires-clause-stand c =
    let t = c.args.world.now in
    subst (λ (es : List WorldEvent). StandEach t es c.args.controllers.now) (sym c.deref-3.ensures.value)
    (stand_each t c.args.segments.items c.in_ok-events.events.items c.args.controllers.now c.requires.set (c.in_ok-events.ensures.journals t c.requires.order) c.requires.stand)

pub returns-clause-finding : goal.returns-clause-finding
returns-clause-finding c =
    let t = c.args.world.now in
    record {
      events = c.in_ok-events.events.items;
      run = c.in_ok-events.ensures.run t c.requires.order;
      journals = c.in_ok-events.ensures.journals t c.requires.order;
      reports = subst (λ (es : List WorldEvent). Reports (site_of t) es c.in_ok-report.report) c.deref-3.ensures.value c.in_ok-report.ensures;
    }

pub returns-clause-more : goal.returns-clause-more
returns-clause-more c =
    let t = c.args.world.now in
    let order = subst₂ (λ (gs : List Segment) (sites : List ℕ). IsOrderOf t gs sites) (sym c.deref.ensures.value) (sym c.as_slice.ensures) c.requires.order in
    let listed = subst (λ (gs : List Segment). IsMoreOfOrder c.args.more t gs (string_bytes c.in_ok-listed.listed)) c.deref.ensures.value (c.in_ok-listed.ensures t order) in
    let told = subst (λ (es : List WorldEvent). IsMoreOfEvents c.args.more es (string_bytes c.in_ok-listed.listed) (string_bytes c.in_ok-lines.lines)) c.deref-2.ensures.value c.in_ok-lines.ensures in
    more_of_run c.args.more t c.args.segments.items c.in_ok-events.events.items (c.in_ok-events.ensures.run t c.requires.order) (c.in_ok-events.ensures.journals t c.requires.order) _ _ listed told

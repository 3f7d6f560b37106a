use Rattle.std.proofs.Common.{List, ℕ, refl, sym, subst, subst₂}
use Rattle.cmh_controller3.specs.Controller.{Controller}
use Rattle.cmh_model3.specs.Entries.{WorldEvent}
use Rattle.cmh_report3.specs.Kept.{IsKeptOf}
use Rattle.cmh_report3.specs.Reports.{Reports}
use Rattle.cmh_report3.specs.declared.report.Report.{Report}
use Rattle.cmh_topology3.specs.Topology.{site_of}
use Rattle.cmh_play3.specs.Held.{Shows}
use Rattle.cmh_play3.specs.declared.playground.Playground.{Playground}
use Rattle.cmh_play3.proofs.Taking.{stand_each}
use Rattle.cmh_play3.proofs.playground.Playground.report.Goals as goal

kept_of : (held : Playground) (events : List WorldEvent) → Shows events held → IsKeptOf held.topology events held.controllers.items held.events.items held.sent
kept_of held events p = record {
  is_run = p.run;
  stand = stand_each held.topology events held.controllers.items p.stand;
  events_are = p.kept_are;
  sent_is = p.sent_is;
}

pub of_kept-requires : goal.of_kept-requires
of_kept-requires c =
    let held = c.args.self.now in
    let some = c.requires in (
      held.topology,
      some.0,
      subst₂ (λ (es : List WorldEvent) (cs : List Controller). IsKeptOf held.topology some.0 cs es held.sent) (sym c.deref-2.ensures.value) (sym c.deref.ensures.value)
          (kept_of held some.0 some.1),
    )

pub returns : goal.returns
returns c = λ events p.
    let held = c.args.self.now in
    let is = subst₂ (λ (es : List WorldEvent) (cs : List Controller). IsKeptOf held.topology events cs es held.sent) (sym c.deref-2.ensures.value) (sym c.deref.ensures.value)
    (kept_of held events p) in
    record {
      events = events;
      played = p;
      done = (
        subst (λ (r : Report). Reports (site_of held.topology) events r) (sym c.in_ok-new.ensures.ok) (c.in_ok-report.ensures held.topology events is),
        refl,
      );
    }

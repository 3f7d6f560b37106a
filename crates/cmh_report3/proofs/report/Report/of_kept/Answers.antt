use Rattle.std.proofs.Common.{◌-◌, ℕ, List, map, sym, ap, ◌∙◌}
use Rattle.cmh_frames.proofs.Members.{found_at, found_from}
use Rattle.cmh_report3.specs.declared.cycle.Deadlock.{Deadlock}
use Rattle.cmh_report3.specs.Transit.{got_in, kept}
use Rattle.cmh_report3.proofs.Fitting.{run_fits}
use Rattle.cmh_report3.proofs.Keeping.{same_fit, same_got, same_length, same_told, same_waits}
use Rattle.cmh_report3.proofs.Standing.{declared_told, leave_own, leaving_told}
use Rattle.cmh_topology3.specs.Topology.{site_of}
use Rattle.cmh_report3.proofs.report.Report.of_kept.Goals as goal

pub leaving_by-requires : goal.leaving_by-requires
leaving_by-requires c =
    let some = c.requires in
    leave_own some.0 some.1 some.2.is_run c.args.controllers.now some.2.stand

pub declared_of-requires : goal.declared_of-requires
declared_of-requires c =
    let some = c.requires in
    same_fit c.args.events.now some.1 some.2.events_are (run_fits (site_of some.0) some.1 some.2.is_run)

pub returns : goal.returns
returns c = λ t run is.
    let es = c.args.events.now in
    let cs = c.args.controllers.now in
    let names : List ℕ = map (λ (d : Deadlock). d.process) c.in_ok-declared_of.field-0.items in
    record {
      counted = same_length es run is.events_are;
      under_way = c.saturating_sub.ensures ∙ ap (λ n. c.args.sent - n) (c.got_in.ensures ∙ ap kept (same_got es run is.events_are))
          ∙ ap (λ m. m - kept (got_in run)) is.sent_is;
      waits = λ j k.
          let pairs = c.in_ok-pairs.ensures.pairs j k in
          let are = c.in_ok-waits_of.ensures j k ∙ same_waits es run is.events_are j k in
          (λ h. sym are ∙ pairs.0 h, λ h. pairs.1 (are ∙ h));
      waits_ascend = c.in_ok-pairs.ensures.ascending;
      leaving = λ j k.
          let pairs = c.in_ok-pairs-2.ensures.pairs j k in
          let are = c.in_ok-leaving_by.ensures j k in
          let told = leaving_told t run is.is_run cs is.stand j k in
          (λ h. told.0 (sym are ∙ pairs.0 h), λ h. pairs.1 (are ∙ told.1 h));
      leaving_ascend = c.in_ok-pairs-2.ensures.ascending;
      declared = λ i.
          let all = c.in_ok-declared_of.ensures.all i in
          let told = declared_told t run is.is_run cs is.stand i in
          (λ h. told.0 (sym all ∙ found_from names i h), λ h. found_at names i (all ∙ told.1 h));
      declared_ascend = c.in_ok-declared_of.ensures.ascending;
      told = same_told es run is.events_are _ c.in_ok-declared_of.ensures.told;
    }

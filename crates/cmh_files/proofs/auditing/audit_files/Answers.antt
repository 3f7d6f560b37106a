use Rattle.std.proofs.Common.{rules, ◌≡◌, List, sym, subst, refl}
use Rattle.std.specs.Prelude.{IsOk}
use Rattle.cmh_frames.specs.Rows.{Row}
use Rattle.cmh_frames.specs.Topology.{IsTopologyOf}
use Rattle.cmh_journal.specs.Journal.{Journal}
use Rattle.cmh_audit.specs.Set.{IsSet}
use Rattle.cmh_audit.specs.Verdicts.{IsVerdictOn}
use Rattle.cmh_console.proofs.TopologyFiles.{says_topology}
use Rattle.cmh_files.proofs.auditing.audit_files.Goals as goal

pub returns-clause-audits : goal.returns-clause-audits
returns-clause-audits c =
    let journals = c.in_ok-journals.field-0.journals.items in
    let world = c.in_ok-world.world in
    let checked : c.deref-2.result.now ≡ journals = search rules in
    let audited : c.deref-3.result.now ≡ journals = search rules in
    let set : IsSet world journals = subst (λ (js : List Journal). IsSet world js) checked (c.check_set.ensures.ok.0 (subst IsOk (sym c.in_ok-check_set.was) refl)) in
    let verdict_is : IsVerdictOn world journals c.in-Ok.verdict = subst (λ (js : List Journal). IsVerdictOn world js c.in-Ok.verdict) audited (record {
      accepted = c.in-Ok.ensures.accepted;
      report = c.in-Ok.ensures.report;
      order = c.in-Ok.ensures.order;
      counted = c.in-Ok.ensures.events;
      stops = c.in-Ok.ensures.stops;
      tries = c.in-Ok.ensures.tries;
    }) in
    let read = c.in_ok-journals.ensures.read in
    let topology_is = subst (λ (rows : List Row). IsTopologyOf c.in_ok-file.file.edition rows world) c.deref.ensures.value c.in_ok-world.ensures.ok in
    record {
      says = says_topology _ _ _ _ c.in_ok-file.ensures.says topology_is;
      read = read;
      set = set;
      verdict_is = verdict_is;
      headline = c.headline_law.ensures.headline _ journals _ c.in-Ok.verdict read set verdict_is;
    }

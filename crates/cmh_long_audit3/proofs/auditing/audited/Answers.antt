use Rattle.std.proofs.Common.{List, true≢false, ap, sym, subst, ◌∙◌}
use Rattle.cmh_frames.specs.Rows.{Row}
use Rattle.cmh_topology3.specs.Topology.{IsTopologyOf}
use Rattle.cmh_history3.specs.Histories.{FindsIn}
use Rattle.cmh_history3.specs.declared.verdict.HistoryVerdict.{HistoryVerdict}
use Rattle.cmh_long_audit3.specs.declared.auditing.Told.{Told}
use Rattle.cmh_long_audit3.proofs.Zips.{all_bases, says_topology}
use Rattle.cmh_long_audit3.proofs.auditing.audited.Goals as goal
use Rattle.cmh_long_audit3.proofs.auditing.audited.Goals.{in-Accepted+in_ok-told-in-Accepted, in-Refused+in_ok-told-in-Refused, in-Apart+in_ok-told-in-Apart}

pub audit_history-requires : goal.audit_history-requires
audit_history-requires g c = (c.type_bounds.sync-R, all_bases _ _ c.in_ok-journals.ensures)

pub returns : goal.returns
returns g c = λ yes.
    let world = c.in_ok-world.world in
    let journals = c.in_ok-journals.journals.items in
    let topology_is = subst (λ (rows : List Row). IsTopologyOf c.in_ok-file.file.world rows world) c.deref.ensures.value c.in_ok-world.ensures.ok in
    elim c.match-verdict.branch [
      | in-Accepted+in_ok-told-in-Accepted w ↦ record {
        world = world;
        says = says_topology _ _ _ _ c.in_ok-file.ensures.says topology_is;
        journals = journals;
        read = c.in_ok-journals.ensures;
        one = subst (λ (v : HistoryVerdict). FindsIn world journals v) w.in-Accepted.is c.in-Ok.ensures;
        report = w.in_ok-told-in-Accepted.ensures (sym (ap (λ (told : Told). told.is_accepted) w.told-is) ∙ yes);
      }
      | in-Refused+in_ok-told-in-Refused w ↦ absurd (true≢false (sym yes ∙ ap (λ (told : Told). told.is_accepted) w.told-is ∙ w.in_ok-told-in-Refused.ensures))
      | in-Apart+in_ok-told-in-Apart w ↦ absurd (true≢false (sym yes ∙ ap (λ (told : Told). told.is_accepted) w.told-is ∙ w.in_ok-told-in-Apart.ensures))
    ]

use Rattle.std.proofs.Common.{List, subst}
use Rattle.cmh_frames.specs.Rows.{Row}
use Rattle.cmh_topology3.specs.Topology.{IsTopologyOf}
use Rattle.cmh_history3.specs.Findings.{Finds}
use Rattle.cmh_history3.specs.declared.chain.ChainVerdict.{ChainVerdict}
use Rattle.cmh_long_audit3.proofs.Ranges.{part_bases}
use Rattle.cmh_long_audit3.proofs.Zips.{says_topology}
use Rattle.cmh_long_audit3.proofs.part.audited_part.Goals as goal

pub audit_part-requires : goal.audit_part-requires
audit_part-requires g c = (c.type_bounds.sync-R, part_bases c.args.range _ _ c.in_ok-journals.ensures)

pub returns : goal.returns
returns g c = λ yes.
    let world = c.in_ok-world.world in
    let journals = c.in_ok-journals.journals.items in
    let part = c.in-Ok.part in
    let topology_is = subst (λ (rows : List Row). IsTopologyOf c.in_ok-file.file.world rows world) c.deref.ensures.value c.in_ok-world.ensures.ok in
    record {
      world = world;
      says = says_topology _ _ _ _ c.in_ok-file.ensures.says topology_is;
      journals = journals;
      read = c.in_ok-journals.ensures;
      epochs = part.epochs.items;
      one = record {
        epochs_are = c.in-Ok.ensures.epochs;
        one = subst (λ (v : ChainVerdict). Finds world part.epochs.items v) (c.in_ok-told.ensures yes) c.in-Ok.ensures.found;
      };
    }

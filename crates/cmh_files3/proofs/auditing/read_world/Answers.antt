use Rattle.std.proofs.Common.{List, subst}
use Rattle.cmh_frames.specs.Rows.{Row}
use Rattle.cmh_topology3.specs.Topology.{IsTopologyOf}
use Rattle.cmh_segment3.specs.declared.segment.Segment.{Segment}
use Rattle.cmh_audit3.specs.Set.{IsSet}
use Rattle.cmh_files3.proofs.FileLemmas.{says_topology}
use Rattle.cmh_files3.proofs.auditing.read_world.Goals as goal

pub returns-clause-read : goal.returns-clause-read
returns-clause-read c =
    let world = c.in_ok-world.world in
    let topology_is = subst (λ (rows : List Row). IsTopologyOf c.in_ok-file.file.world rows world) c.deref.ensures.value c.in_ok-world.ensures.ok in
    record {
      says = says_topology _ _ _ _ c.in_ok-file.ensures.says topology_is;
      read = c.in_ok-segments.ensures.read;
      set = subst (λ (gs : List Segment). IsSet world gs) c.deref-2.ensures.value c.in_ok-check_set.ensures.ok;
    }

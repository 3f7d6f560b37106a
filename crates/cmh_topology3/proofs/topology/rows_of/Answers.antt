use Rattle.std.proofs.Common.{ap, ◌∙◌}
use Rattle.std.specs.List.{list_any}
use Rattle.cmh_frames.specs.Inner.Kept.{is_bad}
use Rattle.cmh_frames.proofs.Built.{good_members}
use Rattle.cmh_topology3.proofs.topology.rows_of.Goals as goal

pub processes_in_order-requires : goal.processes_in_order-requires
processes_in_order-requires c = ap (list_any is_bad) c.processes_of.ensures ∙ good_members c.args.given.now _ c.requires

use Rattle.std.proofs.Common.{take, drop, sym, subst, take-append-drop}
use Rattle.cmh_controller.specs.Replays.{IsReplay}
use Rattle.cmh_frames.specs.Journals.{IsLawful}
use Rattle.cmh_frames.specs.State.{empty_state}
use Rattle.cmh_frames.proofs.Journals.{lawful_front}
use Rattle.cmh_files.proofs.own.controller_after.Goals as goal

-- lawful entries stop no replay
pub unreachable-requires : goal.unreachable-requires
unreachable-requires c =
    let n = c.in-StopsAt.field-0 in
    let entries = c.args.entries.now in
    let stops = subst (IsReplay c.args.topology.now c.args.site entries) c.in-StopsAt.is c.in_ok-controller.ensures in
    stops.3 (lawful_front c.args.topology.now c.args.site empty_state (take n entries) (drop n entries)
    (subst (IsLawful c.args.topology.now c.args.site) (sym (take-append-drop n entries)) c.requires))

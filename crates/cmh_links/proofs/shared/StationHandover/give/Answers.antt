use Rattle.std.proofs.Common.{sym, ◌∙◌}
use Rattle.cmh_links.proofs.Batches.{some_frames}
use Rattle.cmh_links.proofs.shared.StationHandover.give.Goals as goal

pub returns-in-Err : goal.returns-in-Err
returns-in-Err g c = some_frames c.loop-rest.rest.now c.args.frames.now (sym c.is_empty.ensures ∙ c.loop-rest-test.true) c.loop-rest.invariant

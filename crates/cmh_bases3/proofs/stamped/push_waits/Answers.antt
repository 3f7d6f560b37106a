use Rattle.std.proofs.Common.{◌++◌, ◌∙◌, List, map, ap, arith}
use Rattle.std.proofs.lemmas.List.{take_all}
use Rattle.cmh_controller3.specs.Controller.{state_of}
use Rattle.cmh_segment3.specs.declared.rows.StampedPair.{StampedPair}
use Rattle.cmh_bases3.proofs.BaseRows.{waits_are}
use Rattle.cmh_bases3.specs.Inner.Rows.{row_of_wait}
use Rattle.cmh_waits3.specs.declared.wait.Wait.{Wait}
use Rattle.cmh_bases3.proofs.stamped.push_waits.Goals as goal

pub returns : goal.returns
returns c =
    let ws = c.stamped_waits-wait-items.result.now in
    let told = c.stamped_waits-wait-items.ensures in
    c.loop-wait.invariant ∙ ap (λ (l : List Wait). c.args.rows.now.items ++ map (row_of_wait c.args.asker) l) (take_all c.loop-wait.wait-index ws (omega arith))
    ∙ ap (λ (l : List StampedPair). c.args.rows.now.items ++ l) (waits_are (state_of c.args.controller.now) c.args.asker ws told.targets told.ascending told.since)

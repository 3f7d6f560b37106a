use Rattle.std.proofs.Common.{◌∙◌, ap, arith}
use Rattle.std.specs.List.{flat_map}
use Rattle.std.proofs.lemmas.List.{take_all}
use Rattle.cmh_controller3.specs.Controller.{state_of}
use Rattle.cmh_bases3.proofs.BaseRows.{waits_of_all}
use Rattle.cmh_bases3.specs.Inner.Rows.{waits_from}
use Rattle.cmh_bases3.proofs.stamped.wait_rows.Goals as goal

pub returns : goal.returns
returns c =
    let ms = c.members-asker-items.result.now in
    let told = c.members-asker-items.ensures in
    c.new.ensures ∙ c.loop-asker.invariant ∙ ap (flat_map (waits_from (state_of c.args.controller.now))) (take_all c.loop-asker.asker-index ms (omega arith))
    ∙ waits_of_all c.args.controller.now told.facts ms told.at_home told.ascending

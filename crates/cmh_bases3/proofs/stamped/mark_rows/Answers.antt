use Rattle.std.proofs.Common.{◌∙◌, ℕ, List, ap, arith}
use Rattle.std.specs.List.{flat_map}
use Rattle.std.proofs.lemmas.List.{take_all}
use Rattle.cmh_controller3.specs.Controller.{home_of, state_of}
use Rattle.cmh_model3.specs.Lists.{in_list}
use Rattle.cmh_bases3.proofs.BaseRows.{marked_member, marks_of_all}
use Rattle.cmh_bases3.specs.Inner.Rows.{marks_from}
use Rattle.cmh_bases3.proofs.stamped.mark_rows.Goals as goal

pub returns-clause-rows : goal.returns-clause-rows
returns-clause-rows c =
    let ms = c.members-process-items.result.now in
    let told = c.members-process-items.ensures in
    c.new.ensures ∙ c.loop-process.invariant.rows ∙ ap (flat_map (marks_from (state_of c.args.controller.now))) (take_all c.loop-process.process-index ms (omega arith))
    ∙ marks_of_all c.args.controller.now told.facts ms told.at_home told.ascending

pub returns-clause-numbers : goal.returns-clause-numbers
returns-clause-numbers c = λ k i some.
    let ms = c.members-process-items.result.now in
    let told = c.members-process-items.ensures in
    let all = take_all c.loop-process.process-index ms (omega arith) in
    let there = marked_member (home_of c.args.controller.now) c.args.controller.now.site (state_of c.args.controller.now) told.facts.facts ms told.at_home k i some in
    c.loop-process.invariant.numbers k i (ap (λ (l : List ℕ). in_list l k) all ∙ there) some

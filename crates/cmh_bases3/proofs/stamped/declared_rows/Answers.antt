use Rattle.std.proofs.Common.{◌≡◌, ◌∙◌, ℕ, List, map, ap, subst, arith}
use Rattle.std.specs.List.{AllByRecursion, filter}
use Rattle.std.proofs.lemmas.List.{take_all}
use Rattle.cmh_controller3.specs.Controller.{state_of}
use Rattle.cmh_runs.specs.Number.{IsNumber}
use Rattle.cmh_segment3.specs.States.{all_numbers, stamp_of}
use Rattle.cmh_bases3.proofs.Numbers.{ascends, some_numbers}
use Rattle.cmh_bases3.specs.Inner.Rows.{stamped_of}
use Rattle.cmh_bases3.proofs.stamped.declared_rows.Goals as goal

pub returns : goal.returns
returns c =
    let v = state_of c.args.controller.now in
    let ps = c.in_ok-processes.processes.items in
    let told = c.in_ok-processes.ensures in
    let all = take_all c.loop-process.process-index c.as_slice-process-items.result.now (omega arith) ∙ c.as_slice-process-items.ensures.value in
    let numbers = subst (λ (l : List ℕ). AllByRecursion IsNumber l) all c.loop-process.invariant.numbers in
    let listed : ps ≡ filter v.declared all_numbers = some_numbers v.declared ps (ascends ps told.ascending) numbers told.all in
    c.new.ensures ∙ c.loop-process.invariant.rows ∙ ap (map (stamped_of (stamp_of c.args.stops.now))) (all ∙ listed)

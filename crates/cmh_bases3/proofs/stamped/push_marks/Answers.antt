use Rattle.std.proofs.Common.{◌++◌, ◌∙◌, List, map, sym, ap, subst, arith}
use Rattle.std.specs.List.{AllByRecursion, filter}
use Rattle.std.proofs.lemmas.List.{take_all}
use Rattle.cmh_controller3.specs.Controller.{state_of}
use Rattle.cmh_controller3.specs.declared.mark_row.Mark.{Mark}
use Rattle.cmh_runs.specs.Number.{IsNumber}
use Rattle.cmh_segment3.specs.declared.rows.StampedPair.{StampedPair}
use Rattle.cmh_bases3.proofs.BaseRows.{marked_number, marks_are}
use Rattle.cmh_bases3.specs.Inner.Rows.{is_mark, row_of_mark}
use Rattle.cmh_bases3.proofs.stamped.push_marks.Goals as goal

pub returns-clause-rows : goal.returns-clause-rows
returns-clause-rows c =
    let ms = c.marks_of-mark-items.result.now in
    let told = c.marks_of-mark-items.ensures in
    let all = take_all c.loop-mark.mark-index ms (omega arith) in
    let numbers = subst (λ (l : List Mark). AllByRecursion (λ (m : Mark). IsNumber m.origin) l) all c.loop-mark.invariant.numbers in
    c.loop-mark.invariant.rows ∙ ap (λ (l : List Mark). c.args.rows.now.items ++ map (row_of_mark c.args.process) (filter is_mark l)) all
    ∙ ap (λ (l : List StampedPair). c.args.rows.now.items ++ l) (marks_are (state_of c.args.controller.now) c.args.process ms told.ascending numbers told.stamps)

pub returns-clause-numbers : goal.returns-clause-numbers
returns-clause-numbers c = λ i some.
    let ms = c.marks_of-mark-items.result.now in
    let all = take_all c.loop-mark.mark-index ms (omega arith) in
    let numbers = subst (λ (l : List Mark). AllByRecursion (λ (m : Mark). IsNumber m.origin) l) all c.loop-mark.invariant.numbers in
    marked_number ms i numbers (λ none. some (sym (c.marks_of-mark-items.ensures.stamps i) ∙ none))

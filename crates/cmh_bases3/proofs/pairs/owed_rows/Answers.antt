use Rattle.std.proofs.Common.{◌≡◌, ◌∙◌, ◌++◌, ℕ, List, get_or, map, ap, subst, arith}
use Rattle.std.specs.List.{AllByRecursion, filter, flat_map}
use Rattle.std.proofs.lemmas.List.{get_or_default, take_all}
use Rattle.cmh_controller3.specs.Controller.{state_of}
use Rattle.cmh_runs.specs.Number.{IsNumber}
use Rattle.cmh_segment3.specs.States.{all_numbers}
use Rattle.cmh_bases3.proofs.Numbers.{ascends, some_numbers}
use Rattle.cmh_bases3.proofs.BaseRows.{one_more, owed_of_all}
use Rattle.cmh_bases3.specs.Inner.Rows.{pair_of, pairs_from}
use Rattle.cmh_bases3.proofs.pairs.owed_rows.Goals as goal

pub loop-holder-preserved : goal.loop-holder-preserved
loop-holder-preserved c =
    let v = state_of c.args.controller.now in
    let ms = c.members-holder-items.result.now in
    let i = c.loop-holder.holder-index in
    let a = c.holder-item.result in
    let is : a ≡ get_or ms i 0 = c.holder-item.is ∙ get_or_default ms i a 0 c.loop-holder-test.true in
    let ks = c.in_ok-askers.askers.items in
    let told = c.in_ok-askers.ensures in
    let numbers = subst (λ (l : List ℕ). AllByRecursion IsNumber l) c.deref.ensures.value c.in_ok-push_pairs.ensures.numbers in
    let listed : ks ≡ filter (v.owed a) all_numbers = some_numbers (v.owed a) ks (ascends ks told.ascending) numbers told.all in
    one_more (pairs_from v.owed) ms i a c.loop-holder.rows.items c.push_pairs.new.rows.items c.loop-holder-test.true is c.loop-holder.invariant
    (c.in_ok-push_pairs.ensures.rows ∙ ap (λ (l : List ℕ). c.loop-holder.rows.items ++ map (pair_of a) l) (c.deref.ensures.value ∙ listed))

pub returns : goal.returns
returns c =
    let ms = c.members-holder-items.result.now in
    let told = c.members-holder-items.ensures in
    c.new.ensures ∙ c.loop-holder.invariant ∙ ap (flat_map (pairs_from (state_of c.args.controller.now).owed)) (take_all c.loop-holder.holder-index ms (omega arith))
    ∙ owed_of_all c.args.controller.now told.facts ms told.at_home told.ascending

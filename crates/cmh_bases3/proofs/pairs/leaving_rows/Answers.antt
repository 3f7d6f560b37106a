use Rattle.std.proofs.Common.{◌≡◌, ◌∙◌, ◌++◌, ℕ, List, get_or, map, ap, subst, inl, inr, arith}
use Rattle.std.specs.List.{AllByRecursion, filter, flat_map}
use Rattle.std.proofs.lemmas.List.{get_or_default, take_all}
use Rattle.cmh_controller3.specs.Controller.{state_of}
use Rattle.cmh_runs.specs.Number.{IsNumber}
use Rattle.cmh_segment3.specs.States.{all_numbers}
use Rattle.cmh_bases3.proofs.Numbers.{ascends, has_all, some_numbers}
use Rattle.cmh_bases3.proofs.BaseRows.{in_more, leaving_of_all, one_more}
use Rattle.cmh_bases3.specs.Inner.Rows.{pair_of, pairs_from}
use Rattle.cmh_bases3.proofs.pairs.leaving_rows.Goals as goal

pub loop-asker-preserved : goal.loop-asker-preserved
loop-asker-preserved c =
    let v = state_of c.args.controller.now in
    let ms = c.members-asker-items.result.now in
    let i = c.loop-asker.asker-index in
    let a = c.asker-item.result in
    let is : a ≡ get_or ms i 0 = c.asker-item.is ∙ get_or_default ms i a 0 c.loop-asker-test.true in
    let ks = c.in_ok-holders.holders.items in
    let told = c.in_ok-holders.ensures in
    let numbers = subst (λ (l : List ℕ). AllByRecursion IsNumber l) c.deref.ensures.value c.in_ok-push_pairs.ensures.numbers in
    let listed : ks ≡ filter (v.leaving a) all_numbers = some_numbers (v.leaving a) ks (ascends ks told.ascending) numbers told.all in
    record {
      rows = one_more (pairs_from v.leaving) ms i a c.loop-asker.rows.items c.push_pairs.new.rows.items c.loop-asker-test.true is c.loop-asker.invariant.rows
          (c.in_ok-push_pairs.ensures.rows ∙ ap (λ (l : List ℕ). c.loop-asker.rows.items ++ map (pair_of a) l) (c.deref.ensures.value ∙ listed));
      numbers = λ b k there left. elim (in_more ms i a b c.loop-asker-test.true is there) [
        | inl old ↦ c.loop-asker.invariant.numbers b k old left
        | inr e ↦ has_all IsNumber ks k numbers (told.all k ∙ ap (λ x. v.leaving x k) e ∙ left)
      ];
    }

pub returns-clause-rows : goal.returns-clause-rows
returns-clause-rows c =
    let ms = c.members-asker-items.result.now in
    let told = c.members-asker-items.ensures in
    c.new.ensures ∙ c.loop-asker.invariant.rows ∙ ap (flat_map (pairs_from (state_of c.args.controller.now).leaving)) (take_all c.loop-asker.asker-index ms (omega arith))
    ∙ leaving_of_all c.args.controller.now told.facts ms told.at_home told.ascending

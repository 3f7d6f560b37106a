use Rattle.std.proofs.Common.{◌≡◌, ◌∙◌, ℕ, get_or, refl, sym, subst, take_all}
use Rattle.std.specs.List.{All}
use Rattle.std.proofs.lemmas.List.Elements.{All-more}
use Rattle.cmh_merge.specs.Queues.{waiting}
use Rattle.cmh_history3.specs.Between.{under_way}
use Rattle.cmh_history3.proofs.Waiting.{all_here, all_next}
use Rattle.cmh_history3.proofs.queues.are_under_way.Goals as goal

pub loop-from-preserved : goal.loop-from-preserved
loop-from-preserved c =
    let sites = c.args.sites.now in
    let i = c.loop-from.from-index in
    let from = c.from-item.result in
    let first = waiting c.args.queues.now in
    let now = waiting c.loop-from.queues in
    let at : ℕ → Type 0 = λ a. All (λ b. first a b ≡ under_way c.args.next.now a b) sites in
    let same = c.if-not-are_under_way_from.ensures.same.0 refl in
    let here : at from = λ k d l. sym (all_here first now sites i from c.loop-from-test.true c.from-item.is c.loop-from.invariant.left (get_or sites k d)) ∙ same k d l in
    record {
      same = All-more at sites i from c.loop-from-test.true c.loop-from.invariant.same (subst at c.from-item.is here);
      left = all_next first now (waiting c.are_under_way_from.new.queues) sites i from c.loop-from-test.true c.from-item.is c.loop-from.invariant.left c.are_under_way_from.ensures.others;
    }

pub returns : goal.returns
returns c =
    let at : ℕ → Type 0 = λ a. All (λ b. waiting c.args.queues.now a b ≡ under_way c.args.next.now a b) c.args.sites.now in
    ((λ yes. subst (All at) (take_all c.loop-from.from-index c.args.sites.now c.loop-from-test.false) c.loop-from.invariant.same), (λ all. refl))

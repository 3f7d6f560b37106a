use Rattle.std.proofs.Common.{◌≡◌, ◌∙◌, ℕ, refl, sym, subst, take_all}
use Rattle.std.specs.List.{All}
use Rattle.std.proofs.lemmas.List.Elements.{All-more}
use Rattle.cmh_merge.specs.Queues.{waiting}
use Rattle.cmh_history3.specs.Between.{under_way}
use Rattle.cmh_history3.proofs.Waiting.{from_here, from_next}
use Rattle.cmh_history3.proofs.queues.are_under_way_from.Goals as goal

pub loop-to-preserved : goal.loop-to-preserved
loop-to-preserved c =
    let sites = c.args.sites.now in
    let i = c.loop-to.to-index in
    let to = c.to-item.result in
    let first = waiting c.args.queues.now in
    let now = waiting c.loop-to.queues in
    let at : ℕ → Type 0 = λ b. first c.args.from b ≡ under_way c.args.next.now c.args.from b in
    let here : at to = sym (from_here first now c.args.from sites i to c.loop-to-test.true c.to-item.is c.loop-to.invariant.left) ∙ c.if-not-are_waiting.ensures.same.0 refl ∙ c.under_way.ensures in
    record {
      same = All-more at sites i to c.loop-to-test.true c.loop-to.invariant.same (subst at c.to-item.is here);
      left = from_next first now (waiting c.are_waiting.new.queues) c.args.from sites i to c.loop-to-test.true c.to-item.is c.loop-to.invariant.left c.are_waiting.ensures.others;
    }

pub returns-clause-same : goal.returns-clause-same
returns-clause-same c =
    let at : ℕ → Type 0 = λ b. waiting c.args.queues.now c.args.from b ≡ under_way c.args.next.now c.args.from b in
    ((λ yes. subst (All at) (take_all c.loop-to.to-index c.args.sites.now c.loop-to-test.false) c.loop-to.invariant.same), (λ all. refl))

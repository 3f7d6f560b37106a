use Rattle.std.proofs.Common.{rules}
use Rattle.std.proofs.lemmas.List.Sorted.{answers_always}
use Rattle.cmh_waits3.proofs.Placing.{searched}
use Rattle.cmh_waits3.proofs.wait_list.place_for.Goals as goal

pub returns-clause-at : goal.returns-clause-at
returns-clause-at c =
    let facts = c.binary_search_by_key.ensures in
    (searched c.args.waits.now c.requires c.args.target _ facts.bound (facts.position (λ w. w.target) (answers_always _ _ _ (λ f a r g called. search rules)))).at

pub returns-clause-before : goal.returns-clause-before
returns-clause-before c =
    let facts = c.binary_search_by_key.ensures in
    (searched c.args.waits.now c.requires c.args.target _ facts.bound (facts.position (λ w. w.target) (answers_always _ _ _ (λ f a r g called. search rules)))).before

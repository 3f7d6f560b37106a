use Rattle.std.proofs.Common.{rules}
use Rattle.std.proofs.lemmas.List.Sorted.{answers_always}
use Rattle.cmh_controller3.proofs.Marks.{searched}
use Rattle.cmh_controller3.proofs.mark_row.place_for.Goals as goal

pub returns-clause-at : goal.returns-clause-at
returns-clause-at c =
    let facts = c.binary_search_by_key.ensures in
    (searched c.args.marks.now c.requires c.args.origin _ facts.bound (facts.position (λ m. m.origin) (answers_always _ _ _ (λ f a r g called. search rules)))).at

pub returns-clause-before : goal.returns-clause-before
returns-clause-before c =
    let facts = c.binary_search_by_key.ensures in
    (searched c.args.marks.now c.requires c.args.origin _ facts.bound (facts.position (λ m. m.origin) (answers_always _ _ _ (λ f a r g called. search rules)))).before

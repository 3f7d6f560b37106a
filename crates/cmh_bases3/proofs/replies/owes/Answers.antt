use Rattle.std.proofs.Common.{◌∙◌, rules}
use Rattle.std.proofs.lemmas.List.Sorted.{answers_always}
use Rattle.cmh_segment3.specs.Base.{pair_place}
use Rattle.cmh_bases3.proofs.Searched.{found}
use Rattle.cmh_bases3.proofs.replies.owes.Goals as goal

pub returns : goal.returns
returns c =
    let facts = c.binary_search_by_key.ensures in
    let position = facts.position pair_place (answers_always _ _ _ (λ f a r g called. search rules)) in
    c.is_ok.ensures.value ∙ found c.args.holder c.args.asker c.args.rows.now c.requires c.place_of-place.result c.place_of-place.ensures.place c.place_of-place.ensures.number _ facts.bound position

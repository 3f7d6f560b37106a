use Rattle.std.proofs.Common.{nat_lt, rules}
use Rattle.std.proofs.lemmas.Fn.{always_returns_same}
use Rattle.cmh_frames.proofs.Ascending.{ascending_where}
use Rattle.cmh_draw.proofs.columns.is_ascending.Goals as goal

pub returns : goal.returns
returns c =
    ascending_where c.args.columns.now c.is_sorted_by.result
    (c.is_sorted_by.ensures.cases (λ x y. nat_lt x y) (always_returns_same _ _ _ (λ a r f k. search rules)))

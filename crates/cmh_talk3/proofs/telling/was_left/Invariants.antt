use Rattle.std.proofs.Common.{◌≡◌, drop}
use Rattle.std.specs.List.{list_any}
use Rattle.cmh_talk3.specs.News.{is_pair}
use Rattle.cmh_talk3.proofs.telling.was_left.Given as goal

abbrev pub invariant-loop-pair : goal.invariant-loop-pair
invariant-loop-pair l = list_any (is_pair l.asker l.holder) (drop l.pair-index l.pairs) ≡ list_any (is_pair l.asker l.holder) l.pairs

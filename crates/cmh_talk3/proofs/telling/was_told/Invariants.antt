use Rattle.std.proofs.Common.{◌≡◌, drop}
use Rattle.std.specs.List.{list_any}
use Rattle.cmh_talk3.specs.News.{is_active}
use Rattle.cmh_talk3.proofs.telling.was_told.Given as goal

abbrev pub invariant-loop-item : goal.invariant-loop-item
invariant-loop-item l = list_any (is_active l.process) (drop l.item-index l.news) ≡ list_any (is_active l.process) l.news

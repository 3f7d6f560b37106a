use Rattle.std.proofs.Common.{◌≡◌, [], drop}
use Rattle.cmh_talk3.specs.News.{link_changes}
use Rattle.cmh_talk3.proofs.telling.link_news.Given as goal

abbrev pub invariant-loop-at : goal.invariant-loop-at
invariant-loop-at l = link_changes l.news.items (drop l.at l.before) (drop l.at l.after) ≡ link_changes [] l.before l.after

use Rattle.std.proofs.Common.{◌≡◌, [], drop}
use Rattle.cmh_talk3.specs.News.{taken_news}
use Rattle.cmh_talk3.proofs.telling.news_of_taken.Given as goal

abbrev pub invariant-loop-entry : goal.invariant-loop-entry
invariant-loop-entry l = taken_news l.controller l.left l.news.items (drop l.entry-index l.entries) ≡ taken_news l.controller l.left [] l.entries

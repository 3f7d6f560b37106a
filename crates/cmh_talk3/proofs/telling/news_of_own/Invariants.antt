use Rattle.std.proofs.Common.{◌≡◌, [], drop}
use Rattle.cmh_talk3.specs.News.{own_news}
use Rattle.cmh_talk3.proofs.telling.news_of_own.Given as goal

abbrev pub invariant-loop-at : goal.invariant-loop-at
invariant-loop-at l = own_news l.controller l.news.items (drop l.at l.events) (drop l.at l.answers) ≡ own_news l.controller [] l.events l.answers

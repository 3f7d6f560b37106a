use Rattle.std.proofs.Common.{◌≡◌, drop}
use Rattle.cmh_talk3.specs.News.{with_asked}
use Rattle.cmh_talk3.proofs.telling.put_asked.Given as goal

abbrev pub invariant-loop-holder : goal.invariant-loop-holder
invariant-loop-holder l = with_asked l.controller l.news.items l.asker (drop l.holder-index l.holders) ≡ with_asked l.controller l.fn.news.items l.asker l.holders

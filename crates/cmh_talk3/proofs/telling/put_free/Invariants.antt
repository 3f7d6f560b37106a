use Rattle.std.proofs.Common.{◌≡◌, drop}
use Rattle.cmh_talk3.specs.News.{with_free}
use Rattle.cmh_talk3.proofs.telling.put_free.Given as goal

abbrev pub invariant-loop-holder : goal.invariant-loop-holder
invariant-loop-holder l = with_free l.controller l.news.items l.asker (drop l.holder-index l.holders) ≡ with_free l.controller l.fn.news.items l.asker l.holders

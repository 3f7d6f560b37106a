use Rattle.std.proofs.Common.{◌≡◌, map, take}
use Rattle.cmh_talk3.specs.News.{declared_once}
use Rattle.cmh_talk3.proofs.telling.declared_news.Given as goal

abbrev pub invariant-loop-process : goal.invariant-loop-process
invariant-loop-process l = l.news.items ≡ map declared_once (take l.process-index l.processes)

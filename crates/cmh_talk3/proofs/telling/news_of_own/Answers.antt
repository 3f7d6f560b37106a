use Rattle.std.proofs.Common.{rules, sym, ◌∙◌}
use Rattle.cmh_talk3.proofs.Following.{own_past}
use Rattle.cmh_talk3.proofs.telling.news_of_own.Goals as goal

pub returns : goal.returns
returns c =
    sym (own_past c.args.controller.now c.loop-at.news.items c.args.events.now c.args.answers.now c.loop-at.at (search rules)) ∙ c.loop-at.invariant

use Rattle.std.proofs.Common.{rules, sym, ◌∙◌}
use Rattle.cmh_talk3.proofs.Following.{link_past}
use Rattle.cmh_talk3.proofs.telling.link_news.Goals as goal

pub returns : goal.returns
returns c = sym (link_past c.loop-at.news.items c.args.before.now c.args.after.now c.loop-at.at (search rules)) ∙ c.loop-at.invariant

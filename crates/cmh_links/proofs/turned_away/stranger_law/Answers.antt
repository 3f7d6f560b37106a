use Rattle.cmh_links.proofs.Strangers.{turned_away}
use Rattle.cmh_links.proofs.turned_away.stranger_law.Goals as goal

pub returns : goal.returns
returns c = turned_away

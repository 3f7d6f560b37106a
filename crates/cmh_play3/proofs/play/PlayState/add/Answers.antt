use Rattle.cmh_play3.proofs.Turns.{late_site}
use Rattle.cmh_play3.proofs.play.PlayState.add.Goals as goal

pub returns-in-Played : goal.returns-in-Played
returns-in-Played c = late_site c.args.self.now c.in-Played.field-0 c.args.row c.in-Played.is

use Rattle.cmh_play3.proofs.Turns.{late_edition}
use Rattle.cmh_play3.proofs.play.PlayState.edition.Goals as goal

pub returns-in-Played : goal.returns-in-Played
returns-in-Played c = late_edition c.args.self.now c.in-Played.field-0 c.in-Played.is

use Rattle.cmh_links.proofs.Batches.{some_left, took_all, took_part}
use Rattle.cmh_links.proofs.lent.LentHandover.hand_all.Goals as goal

pub returns-in-Ok-clause-ok : goal.returns-in-Ok-clause-ok
returns-in-Ok-clause-ok g c = took_all c.args.from c.args.frames.now c.args.self.now.station.core c.take_frames.new.self.core c.in-Ok.ensures.ok

pub returns-in-Err-clause-part : goal.returns-in-Err-clause-part
returns-in-Err-clause-part g c = took_part c.args.from c.args.frames.now c.in-Err.refusal c.args.self.now.station.core c.take_frames.new.self.core c.in-Err.ensures.refused

pub returns-in-Err-clause-some : goal.returns-in-Err-clause-some
returns-in-Err-clause-some g c = some_left c.args.from c.args.frames.now c.in-Err.refusal c.args.self.now.station.core c.take_frames.new.self.core c.in-Err.ensures.refused

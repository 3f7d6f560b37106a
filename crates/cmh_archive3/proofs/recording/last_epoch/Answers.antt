use Rattle.cmh_archive3.proofs.Keeping.{last_is}
use Rattle.cmh_archive3.proofs.recording.last_epoch.Goals as goal

pub returns-in-len1-up : goal.returns-in-len1-up
returns-in-len1-up c = last_is c.args.segments.now c.last-item.result c.in-len1-up.len_at_least c.last-item.is

use Rattle.cmh_talk.proofs.Taking.{first_failed, taken_all}
use Rattle.cmh_host.proofs.together.take_together.Goals as goal

pub returns-in-Ok-clause-taken : goal.returns-in-Ok-clause-taken
returns-in-Ok-clause-taken g c = taken_all _ _ c.in-Ok.ensures.ok

pub returns-in-Err-Disk-clause-first : goal.returns-in-Err-Disk-clause-first
returns-in-Err-Disk-clause-first g c =
    let h = c.in-Err-Disk.ensures.refused in
    let failed = rw c.in-Err-Disk.field-0-is at h.2 in
    first_failed h.0 h.1 _ failed.0 failed.1

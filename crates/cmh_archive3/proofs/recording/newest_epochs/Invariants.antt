use Rattle.std.proofs.Common.{◌≡◌, map, take}
use Rattle.cmh_archive3.specs.Recording.{last_epoch}
use Rattle.cmh_archive3.proofs.recording.newest_epochs.Given as goal

abbrev pub invariant-loop-segments : goal.invariant-loop-segments
invariant-loop-segments l = l.newest.items ≡ map (λ segments. last_epoch segments.items) (take l.segments-index l.journals)

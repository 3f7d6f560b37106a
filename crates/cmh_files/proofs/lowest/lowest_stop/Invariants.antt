use Rattle.cmh_files.proofs.CommonStops.{SoFar, total_left}
use Rattle.cmh_files.proofs.lowest.lowest_stop.Given as goal

abbrev pub invariant-loop-sender : goal.invariant-loop-sender
invariant-loop-sender l = SoFar l.first l.journals l.stop.items l.walks.items

abbrev pub decreases-loop-sender : goal.decreases-loop-sender
decreases-loop-sender l = total_left l.walks.items

use Rattle.cmh_history3.proofs.Taking.{SoFar, total}
use Rattle.cmh_history3.proofs.epochs.epochs_of.Given as goal

abbrev pub invariant-loop-epoch : goal.invariant-loop-epoch
invariant-loop-epoch l = SoFar l.fn.journals.items l.epochs.items l.left.items

abbrev pub decreases-loop-epoch : goal.decreases-loop-epoch
decreases-loop-epoch l = total l.left.items

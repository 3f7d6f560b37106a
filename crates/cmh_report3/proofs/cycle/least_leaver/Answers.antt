use Rattle.std.proofs.Common.{ℕ, ◌+◌, Option, take, ◌∙◌, sym, subst}
use Rattle.cmh_report3.specs.Inner.Leavers.{IsLeastIn}
use Rattle.cmh_report3.specs.Inner.Pairs.{has_pair}
use Rattle.cmh_report3.proofs.Leavers.{hit_here, miss_here}
use Rattle.cmh_report3.proofs.cycle.least_leaver.Goals as goal
use Rattle.cmh_report3.proofs.cycle.least_leaver.Goals.{then-has, else-has}

pub loop-place-preserved : goal.loop-place-preserved
loop-place-preserved c =
    let members = c.args.members.now in
    let left = has_pair c.args.left.now in
    let place = c.loop-place.place in
    let P : Option ℕ → Type 0 = λ o. IsLeastIn left (take (place + 1) members) o in
    elim c.if-has.branch [
      | then-has w ↦
          subst P (sym w.least-is)
          (hit_here left members place c.index-members-place.result w.index-members-place-then-has.result c.index-members-place-in-loop-place.result c.loop-place.least w.lesser.result
          c.loop-place.auto.place c.loop-place-test.true c.index-members-place.is w.index-members-place-then-has.is c.index-members-place-in-loop-place.is
          (sym c.has.ensures ∙ w.if-has.true) c.loop-place.invariant w.lesser.ensures)
      | else-has w ↦
          subst P (sym w.least-is)
          (miss_here left members place c.index-members-place.result c.index-members-place-in-loop-place.result c.loop-place.least
          c.loop-place.auto.place c.loop-place-test.true c.index-members-place.is c.index-members-place-in-loop-place.is
          (sym c.has.ensures ∙ w.if-has.false) c.loop-place.invariant)
    ]

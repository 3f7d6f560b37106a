use Rattle.std.specs.Prelude.{◌≡◌, [], IfNone}
use Rattle.cmh_audit.specs.Inner.Merging.{AreLeftAt}
use Rattle.cmh_audit.specs.Inner.Ready.{with_turn}
use Rattle.cmh_audit.proofs.OrderLemmas.{IsKept}
use Rattle.cmh_audit.proofs.ReadyLemmas.{Listed, work}
use Rattle.cmh_audit.proofs.merge.merge.Given as goal

abbrev pub invariant-loop-turn : goal.invariant-loop-turn
invariant-loop-turn l = record {
  listed : Listed l.topology l.journals l.limits l.taken.items l.links l.schedule.lacks.items (with_turn l.turn l.schedule.ready.items) l.tries;
  last : IfNone l.turn (l.schedule.ready.items ≡ []);
  left : AreLeftAt l.journals l.taken.items l.walks.items;
  kept : IsKept l.keeps_order l.topology l.journals l.taken.items l.steps.items;
}

abbrev pub decreases-loop-turn : goal.decreases-loop-turn
decreases-loop-turn l = work l.journals l.taken.items (with_turn l.turn l.schedule.ready.items)

use Rattle.cmh_audit.proofs.ReadyLemmas.{places_start, places_more}
use Rattle.cmh_audit.proofs.merge.all_below.Goals as goal

pub loop-k-init : goal.loop-k-init
loop-k-init c = places_start c.new-all.result.items c.new-all.ensures.items

pub loop-k-preserved : goal.loop-k-preserved
loop-k-preserved c = places_more c.loop-k.all.items c.push.new.self.items c.loop-k.k c.loop-k.invariant c.in_ok-push.ensures.items

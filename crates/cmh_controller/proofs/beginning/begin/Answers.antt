use Rattle.std.proofs.Common.{◌≡◌, List, ◌++◌, IsSome, map, sym, subst}
use Rattle.std.specs.List.{AllByRecursion}
use Rattle.std.proofs.lemmas.Result.{IfOk-weaker}
use Rattle.cmh_frames.specs.declared.frame.Frame.{Frame}
use Rattle.cmh_frames.specs.Topology.{home}
use Rattle.cmh_controller.specs.Destinations.{addressed, receiver_of}
use Rattle.cmh_controller.proofs.Probing.{receivers_known, begins_declared, begins_probes}
use Rattle.cmh_controller.proofs.beginning.begin.Goals as goal

pub send_each-requires : goal.send_each-requires
send_each-requires c =
    let verdict = rw c.in-Send.is at c.in_ok-start.ensures in
    subst (λ (fs : List Frame). AllByRecursion (λ frame. IsSome (home c.args.here.now.topology.now (receiver_of frame))) fs) (sym c.deref.ensures.value)
    (receivers_known c.args.here.now.topology.now c.args.here.now.site c.args.here.now.waits.now c.requires.of_site c.args.process c.args.process c.in-Send.frames.items verdict.1)

pub returns-in-Declared-clause-begins : goal.returns-in-Declared-clause-begins
returns-in-Declared-clause-begins c =
    let verdict = rw c.in-Declared.is at c.in_ok-start.ensures in
    IfOk-weaker c.declare.result _ _ (λ found is. begins_declared c.args.here.now.topology.now c.args.here.now.site c.args.here.now.waits.now c.requires.of_site c.args.declared.now c.args.process c.args.sent.now.items found verdict is) c.declare.ensures.new

pub returns-in_ok-send_each-in-Send-clause-begins : goal.returns-in_ok-send_each-in-Send-clause-begins
returns-in_ok-send_each-in-Send-clause-begins c =
    let verdict = rw c.in-Send.is at c.in_ok-start.ensures in
    let added = subst (λ (fs : List Frame). c.send_each.new.sent.items ≡ c.args.sent.now.items ++ map (addressed c.args.here.now.topology.now) fs) c.deref.ensures.value c.in_ok-send_each-in-Send.ensures in
    begins_probes c.args.here.now.topology.now c.args.here.now.site c.args.here.now.waits.now c.requires.of_site c.args.declared.now c.args.process c.in-Send.frames.items _ _ verdict.0 verdict.1 added

use Rattle.std.proofs.Common.{subst}
use Rattle.cmh_frames.specs.Entries.{Entry}
use Rattle.cmh_journal.specs.WholeEntries.{EachStepWhole, WaitsStayFew}
use Rattle.cmh_play.proofs.Readiness.{kept_after, pushable, ready_after}
use Rattle.cmh_play.proofs.site.take.Goals as goal

pub returns-in_err-send_all-in-Ok-clause-ready : goal.returns-in_err-send_all-in-Ok-clause-ready
returns-in_err-send_all-in-Ok-clause-ready c =
    let entry : Entry = record { event = c.args.event; sent = c.in-Ok.outcome.sent; declared = c.in-Ok.outcome.declared } in
    let few = subst WaitsStayFew c.topology.ensures c.whole_law.ensures.few_waits in
    ready_after c.args.controller.now.topology c.args.controller.now c.requires.ready entry c.in-Ok.ensures.accepted c.in-Ok.ensures.sent few c.step.new.self c.in-Ok.ensures.after

pub add-requires-clause-whole : goal.add-requires-clause-whole
add-requires-clause-whole c =
    let entry : Entry = record { event = c.args.event; sent = c.in-Ok.outcome.sent; declared = c.in-Ok.outcome.declared } in
    let step = subst EachStepWhole c.topology.ensures c.whole_law.ensures.step in
    pushable c.args.controller.now.topology c.args.controller.now c.requires.ready entry c.in-Ok.ensures.accepted c.in-Ok.ensures.sent step c.args.history.now.journals c.requires.edition c.args.place

pub returns-in_err-add-in-Ok-clause-ready : goal.returns-in_err-add-in-Ok-clause-ready
returns-in_err-add-in-Ok-clause-ready c =
    let entry : Entry = record { event = c.args.event; sent = c.in-Ok.outcome.sent; declared = c.in-Ok.outcome.declared } in
    let few = subst WaitsStayFew c.topology.ensures c.whole_law.ensures.few_waits in
    ready_after c.args.controller.now.topology c.args.controller.now c.requires.ready entry c.in-Ok.ensures.accepted c.in-Ok.ensures.sent few c.step.new.self c.in-Ok.ensures.after

pub returns-in_ok-add-in-Ok-clause-ready : goal.returns-in_ok-add-in-Ok-clause-ready
returns-in_ok-add-in-Ok-clause-ready c =
    let entry : Entry = record { event = c.args.event; sent = c.in-Ok.outcome.sent; declared = c.in-Ok.outcome.declared } in
    let few = subst WaitsStayFew c.topology.ensures c.whole_law.ensures.few_waits in
    ready_after c.args.controller.now.topology c.args.controller.now c.requires.ready entry c.in-Ok.ensures.accepted c.in-Ok.ensures.sent few c.step.new.self c.in-Ok.ensures.after

pub returns-in_ok-add-in-Ok-clause-kept : goal.returns-in_ok-add-in-Ok-clause-kept
returns-in_ok-add-in-Ok-clause-kept c =
    let entry : Entry = record { event = c.args.event; sent = c.in-Ok.outcome.sent; declared = c.in-Ok.outcome.declared } in
    kept_after c.args.controller.now.topology c.args.history.now c.add.new.self c.args.place entry c.requires.edition c.in_ok-add-in-Ok.ensures.ok

use Rattle.std.proofs.Common.{ℕ, List, ◌++◌, map, sym, ap, subst, ◌∙◌}
use Rattle.cmh_model3.specs.Stops.{declared_at}
use Rattle.cmh_report3.specs.declared.cycle.Deadlock.{Deadlock}
use Rattle.cmh_report3.specs.Declarations.{at_stop}
use Rattle.cmh_report3.proofs.Declaring.{AreToldSoFar, at_of, told_begun, told_on}
use Rattle.cmh_report3.proofs.Fitting.{run_fits}
use Rattle.cmh_report3.proofs.declarations.declarations_of.Goals as goal

pub loop-event-init : goal.loop-event-init
loop-event-init c =
    subst (λ (told : List Deadlock). AreToldSoFar c.args.events.now 0 c.new-clocks.result told) (sym c.new-told.ensures.items)
    (told_begun c.args.events.now c.new-clocks.result (run_fits c.requires.0 c.args.events.now c.requires.1) c.new-clocks.ensures)

pub push_declaration-requires-clause-fit : goal.push_declaration-requires-clause-fit
push_declaration-requires-clause-fit c = run_fits c.requires.0 c.args.events.now c.requires.1

pub loop-event-preserved : goal.loop-event-preserved
loop-event-preserved c =
    let e = c.event-item.result in
    let told = c.loop-event.told.items in
    told_on c.args.events.now c.loop-event.event-index e c.loop-event-test.true c.event-item.is
    c.loop-event.clocks c.take.new.self c.in_ok-take.ensures.clocks told c.loop-event.invariant c.push_declaration.new.told.items
    (c.in_ok-push_declaration.ensures.each ∙ ap (λ (q : ℕ). map at_of told ++ at_stop e.entry.declared (declared_at q e.entry.event)) c.at.ensures)
    c.in_ok-push_declaration.ensures.cycles

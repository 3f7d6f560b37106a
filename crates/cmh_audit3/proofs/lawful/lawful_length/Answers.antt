use Rattle.std.proofs.Common.{true≢false, map, refl, sym, subst, arith, take_all}
use Rattle.cmh_model3.specs.Journals.{state_after}
use Rattle.cmh_topology3.specs.Topology.{site_of}
use Rattle.cmh_controller3.specs.Controller.{state_of}
use Rattle.cmh_segment3.specs.Entries.{step_of}
use Rattle.cmh_audit3.specs.Standing.{StandsAt}
use Rattle.cmh_audit3.specs.Inner.Lawful.{IsLawfulLength}
use Rattle.cmh_audit3.proofs.Ends.{stops_at_end}
use Rattle.cmh_audit3.proofs.Lengths.{begins, differs_there, ends, goes_on, refused_there}
use Rattle.cmh_audit3.proofs.lawful.lawful_length.Goals as goal

pub loop-place-init : goal.loop-place-init
loop-place-init c = let k = c.args.controller.now in begins k.topology k.site (state_of k) c.args.entries.now k (record { topology = refl; site = refl; state = refl })

-- the event is refused
pub returns-in-Err-2-clause-length : goal.returns-in-Err-2-clause-length
returns-in-Err-2-clause-length c =
    let k = c.args.controller.now in
    refused_there k.topology k.site (state_of k) c.args.entries.now c.loop-place.place c.index-entries-place.result c.loop-place.controller c.loop-place-test.true c.index-entries-place.is c.loop-place.invariant
    (λ accepts. true≢false (sym (rw (c.in-Err.ensures.accepted accepts) at c.if-eq.ensures)))

pub returns-in-Err-2-clause-controller : goal.returns-in-Err-2-clause-controller
returns-in-Err-2-clause-controller c lawful =
    let k = c.args.controller.now in
    absurd (stops_at_end k.topology k.site (state_of k) c.args.entries.now c.loop-place.place (returns-in-Err-2-clause-length c) c.loop-place-test.true lawful)

-- what it records is not what the step came to
pub returns-then-not-records-clause-length : goal.returns-then-not-records-clause-length
returns-then-not-records-clause-length c =
    let k = c.args.controller.now in
    differs_there k.topology k.site (state_of k) c.args.entries.now c.loop-place.place c.index-entries-place.result c.loop-place.controller c.loop-place-test.true c.index-entries-place.is c.loop-place.invariant
    _ c.in-Ok.outcome c.in-Ok.ensures.ok (λ same. true≢false (sym (c.if-not-records.ensures.1 same)))

pub returns-then-not-records-clause-controller : goal.returns-then-not-records-clause-controller
returns-then-not-records-clause-controller c lawful =
    let k = c.args.controller.now in
    absurd (stops_at_end k.topology k.site (state_of k) c.args.entries.now c.loop-place.place (returns-then-not-records-clause-length c) c.loop-place-test.true lawful)

pub loop-place-preserved : goal.loop-place-preserved
loop-place-preserved c =
    let k = c.args.controller.now in
    let same = c.if-not-records.ensures.0 refl in
    goes_on k.topology k.site (state_of k) c.args.entries.now c.loop-place.place c.index-entries-place.result c.loop-place.controller c.loop-place-test.true c.index-entries-place.is c.loop-place.invariant
    _ c.in-Ok.outcome c.in-Ok.ensures.ok same.0 same.1

pub returns-clause-length : goal.returns-clause-length
returns-clause-length c =
    let k = c.args.controller.now in
    let past = c.loop-place-test.false in
    let within = c.loop-place.auto.place-end in
    subst (IsLawfulLength k.topology k.site (state_of k) c.args.entries.now) (omega (arith, past, within))
    (ends k.topology k.site (state_of k) c.args.entries.now c.loop-place.place c.loop-place.controller past c.loop-place.invariant within)

pub returns-clause-controller : goal.returns-clause-controller
returns-clause-controller c lawful =
    let k = c.args.controller.now in
    subst (λ es. StandsAt k.topology k.site (state_after (site_of k.topology) k.site (state_of k) (map step_of es)) c.loop-place.controller)
    (take_all c.loop-place.place c.args.entries.now c.loop-place-test.false) c.loop-place.invariant.stands

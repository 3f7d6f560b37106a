use Rattle.std.proofs.Common.{◌+◌, List, take, drop, map, rules, sym, subst}
use Rattle.cmh_model3.specs.Lists.{IsAscending}
use Rattle.cmh_segment3.specs.Base.{stamped_pair_place}
use Rattle.cmh_segment3.specs.declared.rows.StampedPair.{StampedPair}
use Rattle.cmh_controller3.specs.Controller.{home_of, state_of}
use Rattle.cmh_controller3.specs.Restoring.{Takes}
use Rattle.cmh_bases3.specs.Bases.{AreWaits}
use Rattle.cmh_bases3.specs.Inner.Lists.{with_waits}
use Rattle.cmh_bases3.proofs.Further.{no_waits, refused, wait_refused, wait_taken}
use Rattle.cmh_bases3.proofs.Ordered.{split_there, taken_more}
use Rattle.cmh_bases3.proofs.rows.put_waits.Goals as goal

pub loop-row-init : goal.loop-row-init
loop-row-init c = no_waits c.args.controller.now c.requires.waits c.requires.since

pub returns-in_err-put_wait-clause-refused : goal.returns-in_err-put_wait-clause-refused
returns-in_err-put_wait-clause-refused c =
    let start = c.args.controller.now in
    let rows = c.args.rows.now in
    let i = c.loop-row.row-index in
    let row = c.row-item.result in
    let split = split_there rows i row c.loop-row-test.true c.row-item.is in
    let up = subst (λ (l : List StampedPair). IsAscending (map stamped_pair_place l)) split c.requires.ascending in
    let why = refused c.in_err-put_wait.field-0.0 (λ fails all. wait_refused start c.loop-row.controller (take i rows) row (drop (i + 1) rows) up c.loop-row.invariant fails
    (subst (λ (l : List StampedPair). AreWaits (home_of start) start.site (state_of start).stamp l) split all)) c.in_err-put_wait.ensures.refused in
    search rules

pub loop-row-preserved : goal.loop-row-preserved
loop-row-preserved c =
    let start = c.args.controller.now in
    let rows = c.args.rows.now in
    let i = c.loop-row.row-index in
    let row = c.row-item.result in
    let split = split_there rows i row c.loop-row-test.true c.row-item.is in
    let up = subst (λ (l : List StampedPair). IsAscending (map stamped_pair_place l)) split c.requires.ascending in
    subst (λ (l : List StampedPair). Takes (AreWaits (home_of start) start.site (state_of start).stamp l) (with_waits (home_of start) start.site l (state_of start)) start c.put_wait.new.self) (sym (taken_more rows i row c.loop-row-test.true c.row-item.is))
    (wait_taken start c.loop-row.controller (take i rows) row (drop (i + 1) rows) up c.loop-row.invariant c.put_wait.new.self c.in_ok-put_wait.ensures.ok)

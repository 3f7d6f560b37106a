use Rattle.std.proofs.Common.{◌+◌, List, take, drop, rules, sym, subst}
use Rattle.cmh_segment3.specs.declared.rows.Pair.{Pair}
use Rattle.cmh_controller3.specs.Controller.{home_of, state_of}
use Rattle.cmh_controller3.specs.Restoring.{Takes}
use Rattle.cmh_bases3.specs.Bases.{AreOwed}
use Rattle.cmh_bases3.specs.Inner.Lists.{with_owed}
use Rattle.cmh_bases3.proofs.Further.{no_owed, refused, owed_refused, owed_taken}
use Rattle.cmh_bases3.proofs.Ordered.{split_there, taken_more}
use Rattle.cmh_bases3.proofs.rows.put_owed.Goals as goal

pub loop-row-init : goal.loop-row-init
loop-row-init c = no_owed c.args.controller.now

pub returns-in_err-put_owed-clause-refused : goal.returns-in_err-put_owed-clause-refused
returns-in_err-put_owed-clause-refused c =
    let start = c.args.controller.now in
    let rows = c.args.rows.now in
    let i = c.loop-row.row-index in
    let row = c.row-item.result in
    let split = split_there rows i row c.loop-row-test.true c.row-item.is in
    let why = refused c.in_err-put_owed.field-0.0 (λ fails all. owed_refused start c.loop-row.controller (take i rows) row (drop (i + 1) rows) c.loop-row.invariant fails
    (subst (λ (l : List Pair). AreOwed (home_of start) start.site (state_of start).waits l) split all)) c.in_err-put_owed.ensures.refused in
    search rules

pub loop-row-preserved : goal.loop-row-preserved
loop-row-preserved c =
    let start = c.args.controller.now in
    let rows = c.args.rows.now in
    let i = c.loop-row.row-index in
    let row = c.row-item.result in
    let split = split_there rows i row c.loop-row-test.true c.row-item.is in
    subst (λ (l : List Pair). Takes (AreOwed (home_of start) start.site (state_of start).waits l) (with_owed l (state_of start)) start c.put_owed.new.self) (sym (taken_more rows i row c.loop-row-test.true c.row-item.is))
    (owed_taken start c.loop-row.controller (take i rows) row (drop (i + 1) rows) c.loop-row.invariant c.put_owed.new.self c.in_ok-put_owed.ensures.ok)

use Rattle.std.proofs.Common.{◌+◌, List, take, drop, rules, sym, subst}
use Rattle.cmh_segment3.specs.declared.rows.Stamped.{Stamped}
use Rattle.cmh_controller3.specs.Controller.{state_of}
use Rattle.cmh_controller3.specs.Restoring.{Takes}
use Rattle.cmh_bases3.specs.Bases.{AreDeclared}
use Rattle.cmh_bases3.specs.Inner.Lists.{with_declared}
use Rattle.cmh_bases3.proofs.Further.{no_declared, forbidden, declared_refused, declared_taken}
use Rattle.cmh_bases3.proofs.Ordered.{split_there, taken_more}
use Rattle.cmh_bases3.proofs.rows.put_declared.Goals as goal

pub loop-row-init : goal.loop-row-init
loop-row-init c = no_declared c.args.controller.now c.requires.none

pub returns-in_err-put_declared-clause-refused : goal.returns-in_err-put_declared-clause-refused
returns-in_err-put_declared-clause-refused c =
    let start = c.args.controller.now in
    let rows = c.args.rows.now in
    let i = c.loop-row.row-index in
    let row = c.row-item.result in
    let split = split_there rows i row c.loop-row-test.true c.row-item.is in
    let why = forbidden c.in_err-put_declared.field-0.0 (λ fails all. declared_refused start c.loop-row.controller (take i rows) row (drop (i + 1) rows) c.loop-row.invariant fails
    (subst (λ (l : List Stamped). AreDeclared (state_of start).waits l) split all)) c.in_err-put_declared.ensures.refused in
    search rules

pub loop-row-preserved : goal.loop-row-preserved
loop-row-preserved c =
    let start = c.args.controller.now in
    let rows = c.args.rows.now in
    let i = c.loop-row.row-index in
    let row = c.row-item.result in
    let split = split_there rows i row c.loop-row-test.true c.row-item.is in
    subst (λ (l : List Stamped). Takes (AreDeclared (state_of start).waits l) (with_declared l (state_of start)) start c.put_declared.new.self) (sym (taken_more rows i row c.loop-row-test.true c.row-item.is))
    (declared_taken start c.loop-row.controller (take i rows) row (drop (i + 1) rows) c.loop-row.invariant c.put_declared.new.self c.in_ok-put_declared.ensures.ok)

use Rattle.std.proofs.Common.{◌+◌, List, take, drop, map, rules, sym, subst}
use Rattle.cmh_model3.specs.Lists.{IsAscending}
use Rattle.cmh_segment3.specs.Base.{stamped_pair_place}
use Rattle.cmh_segment3.specs.declared.rows.StampedPair.{StampedPair}
use Rattle.cmh_controller3.specs.Controller.{state_of}
use Rattle.cmh_controller3.specs.Restoring.{Takes}
use Rattle.cmh_bases3.specs.Bases.{AreMarks}
use Rattle.cmh_bases3.specs.Inner.Lists.{with_marks}
use Rattle.cmh_bases3.proofs.Further.{no_marks, refused, mark_refused, mark_taken}
use Rattle.cmh_bases3.proofs.Ordered.{split_there, taken_more}
use Rattle.cmh_bases3.proofs.rows.put_marks.Goals as goal

pub loop-row-init : goal.loop-row-init
loop-row-init c = no_marks c.args.controller.now c.requires.none

pub returns-in_err-put_mark-clause-refused : goal.returns-in_err-put_mark-clause-refused
returns-in_err-put_mark-clause-refused c =
    let start = c.args.controller.now in
    let rows = c.args.rows.now in
    let i = c.loop-row.row-index in
    let row = c.row-item.result in
    let split = split_there rows i row c.loop-row-test.true c.row-item.is in
    let up = subst (λ (l : List StampedPair). IsAscending (map stamped_pair_place l)) split c.requires.ascending in
    let why = refused c.in_err-put_mark.field-0.0 (λ fails all. mark_refused start c.loop-row.controller (take i rows) row (drop (i + 1) rows) up c.loop-row.invariant fails
    (subst (λ (l : List StampedPair). AreMarks (state_of start).waits l) split all)) c.in_err-put_mark.ensures.refused in
    search rules

pub loop-row-preserved : goal.loop-row-preserved
loop-row-preserved c =
    let start = c.args.controller.now in
    let rows = c.args.rows.now in
    let i = c.loop-row.row-index in
    let row = c.row-item.result in
    let split = split_there rows i row c.loop-row-test.true c.row-item.is in
    let up = subst (λ (l : List StampedPair). IsAscending (map stamped_pair_place l)) split c.requires.ascending in
    subst (λ (l : List StampedPair). Takes (AreMarks (state_of start).waits l) (with_marks l (state_of start)) start c.put_mark.new.self) (sym (taken_more rows i row c.loop-row-test.true c.row-item.is))
    (mark_taken start c.loop-row.controller (take i rows) row (drop (i + 1) rows) up c.loop-row.invariant c.put_mark.new.self c.in_ok-put_mark.ensures.ok)

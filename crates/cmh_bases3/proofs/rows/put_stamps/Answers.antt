use Rattle.std.proofs.Common.{◌+◌, List, take, drop, map, rules, sym, subst}
use Rattle.cmh_model3.specs.Lists.{IsAscending}
use Rattle.cmh_segment3.specs.Base.{stamped_place}
use Rattle.cmh_segment3.specs.declared.rows.Stamped.{Stamped}
use Rattle.cmh_controller3.specs.Controller.{home_of, state_of}
use Rattle.cmh_controller3.specs.Restoring.{Takes}
use Rattle.cmh_bases3.specs.Bases.{AreStamps}
use Rattle.cmh_bases3.specs.Inner.Lists.{with_stamps}
use Rattle.cmh_bases3.proofs.Further.{no_stamps, forbidden, stamp_refused, stamp_taken}
use Rattle.cmh_bases3.proofs.Ordered.{split_there, taken_more}
use Rattle.cmh_bases3.proofs.rows.put_stamps.Goals as goal

pub loop-row-init : goal.loop-row-init
loop-row-init c = no_stamps c.args.controller.now c.requires.none

pub returns-in_err-put_stamp-clause-refused : goal.returns-in_err-put_stamp-clause-refused
returns-in_err-put_stamp-clause-refused c =
    let start = c.args.controller.now in
    let rows = c.args.rows.now in
    let i = c.loop-row.row-index in
    let row = c.row-item.result in
    let split = split_there rows i row c.loop-row-test.true c.row-item.is in
    let up = subst (λ (l : List Stamped). IsAscending (map stamped_place l)) split c.requires.ascending in
    let why = forbidden c.in_err-put_stamp.field-0.0 (λ fails all. stamp_refused start c.loop-row.controller (take i rows) row (drop (i + 1) rows) up c.loop-row.invariant fails
    (subst (λ (l : List Stamped). AreStamps (home_of start) start.site (state_of start).clock l) split all)) c.in_err-put_stamp.ensures.refused in
    search rules

pub loop-row-preserved : goal.loop-row-preserved
loop-row-preserved c =
    let start = c.args.controller.now in
    let rows = c.args.rows.now in
    let i = c.loop-row.row-index in
    let row = c.row-item.result in
    let split = split_there rows i row c.loop-row-test.true c.row-item.is in
    let up = subst (λ (l : List Stamped). IsAscending (map stamped_place l)) split c.requires.ascending in
    subst (λ (l : List Stamped). Takes (AreStamps (home_of start) start.site (state_of start).clock l) (with_stamps l (state_of start)) start c.put_stamp.new.self) (sym (taken_more rows i row c.loop-row-test.true c.row-item.is))
    (stamp_taken start c.loop-row.controller (take i rows) row (drop (i + 1) rows) up c.loop-row.invariant c.put_stamp.new.self c.in_ok-put_stamp.ensures.ok)

use Rattle.std.proofs.Common.{List, refl, rules, subst}
use Rattle.cmh_topology3.specs.Topology.{Topology, site_of}
use Rattle.cmh_wire3.specs.Wire.{IsLong}
use Rattle.cmh_segment3.specs.declared.rows.Pair.{Pair}
use Rattle.cmh_segment3.specs.declared.rows.StampedPair.{StampedPair}
use Rattle.cmh_bases3.specs.Bases.{OweWhoWaits}
use Rattle.cmh_bases3.proofs.Stages.{at_first, clock_goes_on, declared_go_on, declared_stop, left_go_on, left_stop, marks_go_on, marks_stop, owed_go_on, owed_stop, restored, stamps_go_on, waits_go_on, waits_stop}
use Rattle.cmh_bases3.proofs.controller.put_base.Goals as goal

pub returns-in_err-put_waits-clause-refused : goal.returns-in_err-put_waits-clause-refused
returns-in_err-put_waits-clause-refused c =
    let start = c.args.controller.now in
    let base = c.args.base.now in
    let timed = clock_goes_on start c.args.epoch base c.first_stamp.result c.first_stamp.ensures.clock start c.put_clock.new.self (at_first start c.args.epoch base c.requires.new) c.in_ok-put_clock.ensures.ok in
    let stamps = stamps_go_on start c.args.epoch base c.as_slice.result.now c.as_slice.ensures c.put_clock.new.self c.put_stamps.new.controller timed c.in_ok-put_stamps.ensures.ok in
    let why = waits_stop start c.args.epoch base c.as_slice-waits.result.now c.as_slice-waits.ensures c.put_stamps.new.controller stamps.1 c.in_err-put_waits.field-0.0 c.in_err-put_waits.ensures.refused in
    search rules

pub returns-in_err-put_leaving-clause-refused : goal.returns-in_err-put_leaving-clause-refused
returns-in_err-put_leaving-clause-refused c =
    let start = c.args.controller.now in
    let base = c.args.base.now in
    let timed = clock_goes_on start c.args.epoch base c.first_stamp.result c.first_stamp.ensures.clock start c.put_clock.new.self (at_first start c.args.epoch base c.requires.new) c.in_ok-put_clock.ensures.ok in
    let stamps = stamps_go_on start c.args.epoch base c.as_slice.result.now c.as_slice.ensures c.put_clock.new.self c.put_stamps.new.controller timed c.in_ok-put_stamps.ensures.ok in
    let waits = waits_go_on start c.args.epoch base c.as_slice-waits.result.now c.as_slice-waits.ensures c.put_stamps.new.controller c.put_waits.new.controller stamps.1 c.in_ok-put_waits.ensures.ok in
    let why = left_stop start c.args.epoch base c.as_slice-2.result.now c.as_slice-2.ensures c.put_waits.new.controller waits.1 c.in_err-put_leaving.field-0.0 c.in_err-put_leaving.ensures.refused in
    search rules

pub returns-in_err-put_owed-clause-refused : goal.returns-in_err-put_owed-clause-refused
returns-in_err-put_owed-clause-refused c =
    let start = c.args.controller.now in
    let base = c.args.base.now in
    let timed = clock_goes_on start c.args.epoch base c.first_stamp.result c.first_stamp.ensures.clock start c.put_clock.new.self (at_first start c.args.epoch base c.requires.new) c.in_ok-put_clock.ensures.ok in
    let stamps = stamps_go_on start c.args.epoch base c.as_slice.result.now c.as_slice.ensures c.put_clock.new.self c.put_stamps.new.controller timed c.in_ok-put_stamps.ensures.ok in
    let waits = waits_go_on start c.args.epoch base c.as_slice-waits.result.now c.as_slice-waits.ensures c.put_stamps.new.controller c.put_waits.new.controller stamps.1 c.in_ok-put_waits.ensures.ok in
    let left = left_go_on start c.args.epoch base c.as_slice-2.result.now c.as_slice-2.ensures c.put_waits.new.controller c.put_leaving.new.controller waits.1 c.in_ok-put_leaving.ensures.ok in
    let why = owed_stop start c.args.epoch base c.as_slice-owed.result.now c.as_slice-owed.ensures c.put_leaving.new.controller left.1 c.in_err-put_owed.field-0.0 c.in_err-put_owed.ensures.refused in
    search rules

pub returns-in_err-put_marks-clause-refused : goal.returns-in_err-put_marks-clause-refused
returns-in_err-put_marks-clause-refused c =
    let start = c.args.controller.now in
    let base = c.args.base.now in
    let timed = clock_goes_on start c.args.epoch base c.first_stamp.result c.first_stamp.ensures.clock start c.put_clock.new.self (at_first start c.args.epoch base c.requires.new) c.in_ok-put_clock.ensures.ok in
    let stamps = stamps_go_on start c.args.epoch base c.as_slice.result.now c.as_slice.ensures c.put_clock.new.self c.put_stamps.new.controller timed c.in_ok-put_stamps.ensures.ok in
    let waits = waits_go_on start c.args.epoch base c.as_slice-waits.result.now c.as_slice-waits.ensures c.put_stamps.new.controller c.put_waits.new.controller stamps.1 c.in_ok-put_waits.ensures.ok in
    let left = left_go_on start c.args.epoch base c.as_slice-2.result.now c.as_slice-2.ensures c.put_waits.new.controller c.put_leaving.new.controller waits.1 c.in_ok-put_leaving.ensures.ok in
    let owed = owed_go_on start c.args.epoch base c.as_slice-owed.result.now c.as_slice-owed.ensures c.put_leaving.new.controller c.put_owed.new.controller left.1 c.in_ok-put_owed.ensures.ok in
    let why = marks_stop start c.args.epoch base c.as_slice-3.result.now c.as_slice-3.ensures c.put_owed.new.controller owed.1 c.in_err-put_marks.field-0.0 c.in_err-put_marks.ensures.refused in
    search rules

pub returns-in_err-put_declared-clause-refused : goal.returns-in_err-put_declared-clause-refused
returns-in_err-put_declared-clause-refused c =
    let start = c.args.controller.now in
    let base = c.args.base.now in
    let timed = clock_goes_on start c.args.epoch base c.first_stamp.result c.first_stamp.ensures.clock start c.put_clock.new.self (at_first start c.args.epoch base c.requires.new) c.in_ok-put_clock.ensures.ok in
    let stamps = stamps_go_on start c.args.epoch base c.as_slice.result.now c.as_slice.ensures c.put_clock.new.self c.put_stamps.new.controller timed c.in_ok-put_stamps.ensures.ok in
    let waits = waits_go_on start c.args.epoch base c.as_slice-waits.result.now c.as_slice-waits.ensures c.put_stamps.new.controller c.put_waits.new.controller stamps.1 c.in_ok-put_waits.ensures.ok in
    let left = left_go_on start c.args.epoch base c.as_slice-2.result.now c.as_slice-2.ensures c.put_waits.new.controller c.put_leaving.new.controller waits.1 c.in_ok-put_leaving.ensures.ok in
    let owed = owed_go_on start c.args.epoch base c.as_slice-owed.result.now c.as_slice-owed.ensures c.put_leaving.new.controller c.put_owed.new.controller left.1 c.in_ok-put_owed.ensures.ok in
    let marks = marks_go_on start c.args.epoch base c.as_slice-3.result.now c.as_slice-3.ensures c.put_owed.new.controller c.put_marks.new.controller owed.1 c.in_ok-put_marks.ensures.ok in
    let why = declared_stop start c.args.epoch base c.as_slice-4.result.now c.as_slice-4.ensures c.put_marks.new.controller marks.1 c.in_err-put_declared.field-0.0 c.in_err-put_declared.ensures.refused in
    search rules

pub returns-clause-ok : goal.returns-clause-ok
returns-clause-ok c =
    let start = c.args.controller.now in
    let base = c.args.base.now in
    let timed = clock_goes_on start c.args.epoch base c.first_stamp.result c.first_stamp.ensures.clock start c.put_clock.new.self (at_first start c.args.epoch base c.requires.new) c.in_ok-put_clock.ensures.ok in
    let stamps = stamps_go_on start c.args.epoch base c.as_slice.result.now c.as_slice.ensures c.put_clock.new.self c.put_stamps.new.controller timed c.in_ok-put_stamps.ensures.ok in
    let waits = waits_go_on start c.args.epoch base c.as_slice-waits.result.now c.as_slice-waits.ensures c.put_stamps.new.controller c.put_waits.new.controller stamps.1 c.in_ok-put_waits.ensures.ok in
    let left = left_go_on start c.args.epoch base c.as_slice-2.result.now c.as_slice-2.ensures c.put_waits.new.controller c.put_leaving.new.controller waits.1 c.in_ok-put_leaving.ensures.ok in
    let owed = owed_go_on start c.args.epoch base c.as_slice-owed.result.now c.as_slice-owed.ensures c.put_leaving.new.controller c.put_owed.new.controller left.1 c.in_ok-put_owed.ensures.ok in
    let marks = marks_go_on start c.args.epoch base c.as_slice-3.result.now c.as_slice-3.ensures c.put_owed.new.controller c.put_marks.new.controller owed.1 c.in_ok-put_marks.ensures.ok in
    let declared = declared_go_on start c.args.epoch base c.as_slice-4.result.now c.as_slice-4.ensures c.put_marks.new.controller c.put_declared.new.controller marks.1 c.in_ok-put_declared.ensures.ok in
    let replies =
    subst (λ (t : Topology). OweWhoWaits (site_of t) start.site base.owed base.waits) c.topology.ensures
    (subst (λ n. OweWhoWaits (site_of c.topology.result.now) n base.owed base.waits) c.site.ensures
    (subst (λ (rows : List Pair). OweWhoWaits (site_of c.topology.result.now) c.site.result rows base.waits) c.as_slice-owed.ensures
    (subst (λ (rows : List StampedPair). OweWhoWaits (site_of c.topology.result.now) c.site.result c.as_slice-owed.result.now rows) c.as_slice-waits.ensures
    (c.if-not-owe_who_waits.ensures.0 refl)))) in
    restored start c.args.epoch base c.put_declared.new.controller declared.1 c.requires.base (record {
      stamps = stamps.0;
      waits = waits.0;
      leaving = left.0;
      owed = owed.0;
      replies = replies;
      marks = marks.0;
      declared = declared.0;
    }) (subst IsLong c.first_stamp.ensures.clock c.first_stamp.ensures.long)

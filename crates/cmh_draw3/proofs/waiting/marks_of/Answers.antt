use Rattle.std.proofs.Common.{ℕ, List, [], ◌++◌, length, map, sym, ap, ◌∙◌, Vec, Global}
use Rattle.cmh_topology3.specs.Topology.{members_of}
use Rattle.cmh_audit3.specs.declared.stops.Stop.{Stop as StopAt}
use Rattle.cmh_report3.specs.declared.cycle.Deadlock.{Deadlock}
use Rattle.cmh_files3.specs.declared.auditing.Finding.{Finding}
use Rattle.cmh_draw.specs.declared.mark.Mark.{Mark}
use Rattle.cmh_draw.proofs.MarkLemmas.{three_added}
use Rattle.cmh_draw3.specs.Inner.Marks.{leaving_mark, stop_mark, wait_mark}
use Rattle.cmh_draw3.specs.Marks.{process_marks, site_marks, waits_marks}
use Rattle.cmh_draw3.proofs.MarkLemmas.{four_added}
use Rattle.cmh_draw3.proofs.waiting.marks_of.Goals as goal
use Rattle.cmh_draw3.proofs.waiting.marks_of.Goals.{in-Accepted+in_ok-add_waits-in-Accepted+in_ok-add_leaving-in-Accepted+in_ok-add_all_processes-in-Accepted, in-Refused+in_ok-add_stops-in-Refused+in_ok-add_all_processes-in-Refused}

pub returns : goal.returns
returns c =
    let t = c.args.topology.now in
    let homes = site_marks t (λ site. length (members_of t site)) in
    elim c.match-finding.branch [
      | in-Accepted+in_ok-add_waits-in-Accepted+in_ok-add_leaving-in-Accepted+in_ok-add_all_processes-in-Accepted w ↦
          let told = w.in-Accepted.report.declared.items in
          let waits = w.in-Accepted.report.waits.items in
          let leaving = w.in-Accepted.report.leaving.items in
          let told_1 = w.deref.result.now in
          let waits_1 = w.deref-in-Accepted.result.now in
          let told_2 = w.deref-in-Accepted-2.result.now in
          let leaving_1 = w.deref-in-Accepted-3.result.now in
          let told_3 = w.deref-in-Accepted-4.result.now in
          ap (λ (m : Vec Mark Global). m.items) w.marks-is
          ∙ four_added c.new-marks.result.items c.add_homes.new.marks.items w.add_waits.new.marks.items w.add_leaving.new.marks.items
          w.add_all_processes.new.marks.items homes (map (wait_mark t told_1) waits_1) (map (leaving_mark t told_2) leaving_1) (process_marks t told_3)
          c.new-marks.ensures.items c.in_ok-add_homes.ensures w.in_ok-add_waits-in-Accepted.ensures w.in_ok-add_leaving-in-Accepted.ensures
          w.in_ok-add_all_processes-in-Accepted.ensures
          ∙ ap (λ (d : List Deadlock). homes ++ (map (wait_mark t d) waits_1 ++ (map (leaving_mark t told_2) leaving_1 ++ process_marks t told_3))) w.deref.ensures.value
          ∙ ap (λ (l : List (ℕ × ℕ)). homes ++ (map (wait_mark t told) l ++ (map (leaving_mark t told_2) leaving_1 ++ process_marks t told_3))) w.deref-in-Accepted.ensures.value
          ∙ ap (λ (d : List Deadlock). homes ++ (map (wait_mark t told) waits ++ (map (leaving_mark t d) leaving_1 ++ process_marks t told_3))) w.deref-in-Accepted-2.ensures.value
          ∙ ap (λ (l : List (ℕ × ℕ)). homes ++ (map (wait_mark t told) waits ++ (map (leaving_mark t told) l ++ process_marks t told_3))) w.deref-in-Accepted-3.ensures.value
          ∙ ap (λ (d : List Deadlock). homes ++ (map (wait_mark t told) waits ++ (map (leaving_mark t told) leaving ++ process_marks t d))) w.deref-in-Accepted-4.ensures.value
          ∙ ap (λ (f : Finding). homes ++ waits_marks t f) (sym w.in-Accepted.is)
      | in-Refused+in_ok-add_stops-in-Refused+in_ok-add_all_processes-in-Refused w ↦
          ap (λ (m : Vec Mark Global). m.items) w.marks-is
          ∙ three_added c.new-marks.result.items c.add_homes.new.marks.items w.add_stops.new.marks.items w.add_all_processes-in-Refused.new.marks.items
          homes (map (stop_mark t []) w.as_slice.result.now) (process_marks t [])
          c.new-marks.ensures.items c.in_ok-add_homes.ensures w.in_ok-add_stops-in-Refused.ensures w.in_ok-add_all_processes-in-Refused.ensures
          ∙ ap (λ (rows : List StopAt). homes ++ (map (stop_mark t []) rows ++ process_marks t [])) w.as_slice.ensures
          ∙ ap (λ (f : Finding). homes ++ waits_marks t f) (sym w.in-Refused.is)
    ]

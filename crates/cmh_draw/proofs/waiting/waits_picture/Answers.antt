use Rattle.std.proofs.Common.{ℕ, List, [], ◌++◌, length, map, refl, sym, ap, ◌∙◌, Vec, Global}
use Rattle.cmh_frames.specs.Topology.{members_of}
use Rattle.cmh_audit.specs.declared.verdict.Verdict.{Verdict}
use Rattle.cmh_draw.specs.Inner.Marks.{stop_mark, wait_mark}
use Rattle.cmh_draw.specs.Marks.{process_marks, site_marks, waits_marks}
use Rattle.cmh_draw.specs.declared.mark.Mark.{Mark}
use Rattle.cmh_draw.proofs.MarkLemmas.{three_added}
use Rattle.cmh_draw.proofs.waiting.waits_picture.Goals as goal
use Rattle.cmh_draw.proofs.waiting.waits_picture.Goals.{in-Accepted+in_ok-add_waits-in-Accepted+in_ok-add_all_processes-in-Accepted, in-Refused+in_ok-add_stops-in-Refused+in_ok-add_all_processes-in-Refused}

pub returns : goal.returns
returns c =
    let t = c.args.topology.now in
    let homes = site_marks t (λ site. length (members_of t site)) in
    record {
      kind_is = refl;
      edition_is = refl;
      columns_are = ap (λ (l : List ℕ). length l) c.sites.ensures.value;
      has_room = c.height_of.ensures;
      marks_are = elim c.match-verdict.branch [
        | in-Accepted+in_ok-add_waits-in-Accepted+in_ok-add_all_processes-in-Accepted w ↦ ap (λ (m : Vec Mark Global). m.items) w.marks-is
            ∙ three_added c.new-marks.result.items c.add_homes.new.marks.items w.add_waits.new.marks.items w.add_all_processes.new.marks.items
            homes (map (wait_mark t w.in-Accepted.report) w.in-Accepted.report.waits) (process_marks t w.declared.result.now)
            c.new-marks.ensures.items c.in_ok-add_homes.ensures w.in_ok-add_waits-in-Accepted.ensures w.in_ok-add_all_processes-in-Accepted.ensures
            ∙ ap (λ (d : List ℕ). homes ++ (map (wait_mark t w.in-Accepted.report) w.in-Accepted.report.waits ++ process_marks t d)) w.declared.ensures
            ∙ ap (λ (v : Verdict). homes ++ waits_marks t v) (sym w.in-Accepted.is)
        | in-Refused+in_ok-add_stops-in-Refused+in_ok-add_all_processes-in-Refused w ↦ ap (λ (m : Vec Mark Global). m.items) w.marks-is
            ∙ three_added c.new-marks.result.items c.add_homes.new.marks.items w.add_stops.new.marks.items w.add_all_processes-in-Refused.new.marks.items
            homes (map (stop_mark t []) w.rows.result.now) (process_marks t [])
            c.new-marks.ensures.items c.in_ok-add_homes.ensures w.in_ok-add_stops-in-Refused.ensures w.in_ok-add_all_processes-in-Refused.ensures
            ∙ ap (λ (rows : List (ℕ × ℕ)). homes ++ (map (stop_mark t []) rows ++ process_marks t [])) w.rows.ensures
            ∙ ap (λ (v : Verdict). homes ++ waits_marks t v) (sym w.in-Refused.is)
      ];
    }

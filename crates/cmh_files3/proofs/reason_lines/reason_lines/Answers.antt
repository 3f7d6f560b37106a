use Rattle.std.proofs.Common.{◌++◌, ◌∷◌, [], List, take, sym, subst}
use Rattle.std.specs.Prelude.{string_bytes}
use Rattle.cmh_audit3.specs.declared.stops.Stop.{Stop}
use Rattle.cmh_files3.specs.ReasonLines.{AreReasonLines, line_text}
use Rattle.cmh_files3.proofs.TurnLemmas.{take_next}
use Rattle.cmh_files3.proofs.ReasonLemmas.{lines_push, is_line}
use Rattle.cmh_files3.proofs.StopLemmas.{entry_read, stop_listed}
use Rattle.cmh_files3.proofs.reason_lines.reason_lines.Goals as goal

pub loop-stop-preserved : goal.loop-stop-preserved
loop-stop-preserved c =
    let t = c.args.topology.now in
    let gs = c.args.segments.now in
    let stops = c.args.stops.now in
    let stop = c.stop-item.result in
    let e = c.index-entries_at-stop.result in
    let i = c.loop-stop.stop-index in
    let one = stop_listed stops i stop c.loop-stop-test.true c.stop-item.is in
    let read = entry_read t gs stops stop c.entries_at.result.now e c.requires one c.entries_at.ensures c.index-entries_at-stop.is in
    let line = is_line t gs stops stop c.in_ok-reason.reason e c.in_ok-reason.ensures read.stands in
    let lines = lines_push t gs stops (take i stops) (string_bytes c.loop-stop.text) stop (line_text stop c.in_ok-reason.reason e) c.loop-stop.invariant line in
    subst (λ (l : List Stop). AreReasonLines t gs stops l (string_bytes c.write.new.self)) (sym (take_next stops i stop c.loop-stop-test.true c.stop-item.is))
    (subst (AreReasonLines t gs stops (take i stops ++ stop ∷ [])) (sym c.in_ok-write.ensures.bytes) lines)

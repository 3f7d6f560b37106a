use Rattle.std.proofs.Common.{◌++◌, ◌∷◌, [], ℕ, List, take, sym, subst}
use Rattle.std.specs.Prelude.{string_bytes}
use Rattle.cmh_files.specs.ReasonLines.{AreReasonLines, line_text}
use Rattle.cmh_files.proofs.TurnLemmas.{take_next}
use Rattle.cmh_files.proofs.ReasonLemmas.{lines_push, is_line}
use Rattle.cmh_files.proofs.StopLemmas.{entry_read, stop_listed}
use Rattle.cmh_files.proofs.reason_text.reason_lines.Goals as goal

pub loop-stop-preserved : goal.loop-stop-preserved
loop-stop-preserved c =
    let t = c.args.topology.now in
    let js = c.args.journals.now in
    let stops = c.args.stops.now in
    let stop = c.stop-item.result in
    let e = c.index-entries_at-number.result in
    let i = c.loop-stop.stop-index in
    let one = stop_listed stops i stop c.loop-stop-test.true c.stop-item.is in
    let read = entry_read t js stops stop.0 stop.1 c.entries_at.result.now e c.requires one c.entries_at.ensures.value c.index-entries_at-number.is in
    let line = is_line t js stops stop c.in_ok-reason.reason e c.in_ok-reason.ensures read.stands in
    let lines = lines_push t js stops (take i stops) (string_bytes c.loop-stop.text) stop (line_text stop c.in_ok-reason.reason e) c.loop-stop.invariant line in
    subst (λ (l : List (ℕ × ℕ)). AreReasonLines t js stops l (string_bytes c.write.new.self)) (sym (take_next stops i stop c.loop-stop-test.true c.stop-item.is))
    (subst (AreReasonLines t js stops (take i stops ++ stop ∷ [])) (sym c.in_ok-write.ensures.bytes) lines)

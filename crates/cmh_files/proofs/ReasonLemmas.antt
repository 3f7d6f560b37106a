-- Lines of reasons, one after the other.
use Rattle.std.proofs.Common.{◌≡◌, ℕ, ◌-◌, List, [], ◌∷◌, ◌++◌, Some, refl, sym, ap, ◌∙◌, append_assoc, append-nil}
use Rattle.std.specs.Prelude.{slice_get}
use Rattle.cmh_frames.specs.Topology.{Topology}
use Rattle.cmh_frames.specs.Entries.{Entry}
use Rattle.cmh_journal.specs.Journal.{Journal}
use Rattle.cmh_audit.specs.Journals.{journal_of}
use Rattle.cmh_files.specs.Reasons.{IsReasonOf}
use Rattle.cmh_files.specs.ReasonLines.{AreReasonLines, IsReasonLine, line_text}
use Rattle.cmh_files.specs.declared.reason.Reason.{Reason}

pub lines_push : (t : Topology) (js : List Journal) (stops done : List (ℕ × ℕ)) (text : List ℕ) (stop : ℕ × ℕ) (line : List ℕ)
    → AreReasonLines t js stops done text → IsReasonLine t js stops stop line → AreReasonLines t js stops (done ++ stop ∷ []) (text ++ line)
lines_push t js stops [] text stop line lines is =
    (line, [], ap (λ l. l ++ line) lines ∙ sym (append-nil line), is, refl)
lines_push t js stops (x ∷ done) text stop line lines is =
    let more = lines_push t js stops done lines.1 stop line lines.4 is in
    (lines.0, lines.1 ++ line, ap (λ l. l ++ line) lines.2 ∙ append_assoc lines.0 lines.1 line, lines.3, more)

some_entry : (x y : Entry) → Some x ≡ Some y → x ≡ y
some_entry x y h = cc

pub is_line : (t : Topology) (js : List Journal) (stops : List (ℕ × ℕ)) (stop : ℕ × ℕ) (reason : Reason) (e : Entry)
    → IsReasonOf t js stops stop reason → slice_get (journal_of js stop.0) (stop.1 - 1) ≡ Some e
    → IsReasonLine t js stops stop (line_text stop reason e)
is_line t js stops stop reason e is stands =
    record { reason = reason; is = is; line_is = ap (line_text stop reason) (some_entry e is.0 (sym stands ∙ is.1)) }

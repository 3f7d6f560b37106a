-- Lines of reasons, one after the other.
use Rattle.std.proofs.Common.{◌≡◌, ℕ, ◌-◌, List, [], ◌∷◌, ◌++◌, Some, refl, sym, ap, ◌∙◌, append_assoc, append-nil}
use Rattle.std.specs.Prelude.{slice_get}
use Rattle.cmh_topology3.specs.Topology.{Topology}
use Rattle.cmh_segment3.specs.declared.entry.Entry.{Entry}
use Rattle.cmh_segment3.specs.declared.segment.Segment.{Segment}
use Rattle.cmh_audit3.specs.Journals.{journal_of}
use Rattle.cmh_audit3.specs.declared.stops.Stop.{Stop}
use Rattle.cmh_files3.specs.Reasons.{IsReasonOf}
use Rattle.cmh_files3.specs.ReasonLines.{AreReasonLines, IsReasonLine, line_text}
use Rattle.cmh_files3.specs.declared.reason.Reason.{Reason}

pub lines_push : (t : Topology) (gs : List Segment) (stops done : List Stop) (text : List ℕ) (stop : Stop) (line : List ℕ)
    → AreReasonLines t gs stops done text → IsReasonLine t gs stops stop line → AreReasonLines t gs stops (done ++ stop ∷ []) (text ++ line)
lines_push t gs stops [] text stop line lines is =
    (line, [], ap (λ l. l ++ line) lines ∙ sym (append-nil line), is, refl)
lines_push t gs stops (x ∷ done) text stop line lines is =
    let more = lines_push t gs stops done lines.1 stop line lines.4 is in
    (lines.0, lines.1 ++ line, ap (λ l. l ++ line) lines.2 ∙ append_assoc lines.0 lines.1 line, lines.3, more)

some_entry : (x y : Entry) → Some x ≡ Some y → x ≡ y
some_entry x y h = cc

pub is_line : (t : Topology) (gs : List Segment) (stops : List Stop) (stop : Stop) (reason : Reason) (e : Entry)
    → IsReasonOf t gs stops stop reason → slice_get (journal_of gs stop.site) (stop.entry - 1) ≡ Some e
    → IsReasonLine t gs stops stop (line_text stop reason e)
is_line t gs stops stop reason e is stands =
    record { reason = reason; is = is; line_is = ap (line_text stop reason) (some_entry e is.0 (sym stands ∙ is.1)) }

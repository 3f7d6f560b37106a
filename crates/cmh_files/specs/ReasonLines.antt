-- The reasons for stops as lines.
use Rattle.std.specs.Prelude.{◌≡◌, ℕ, List, [], ◌∷◌, ◌++◌, codes, Option, None, Some}
use Rattle.std.specs.Fmt.{decimal}
use Rattle.cmh_frames.specs.declared.frame.Frame.{Frame}
use Rattle.cmh_frames.specs.Texts.{frame_text}
use Rattle.cmh_frames.specs.Topology.{Topology}
use Rattle.cmh_frames.specs.Entries.{Entry}
use Rattle.cmh_controller.specs.Refusals.{number_of}
use Rattle.cmh_journal.specs.Journal.{Journal}
use Rattle.cmh_files.specs.EntryTexts.{entry_text}
use Rattle.cmh_files.specs.declared.reason.Reason.{Reason}
use Rattle.cmh_files.specs.declared.reason.Reason.TheVariants.{Refused, Sent, Declared, NotNext, NothingUnderWay}
use Rattle.cmh_files.specs.Reasons.{IsReasonOf}

abbrev pub due_frame_text : Option (ℕ × Frame) → List ℕ
due_frame_text None = codes "nothing"
due_frame_text (Some sending) = frame_text sending.1 ++ codes " to " ++ decimal sending.0

abbrev pub due_process_text : Option ℕ → List ℕ
due_process_text None = codes "nobody"
due_process_text (Some process) = decimal process

abbrev pub reason_text : Reason → List ℕ
reason_text (Refused refusal) = codes "refused " ++ decimal (number_of refusal)
reason_text (Sent number due) = codes "differs sent " ++ decimal number ++ codes " due " ++ due_frame_text due
reason_text (Declared due) = codes "differs declared due " ++ due_process_text due
reason_text (NotNext from next) = codes "waits next " ++ frame_text next ++ codes " from " ++ decimal from
reason_text (NothingUnderWay from) = codes "waits next nothing from " ++ decimal from

-- the stop, the reason, and the entry
abbrev pub line_text : ℕ × ℕ → Reason → Entry → List ℕ
line_text stop reason entry =
    codes "why " ++ decimal stop.0 ++ codes " at " ++ decimal stop.1 ++ codes " " ++ reason_text reason
    ++ codes " in " ++ entry_text entry ++ codes "\n"

-- the stop's line: a reason for it, and the entry at it
pub record IsReasonLine (t : Topology) (journals : List Journal) (stops : List (ℕ × ℕ)) (stop : ℕ × ℕ) (line : List ℕ)
    : Type 0 where
  pub reason : Reason
  pub is : IsReasonOf t journals stops stop reason
  pub line_is : line ≡ line_text stop reason is.0

-- a line for each of these, which are among the stops
abbrev pub AreReasonLines : Topology → List Journal → List (ℕ × ℕ) → List (ℕ × ℕ) → List ℕ → Type 0
AreReasonLines t journals stops [] text = text ≡ []
AreReasonLines t journals stops (stop ∷ rest) text =
    (line more : List ℕ) × (text ≡ line ++ more)
    × IsReasonLine t journals stops stop line × AreReasonLines t journals stops rest more

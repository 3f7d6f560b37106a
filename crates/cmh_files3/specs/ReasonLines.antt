-- The reasons for stops as lines.
use Rattle.std.specs.Prelude.{◌≡◌, ℕ, List, [], ◌∷◌, ◌++◌, codes, Option, None, Some}
use Rattle.std.specs.Fmt.{decimal}
use Rattle.cmh_model3.specs.declared.frame.Message.{Message}
use Rattle.cmh_script3.specs.Texts.{frame_text}
use Rattle.cmh_topology3.specs.Topology.{Topology}
use Rattle.cmh_controller3.specs.Refusals.{number_of}
use Rattle.cmh_segment3.specs.declared.entry.Declaration.{Declaration}
use Rattle.cmh_segment3.specs.declared.entry.Entry.{Entry}
use Rattle.cmh_segment3.specs.declared.segment.Segment.{Segment}
use Rattle.cmh_audit3.specs.declared.stops.Stop.{Stop}
use Rattle.cmh_files3.specs.EntryTexts.{entry_text}
use Rattle.cmh_files3.specs.declared.reason.Reason.{Reason}
use Rattle.cmh_files3.specs.declared.reason.Reason.TheVariants.{Refused, Sent, Declared, NotNext, NothingUnderWay}
use Rattle.cmh_files3.specs.Reasons.{IsReasonOf}

-- a message with its clock
abbrev pub message_text : Message → List ℕ
message_text message = frame_text message.frame ++ codes " clock " ++ decimal message.clock

abbrev pub due_message_text : Option (ℕ × Message) → List ℕ
due_message_text None = codes "nothing"
due_message_text (Some sending) = message_text sending.1 ++ codes " to " ++ decimal sending.0

abbrev pub due_declaration_text : Option Declaration → List ℕ
due_declaration_text None = codes "nobody"
due_declaration_text (Some declaration) = decimal declaration.process ++ codes " at " ++ decimal declaration.stamp

abbrev pub reason_text : Reason → List ℕ
reason_text (Refused refusal) = codes "refused " ++ decimal (number_of refusal)
reason_text (Sent number due) = codes "differs sent " ++ decimal number ++ codes " due " ++ due_message_text due
reason_text (Declared due) = codes "differs declared due " ++ due_declaration_text due
reason_text (NotNext from next) = codes "waits next " ++ message_text next ++ codes " from " ++ decimal from
reason_text (NothingUnderWay from) = codes "waits next nothing from " ++ decimal from

-- the stop, the reason, and the entry
abbrev pub line_text : Stop → Reason → Entry → List ℕ
line_text stop reason entry =
    codes "why " ++ decimal stop.site ++ codes " at " ++ decimal stop.entry ++ codes " " ++ reason_text reason
    ++ codes " in " ++ entry_text entry ++ codes "\n"

-- the stop's line: a reason for it, and the entry at it
pub record IsReasonLine (t : Topology) (segments : List Segment) (stops : List Stop) (stop : Stop) (line : List ℕ)
    : Type 0 where
  pub reason : Reason
  pub is : IsReasonOf t segments stops stop reason
  pub line_is : line ≡ line_text stop reason is.0

-- a line for each of these, which are among the stops
abbrev pub AreReasonLines : Topology → List Segment → List Stop → List Stop → List ℕ → Type 0
AreReasonLines t segments stops [] text = text ≡ []
AreReasonLines t segments stops (stop ∷ rest) text =
    (line more : List ℕ) × (text ≡ line ++ more)
    × IsReasonLine t segments stops stop line × AreReasonLines t segments stops rest more

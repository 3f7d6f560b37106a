-- What is written for a line of a script.
use Rattle.std.specs.Prelude.{ℕ, List, [], ◌++◌, codes}
use Rattle.std.specs.Fmt.{decimal}
use Rattle.cmh_frames.specs.DoneText.{done_text}
use Rattle.cmh_frames.specs.Rows.{fault_number}
use Rattle.cmh_frames.specs.Texts.{frame_text}
use Rattle.cmh_controller.specs.Refusals.{number_of}
use Rattle.cmh_files.specs.AuditTexts.{verdict_text}
use Rattle.cmh_play.specs.declared.site.Refused.TheVariants.{Full, Rule}
use Rattle.cmh_play.specs.declared.reply.Reply.{Reply}
use Rattle.cmh_play.specs.declared.reply.Reply.TheVariants.{Silent, Ok, BadLine, Late, Topology, BadLink, Closed, Empty, Lost, Refused, Taken, Got, Report}

abbrev pub reply_text : Reply → List ℕ
reply_text Silent = []
reply_text Ok = codes "ok\n"
reply_text BadLine = codes "bad line\n"
reply_text Late = codes "late\n"
reply_text (Topology fault) = codes "topology " ++ decimal (fault_number fault) ++ codes "\n"
reply_text BadLink = codes "bad link\n"
reply_text Closed = codes "closed\n"
reply_text Empty = codes "empty\n"
reply_text (Lost frames) = codes "ok lost " ++ decimal frames ++ codes "\n"
reply_text (Refused Full) = codes "refused 12\n"
reply_text (Refused (Rule refusal)) = codes "refused " ++ decimal (number_of refusal) ++ codes "\n"
reply_text (Taken done) = codes "ok " ++ done_text done ++ codes "\n"
reply_text (Got frame done) = codes "got " ++ frame_text frame ++ codes " " ++ done_text done ++ codes "\n"
reply_text (Report edition verdict) = verdict_text edition verdict.value

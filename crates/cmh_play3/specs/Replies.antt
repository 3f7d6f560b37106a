-- What is written for a line of a script.
use Rattle.std.specs.Prelude.{ℕ, List, [], ◌++◌, codes, Option, None, Some}
use Rattle.std.specs.Fmt.{decimal}
use Rattle.cmh_frames.specs.Rows.{fault_number}
use Rattle.cmh_controller3.specs.Refusals.{number_of}
use Rattle.cmh_controller3.specs.declared.outcome.Declaration.{Declaration}
use Rattle.cmh_report3.specs.Texts.{report_text}
use Rattle.cmh_script3.specs.Texts.{frame_text}
use Rattle.cmh_play3.specs.declared.reply.Done.{Done}
use Rattle.cmh_play3.specs.declared.reply.Reply.{Reply}
use Rattle.cmh_play3.specs.declared.reply.Reply.TheVariants.{Silent, Ok, BadLine, Late, Topology, BadLink, Closed, Empty, Lost, Refused, Taken, Got, Report}

-- whom a step declared, with the stop at which the cycle stood
abbrev pub declared_text : Option Declaration → List ℕ
declared_text None = []
declared_text (Some declaration) =
    codes " declared " ++ decimal declaration.process ++ codes " at " ++ decimal declaration.stop

-- how many messages a step sent, and whom it declared
abbrev pub done_text : Done → List ℕ
done_text done = codes "sent " ++ decimal done.sent ++ declared_text done.declared

abbrev pub reply_text : Reply → List ℕ
reply_text Silent = []
reply_text Ok = codes "ok\n"
reply_text BadLine = codes "bad line\n"
reply_text Late = codes "late\n"
reply_text (Topology fault) = codes "topology " ++ decimal (fault_number fault) ++ codes "\n"
reply_text BadLink = codes "bad link\n"
reply_text Closed = codes "closed\n"
reply_text Empty = codes "empty\n"
reply_text (Lost messages) = codes "ok lost " ++ decimal messages ++ codes "\n"
reply_text (Refused refusal) = codes "refused " ++ decimal (number_of refusal) ++ codes "\n"
reply_text (Taken done) = codes "ok " ++ done_text done ++ codes "\n"
reply_text (Got frame done) = codes "got " ++ frame_text frame ++ codes " " ++ done_text done ++ codes "\n"
reply_text (Report report) = report_text report.value

-- What a running site sends to its clients.
use Rattle.std.specs.Prelude.{ℕ, List, ◌++◌, codes, flat_map, Option, None, Some}
use Rattle.std.specs.Fmt.{decimal}
use Rattle.cmh_controller3.specs.Refusals as rules
use Rattle.cmh_frames.specs.Texts.{processes_text}
use Rattle.cmh_resume3.specs.Numbers.{mismatch_number}
use Rattle.cmh_node3.specs.declared.sealed.Sealed.{Sealed}
use Rattle.cmh_node3.specs.declared.sealed.Sealed.TheVariants.{Disk, Memory, Mismatch}
use Rattle.cmh_talk3.specs.Links.{into_text, out_text, states_text}
use Rattle.cmh_talk3.specs.declared.news.News.{News}
use Rattle.cmh_talk3.specs.declared.news.News.TheVariants as news
use Rattle.cmh_talk3.specs.declared.reply.EventReply.{EventReply}
use Rattle.cmh_talk3.specs.declared.reply.EventReply.TheVariants as event
use Rattle.cmh_talk3.specs.declared.reply.Reply.{Reply}
use Rattle.cmh_talk3.specs.declared.reply.Reply.TheVariants.{BadLine, Declared, Waits, Owed, Leaving, Refused, Links, Status as StatusReply, Turned, Ok}
use Rattle.cmh_talk3.specs.declared.reply.Status.{Status}

-- ---- answers

abbrev pub event_text : EventReply → List ℕ
event_text (event.Taken sent) = codes "ok sent " ++ decimal sent ++ codes "\n"
event_text (event.Declared sent process stop) = codes "ok sent " ++ decimal sent ++ codes " declared " ++ decimal process
    ++ codes " at " ++ decimal stop ++ codes "\n"
event_text (event.Refused number) = codes "refused " ++ decimal number ++ codes "\n"

abbrev pub sealed_text : Option Sealed → List ℕ
sealed_text None = codes "no"
sealed_text (Some Disk) = codes "yes disk"
sealed_text (Some Memory) = codes "yes memory"
sealed_text (Some (Mismatch site mismatch)) =
    codes "yes mismatch " ++ decimal (mismatch_number mismatch) ++ codes " site " ++ decimal site

unfoldable pub counts_text : Status → List ℕ
counts_text status = codes " out " ++ decimal status.open_out ++ codes " in " ++ decimal status.open_in
    ++ codes " kept " ++ decimal status.kept ++ codes " sealed " ++ sealed_text status.sealed ++ codes "\n"

abbrev pub status_text : Status → List ℕ
status_text status = codes "entries " ++ decimal status.entries ++ codes " declared " ++ decimal status.declared
    ++ codes " clients " ++ decimal status.clients ++ counts_text status

abbrev pub reply_text : Reply → List ℕ
reply_text BadLine = codes "bad line\n"
reply_text (Declared site processes) = codes "site " ++ decimal site ++ codes " declared" ++ processes_text processes.items ++ codes "\n"
reply_text (Waits process others) = codes "waits " ++ decimal process ++ processes_text others.items ++ codes "\n"
reply_text (Owed process others) = codes "owed " ++ decimal process ++ processes_text others.items ++ codes "\n"
reply_text (Leaving process others) = codes "leaving " ++ decimal process ++ processes_text others.items ++ codes "\n"
reply_text (Refused refusal) = codes "refused " ++ decimal (rules.number_of refusal) ++ codes "\n"
reply_text (Links links) = flat_map states_text links.items
reply_text (StatusReply status) = status_text status
reply_text (Turned epoch) = codes "ok epoch " ++ decimal epoch ++ codes "\n"
reply_text Ok = codes "ok\n"

-- ---- news

abbrev pub news_text : News → List ℕ
news_text (news.Declared process stop) = codes "! declared " ++ decimal process ++ codes " at " ++ decimal stop ++ codes "\n"
news_text (news.WasDeclared process) = codes "! declared " ++ decimal process ++ codes "\n"
news_text (news.Active process) = codes "! active " ++ decimal process ++ codes "\n"
news_text (news.Asked holder asker) = codes "! asked " ++ decimal holder ++ codes " " ++ decimal asker ++ codes "\n"
news_text (news.Free asker holder) = codes "! free " ++ decimal asker ++ codes " " ++ decimal holder ++ codes "\n"
news_text (news.Out site state) = codes "! link out " ++ decimal site ++ codes " " ++ out_text state ++ codes "\n"
news_text (news.Into site state) = codes "! link in " ++ decimal site ++ codes " " ++ into_text state ++ codes "\n"

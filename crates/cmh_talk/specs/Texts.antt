-- What a service sends.
use Rattle.std.specs.Prelude.{ℕ, Bool, true, false, List, ◌++◌, codes, None, Some}
use Rattle.std.specs.Fmt.{decimal}
use Rattle.cmh_frames.specs.Texts.{processes_text}
use Rattle.cmh_talk.specs.SiteReplies as site
use Rattle.cmh_talk.specs.declared.site_reply.SiteReply.{SiteReply}
use Rattle.cmh_talk.specs.declared.site_reply.SiteReply.TheVariants as replies
use Rattle.cmh_talk.specs.declared.reply.EventReply.{EventReply}
use Rattle.cmh_talk.specs.declared.reply.EventReply.TheVariants.{Taken, Declared, Refused}
use Rattle.cmh_talk.specs.declared.reply.Reply.{Reply}
use Rattle.cmh_talk.specs.declared.reply.Reply.TheVariants.{Site, Waits, Owed, Watching, Status as StatusReply}
use Rattle.cmh_talk.specs.declared.reply.Status.{Status}

-- the reply to an event is that of a site
abbrev pub as_site : EventReply → SiteReply
as_site (Taken sent) = replies.Taken (record { sent = sent; declared = None })
as_site (Declared sent process) = replies.Taken (record { sent = sent; declared = Some process })
as_site (Refused refusal) = replies.Refused refusal

abbrev pub event_text : EventReply → List ℕ
event_text reply = site.reply_text (as_site reply)

abbrev pub sealed_word : Bool → List ℕ
sealed_word true = codes "yes"
sealed_word false = codes "no"

unfoldable pub links_text : Status → List ℕ
links_text status = codes " out " ++ decimal status.open_out ++ codes " in " ++ decimal status.open_in
    ++ codes " sealed " ++ sealed_word status.is_sealed ++ codes "\n"

abbrev pub status_text : Status → List ℕ
status_text status = codes "entries " ++ decimal status.entries ++ codes " room " ++ decimal status.room
    ++ codes " declared " ++ decimal status.declared ++ codes " clients " ++ decimal status.clients
    ++ links_text status

abbrev pub reply_text : Reply → List ℕ
reply_text (Site reply) = site.reply_text reply
reply_text (Waits process others) = codes "waits " ++ decimal process ++ processes_text others.items ++ codes "\n"
reply_text (Owed process others) = codes "owed " ++ decimal process ++ processes_text others.items ++ codes "\n"
reply_text Watching = codes "ok\n"
reply_text (StatusReply status) = status_text status

-- the line of a declaration
abbrev pub declaration_text : ℕ → List ℕ
declaration_text process = codes "! declared " ++ decimal process ++ codes "\n"

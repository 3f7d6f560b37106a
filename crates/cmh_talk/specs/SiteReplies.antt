-- What is written for a line that running sites are given.
use Rattle.std.specs.Prelude.{ℕ, List, [], ◌++◌, codes, flat_map}
use Rattle.std.specs.Fmt.{decimal}
use Rattle.cmh_frames.specs.Texts.{processes_text}
use Rattle.cmh_carriers.specs.Table.{number_of, state_text}
use Rattle.cmh_frames.specs.DoneText.{done_text}
use Rattle.cmh_station.specs.Journaled as station
use Rattle.cmh_talk.specs.declared.site_reply.ClosedLink.{ClosedLink}
use Rattle.cmh_talk.specs.declared.site_reply.LinkEnds.{LinkEnds}
use Rattle.cmh_talk.specs.declared.site_reply.SiteReply.{SiteReply}
use Rattle.cmh_talk.specs.declared.site_reply.SiteReply.TheVariants.{Silent, BadLine, BadLink, Late, Taken, Refused, Declared, Connected, Links}

abbrev pub ends_text : LinkEnds → List ℕ
ends_text ends = codes "out " ++ decimal ends.site ++ codes " " ++ state_text ends.outgoing
    ++ codes "\nin " ++ decimal ends.site ++ codes " " ++ state_text ends.incoming ++ codes "\n"

abbrev pub closed_text : ClosedLink → List ℕ
closed_text link = codes "link " ++ decimal link.from ++ codes " " ++ decimal link.to ++ codes " closed " ++ decimal (number_of link.fault)

abbrev pub reply_text : SiteReply → List ℕ
reply_text Silent = []
reply_text BadLine = codes "bad line\n"
reply_text BadLink = codes "bad link\n"
reply_text Late = codes "late\n"
reply_text (Taken done) = codes "ok " ++ done_text done ++ codes "\n"
reply_text (Refused refusal) = codes "refused " ++ decimal (station.number_of refusal) ++ codes "\n"
reply_text (Declared site processes) = codes "site " ++ decimal site ++ codes " declared" ++ processes_text processes ++ codes "\n"
reply_text (Connected connected failed) = codes "connected " ++ decimal connected ++ codes " failed " ++ decimal failed ++ codes "\n"
reply_text (Links links) = flat_map ends_text links.items

-- The texts of what a cluster answers.
use Rattle.std.specs.Prelude.{ℕ, List, [], ◌++◌, codes}
use Rattle.std.specs.Fmt.{decimal}
use Rattle.cmh_talk3.specs.Links.{out_text}
use Rattle.cmh_talk3.specs.Texts as talk
use Rattle.cmh_cluster3.specs.declared.no_node.NoNode.{NoNode}
use Rattle.cmh_cluster3.specs.declared.no_node.NoNode.TheVariants.{Disk, Damaged, Other, Unlawful, Memory}
use Rattle.cmh_cluster3.specs.declared.reply.ClusterReply.{ClusterReply}
use Rattle.cmh_cluster3.specs.declared.reply.ClusterReply.TheVariants as replies
use Rattle.cmh_cluster3.specs.declared.reply.KeptLink.{KeptLink}

abbrev pub fault_text : NoNode → List ℕ
fault_text Disk = codes "fault journal disk"
fault_text (Damaged offset) = codes "fault journal damaged at " ++ decimal offset
fault_text Other = codes "fault journal other"
fault_text (Unlawful entry) = codes "fault journal unlawful at " ++ decimal entry
fault_text Memory = codes "fault memory"

abbrev pub reply_text : ClusterReply → List ℕ
reply_text replies.Silent = []
reply_text replies.BadLine = codes "bad line\n"
reply_text replies.BadSite = codes "bad site\n"
reply_text replies.BadLink = codes "bad link\n"
reply_text replies.Ok = codes "ok\n"
reply_text replies.Down = codes "down\n"
reply_text replies.Up = codes "up\n"
reply_text (replies.NotStarted why) = fault_text why ++ codes "\n"
reply_text (replies.Event event) = talk.event_text event
reply_text (replies.Told told) = talk.reply_text told

abbrev pub link_text : KeptLink → List ℕ
link_text link = codes "link " ++ decimal link.from ++ codes " " ++ decimal link.to ++ codes " " ++ out_text link.state ++ codes "\n"

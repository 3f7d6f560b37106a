use Rattle.std.proofs.Common.{take}
use Rattle.std.specs.Fmt.{HasWritten, IsPlainFormatter}
use Rattle.std.specs.List.{flat_map}
use Rattle.cmh_talk.specs.SiteReplies.{ends_text}
use Rattle.cmh_talk.proofs.site_reply.LinkLinesDisplay.fmt.Given as goal

abbrev pub invariant-loop-ends : goal.invariant-loop-ends
invariant-loop-ends g l =
    IsPlainFormatter l.initial.f → HasWritten g.W.Write.write_str_gives l.initial.f (flat_map ends_text (take l.ends-index l.initial.self.links.now)) l.f

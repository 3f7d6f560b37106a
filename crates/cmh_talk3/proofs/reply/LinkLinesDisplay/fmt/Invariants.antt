use Rattle.std.proofs.Common.{take}
use Rattle.std.specs.Fmt.{HasWritten, IsPlainFormatter}
use Rattle.std.specs.List.{flat_map}
use Rattle.cmh_talk3.specs.Links.{states_text}
use Rattle.cmh_talk3.proofs.reply.LinkLinesDisplay.fmt.Given as goal

abbrev pub invariant-loop-states : goal.invariant-loop-states
invariant-loop-states g l =
    IsPlainFormatter l.initial.f → HasWritten g.W.Write.write_str_gives l.initial.f (flat_map states_text (take l.states-index l.initial.self.links.now)) l.f

use Rattle.std.proofs.Common.{◌≡◌}
use Rattle.cmh_script3.proofs.LinesSeen.{HasSeen}
use Rattle.cmh_script3.proofs.lines.read_line.Given as goal

abbrev pub invariant-loop-turn : goal.invariant-loop-turn
invariant-loop-turn g l = record {
  seen : HasSeen l.initial.input.left l.input.left l.buffer.items l.turn;
  working : l.input.has_failed ≡ l.initial.input.has_failed;
}

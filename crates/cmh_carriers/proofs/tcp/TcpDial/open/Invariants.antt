use Rattle.std.proofs.Common.{◌≡◌}
use Rattle.cmh_carriers.proofs.tcp.TcpDial.open.Given as goal

abbrev pub invariant-loop-turn : goal.invariant-loop-turn
invariant-loop-turn g l = l.self.faults ≡ l.initial.self.faults

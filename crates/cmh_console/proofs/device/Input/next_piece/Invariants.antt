use Rattle.std.proofs.Common.{◌≡◌}
use Rattle.std.specs.Io.KnownBytes.{Keeps}
use Rattle.cmh_console.proofs.device.Input.next_piece.Given as goal

abbrev pub invariant-loop-turn : goal.invariant-loop-turn
invariant-loop-turn g l = record {
  line : l.line.items ≡ l.initial.line.items;
  reader : Keeps (g.R.Read.remaining l.initial.self-inside.inner) (g.R.Read.remaining l.self-inside.inner);
  fed : l.self-inside.fed ≡ l.initial.self-inside.fed;
  working : l.self-inside.has_failed ≡ l.initial.self-inside.has_failed;
}

use Rattle.std.specs.Io.KnownBytes.{Keeps}
use Rattle.cmh_carriers.proofs.stream.write_uninterrupted.Given as goal

abbrev pub invariant-loop : goal.invariant-loop
invariant-loop g l = record {
  stream : Keeps (g.S.Write.contents l.initial.stream) (g.S.Write.contents l.stream);
}

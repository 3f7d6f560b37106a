use Rattle.std.proofs.Common.{◌≡◌, length}
use Rattle.std.specs.Io.KnownBytes.{Keeps}
use Rattle.cmh_carriers.proofs.stream.read_uninterrupted.Given as goal

abbrev pub invariant-loop : goal.invariant-loop
invariant-loop g l = record {
  room : length l.buffer ≡ length l.initial.buffer;
  stream : Keeps (g.S.Read.remaining l.initial.stream) (g.S.Read.remaining l.stream);
}

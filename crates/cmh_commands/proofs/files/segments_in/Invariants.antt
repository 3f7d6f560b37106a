use Rattle.std.proofs.Common.{◌≡◌, ◌++◌, drop, map, string_bytes}
use Rattle.cmh_commands.proofs.files.segments_in.Given as goal

abbrev pub invariant-loop-path : goal.invariant-loop-path
invariant-loop-path g l =
    map (λ path. path.now) l.borrowed.items ++ map string_bytes (drop l.path-index l.path-items) ≡ map string_bytes l.path-items

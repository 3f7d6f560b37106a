use Rattle.std.proofs.Common.{◌≡◌, map, drop}
use Rattle.cmh_client.specs.Http.{begins_with_any}
use Rattle.cmh_client.proofs.http.begins_with_any.Given as goal

abbrev pub invariant-loop-word : goal.invariant-loop-word
invariant-loop-word l =
    begins_with_any l.line (map (λ word. word.now) (drop l.word-index l.words)) ≡ begins_with_any l.line (map (λ word. word.now) l.words)

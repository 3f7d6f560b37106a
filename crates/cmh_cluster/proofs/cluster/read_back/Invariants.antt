use Rattle.std.specs.Prelude.{◌≡◌, length}
use Rattle.cmh_cluster.proofs.cluster.read_back.Given as goal

-- the files so far
abbrev pub invariant-loop-site : goal.invariant-loop-site
invariant-loop-site g l = length l.journals.items ≡ l.site-index

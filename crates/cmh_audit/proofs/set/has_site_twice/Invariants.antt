use Rattle.std.proofs.Common.{◌≡◌, drop}
use Rattle.cmh_audit.specs.Set.{repeats_site}
use Rattle.cmh_audit.proofs.set.has_site_twice.Given as goal

abbrev pub invariant-loop-i : goal.invariant-loop-i
invariant-loop-i l = repeats_site (drop l.i l.journals) ≡ repeats_site l.journals

use Rattle.std.proofs.Common.{◌≡◌, drop}
use Rattle.std.specs.List.{list_any}
use Rattle.cmh_audit.specs.Inner.Faults.{is_stranger}
use Rattle.cmh_audit.proofs.set.has_stranger.Given as goal

abbrev pub invariant-loop-journal : goal.invariant-loop-journal
invariant-loop-journal l = list_any (is_stranger l.topology) (drop l.journal-index l.journals) ≡ list_any (is_stranger l.topology) l.journals

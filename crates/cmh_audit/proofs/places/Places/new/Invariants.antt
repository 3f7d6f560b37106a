use Rattle.std.proofs.Common.{◌≡◌, length}
use Rattle.cmh_audit.proofs.PlaceLemmas.{ArePlaced}
use Rattle.cmh_audit.proofs.places.Places.new.Given as goal

abbrev pub invariant-loop-i : goal.invariant-loop-i
invariant-loop-i l = record { long : length l.by_site.items ≡ length l.initial.by_site.items; placed : ArePlaced l.journals l.by_site.items l.i }

use Rattle.std.proofs.Common.{take}
use Rattle.cmh_draw.specs.Inner.Columns.{AreWithin}
use Rattle.cmh_draw.proofs.size.width_of.Given as goal

abbrev pub invariant-loop-site : goal.invariant-loop-site
invariant-loop-site l = AreWithin l.width (take l.site-index l.columns)

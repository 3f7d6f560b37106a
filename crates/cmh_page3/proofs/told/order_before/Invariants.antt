use Rattle.std.proofs.Common.{◌≡◌, take}
use Rattle.std.specs.Prelude.{flat_map}
use Rattle.cmh_page3.specs.Told.{site_before}
use Rattle.cmh_page3.proofs.told.order_before.Given as goal

abbrev pub invariant-loop-site : goal.invariant-loop-site
invariant-loop-site l = l.order.items ≡ flat_map (site_before l.segments l.stops) (take l.site-index l.site-items)

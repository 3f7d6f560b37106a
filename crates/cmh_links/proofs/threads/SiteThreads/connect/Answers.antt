use Rattle.std.proofs.Common.{arith}
use Rattle.cmh_links.proofs.Places.{closed_few}
use Rattle.cmh_links.proofs.threads.SiteThreads.connect.Goals as goal

-- fewer calls failed than there are links, and a list of links is short
pub open-place-requires-clause-countable : goal.open-place-requires-clause-countable
open-place-requires-clause-countable g c κs within =
    let self = c.loop-tap.self in
    let few = closed_few 1 self.places.items in
    omega (arith, few, self.unconnected, self.places.ok.0, self.places.ok.1, self.places.small)

use Rattle.std.proofs.Common.{length, take, ap, sym, arith, length-append}
use Rattle.cmh_frames.specs.Declarations.{declarations}
use Rattle.cmh_station.proofs.Declarations.{fewer_before}
use Rattle.cmh_station.proofs.feeding.feed.Goals as goal

pub add-requires : goal.add-requires
add-requires g c =
    let i = c.loop-entry.entry-index in
    let entries = c.args.entries.now in
    let fewer = fewer_before entries i c.in-Some.process c.entry-item.result c.loop-entry-test.true (sym c.entry-item.is) c.in-Some.is in
    omega (arith, fewer, c.requires.few, ap length c.loop-entry.invariant.listed, length-append (g.B.Listing.listed c.args.board.now).list (declarations (take i entries)))

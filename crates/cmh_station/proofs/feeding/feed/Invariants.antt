use Rattle.std.proofs.Common.{◌≡◌, ◌+◌, ◌++◌, take}
use Rattle.cmh_frames.specs.Declarations.{declarations}
use Rattle.cmh_station.proofs.feeding.feed.Given as goal

abbrev pub invariant-loop-entry : goal.invariant-loop-entry
invariant-loop-entry g l = record {
  counted : l.fed ≡ l.initial.fed + l.entry-index;
  listed : (g.B.Listing.listed l.board).list ≡ (g.B.Listing.listed l.initial.board).list ++ declarations (take l.entry-index l.entries);
  book : (g.B.Listing.listed l.board).book ≡ (g.B.Listing.listed l.initial.board).book;
  shown : (g.B.Listing.listed l.board).shown ≡ (g.B.Listing.listed l.initial.board).shown;
}

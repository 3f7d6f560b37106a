use Rattle.std.proofs.Common.{take}
use Rattle.cmh_segment3.proofs.RowLists.{AreFirst}
use Rattle.cmh_segment3.specs.Base.{IsLinkRow, link_place}
use Rattle.cmh_bases3.proofs.links.are_link_rows.Given as goal

-- the links so far, behind which only sites from `least` on can come
abbrev pub invariant-loop-link : goal.invariant-loop-link
invariant-loop-link l = AreFirst IsLinkRow link_place l.least (take l.link-index l.links)

use Rattle.std.proofs.Common.{◌≡◌, ◌+◌, ◌-◌, ◌^◌, length, min, take}
use Rattle.std.specs.List.{flat_map}
use Rattle.cmh_segment3.specs.Base.{link_row}
use Rattle.cmh_bases3.proofs.links.bytes_of_links.Given as goal

-- those so far
abbrev pub invariant-loop-link : goal.invariant-loop-link
invariant-loop-link l = l.bytes ≡ min (4 + length (flat_map link_row (take l.link-index l.links))) (2 ^ 64 - 1)

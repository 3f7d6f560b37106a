-- Links whose rows a base can have.
use Rattle.std.specs.Prelude.{ℕ, ◌^◌, ◌≤◌, List, length}
use Rattle.cmh_segment3.specs.Base.{IsLinkRow, link_place, link_row}
use Rattle.cmh_segment3.specs.Rows.{AreRows, rows_spelling}
use Rattle.cmh_segment3.specs.declared.links.LinkState.{LinkState}

-- how many bytes the rows of links may have, so that the other rows have room
abbrev pub most_link_bytes : ℕ
most_link_bytes = 2 ^ 30

-- The grammar allows them, they are in order, and they are not too long.
pub record FitLinks (links : List LinkState) : Type 0 where
  pub rows : AreRows IsLinkRow link_place links
  pub short : length (rows_spelling link_row links) ≤ most_link_bytes

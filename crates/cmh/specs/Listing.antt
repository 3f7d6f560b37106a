-- What a list of segments comes to.
use Rattle.std.specs.Prelude.{ℕ, List, Option, None}
use Rattle.cmh_archive3.specs.Listing.{ListsSegments}

-- The lines of the segments that were read in some folders were written. Of what the disk holds nothing is said.
abbrev pub ListsSome : Option (List ℕ) → Option (List ℕ) → Type 0
ListsSome old new = (topology : List ℕ) × (paths : List (List ℕ)) × ListsSegments None topology paths old new

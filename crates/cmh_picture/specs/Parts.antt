-- The part of a run that is drawn.
use Rattle.std.specs.Prelude.{ℕ, ◌-◌, Bool, true, false, ◌&&◌, ◌||◌, nat_le, nat_lt, List, filter, Option, None, Some}
use Rattle.std.specs.Option.{option_map_or}
use Rattle.cmh_draw.specs.declared.mark.Arrow as arrows
use Rattle.cmh_draw.specs.declared.mark.EntrySpot.{EntrySpot}
use Rattle.cmh_draw.specs.declared.mark.Mark.{Mark}
use Rattle.cmh_draw.specs.declared.mark.Mark.TheVariants.{Site, Process, Wait, Entry, Arrow, Stop}
use Rattle.cmh_draw.specs.declared.mark.Spot.{Spot}
use Rattle.cmh_picture.specs.declared.part.Part.{Part}

-- a spot, whose column counts from 0, is in one of the columns of a part, which count from 1
abbrev pub has : Part → Spot → Bool
has part spot = nat_lt spot.column part.last && nat_le (part.first - 1) spot.column

-- a frame was got in one of them
abbrev pub has_end : Part → arrows.Arrow → Bool
has_end part arrow = option_map_or (λ got. has part got.spot) arrow.got false

-- a mark is drawn: an entry or a stop in one of the columns, a frame that was sent or got in one, and what has no column
-- of its own
abbrev pub shows : Part → Mark → Bool
shows part (Entry entry) = has part entry.at.spot
shows part (Stop at) = has part at.spot
shows part (Arrow arrow) = has part arrow.from.spot || has_end part arrow
shows part mark = true

-- the marks of a part; all where none is asked for
abbrev pub marks_in : Option Part → List Mark → List Mark
marks_in None marks = marks
marks_in (Some part) marks = filter (shows part) marks

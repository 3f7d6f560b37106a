-- The state of a script that is played: first its sites are named, then their world is played.
use Rattle.std.specs.Prelude.{List}
use Rattle.cmh_frames.specs.Rows.{Row}
use Rattle.cmh_play3.specs.World.{World}

-- the first command makes a world of the rows that were named
pub data PlayState : Type 0 where
  Named : List Row → PlayState
  Played : World → PlayState

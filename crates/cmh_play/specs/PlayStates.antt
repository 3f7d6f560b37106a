-- The state of a script that is played: first its sites are named, then their world is played.
use Rattle.std.specs.Prelude.{List}
use Rattle.cmh_frames.specs.declared.edition.Edition.{Edition}
use Rattle.cmh_frames.specs.Rows.{Row}
use Rattle.cmh_play.specs.World.{World}

-- the first command makes a world of the rows that were named
pub data PlayState : Type 0 where
  Named : Edition → List Row → PlayState
  Played : World → PlayState

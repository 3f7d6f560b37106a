-- A world that is played is at the end of a run.
use Rattle.std.specs.Prelude.{◌≡◌, ℕ, List, MatchOption, ⊤}
use Rattle.cmh_frames.specs.Entries.{WorldEvent}
use Rattle.cmh_frames.specs.Runs.{IsRun, ComesFrom, under_way}
use Rattle.cmh_play.specs.World.{World, entries_at}

-- The events are a run that has of each site just its journal, and under way are the frames on the links. What a cut
-- link lost stays under way.
pub record IsRunOf (world : World) (events : List WorldEvent) : Type 0 where
  pub run : IsRun world.topology events
  pub comes : ComesFrom (entries_at world) events
  pub links : (a b : ℕ) → MatchOption (world.links a b) ⊤ (λ frames. under_way a b events ≡ frames)

-- the world is at the end of a run
abbrev pub IsPlayed : World → Type 0
IsPlayed world = (events : List WorldEvent) × IsRunOf world events

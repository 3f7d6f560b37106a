-- Which states are shown by what is held of one, and what leads from there to what is held of another.
use Rattle.std.specs.Prelude.{◌≡◌, Bool, []}
use Rattle.cmh_frames.specs.declared.edition.Edition.TheVariants.{One}
use Rattle.cmh_play.specs.Held.{Held, Shows, ShowsLater}
use Rattle.cmh_play.specs.Runs.{IsPlayed}
use Rattle.cmh_play.specs.World.{World}
use Rattle.cmh_play.specs.PlayStates.{PlayState, Named, Played}
use Rattle.cmh_play.specs.Play.{IsNewWorld, IsOfRun}
use Rattle.cmh_play.specs.declared.play.PlayState.{PlayState as HeldState}
use Rattle.cmh_play.specs.declared.play.PlayState.TheVariants.{Named as HeldNamed, Played as HeldPlayed}

-- a draft shows itself, and a played world what its journals may be
abbrev pub IsShown : Bool → PlayState → HeldState → Type 0
IsShown keeps (Named edition rows) (HeldNamed held) = held ≡ record { edition = edition; rows = rows }
IsShown keeps (Played world) (HeldPlayed held) = Shows keeps world held
IsShown keeps state held = ⊥

-- neither sites nor commands
abbrev pub IsNewHeld : HeldState → Type 0
IsNewHeld held = held ≡ HeldNamed (record { edition = One; rows = [] })

-- the world of a state is this one; that of sites which are only named is new
abbrev pub IsWorldOf : PlayState → World → Type 0
IsWorldOf (Named edition rows) world = IsNewWorld edition rows world
IsWorldOf (Played played) world = played ≡ world

-- a world is that of the state
abbrev pub HasWorld : PlayState → Type 0
HasWorld state = (world : World) × IsWorldOf state world

-- a state is shown of which this holds
pub record ShowsSome (keeps : Bool) (held : HeldState) (Holds : PlayState → Type 0) : Type 0 where
  pub state : PlayState
  pub shows : IsShown keeps state held
  pub holds : Holds state

-- of each world that was shown and is at the end of a run, one is shown that is related to it
abbrev pub LeadsPlayed : (World → World → Type 0) → Held → Held → Type 0
LeadsPlayed Related old new =
    (keeps : Bool) (world : World) → Shows keeps world old → IsPlayed world → ShowsLater Related keeps world new

-- the same of states
abbrev pub LeadsOn : Bool → (PlayState → PlayState → Type 0) → HeldState → HeldState → Type 0
LeadsOn keeps Related old new =
    (state : PlayState) → IsShown keeps state old → IsOfRun state → ShowsSome keeps new (Related state)

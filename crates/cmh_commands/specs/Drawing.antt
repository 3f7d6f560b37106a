-- Pictures of files.
use Rattle.std.specs.Prelude.{◌≡◌, ℕ, ◌<◌, ◌^◌, ◌⊎◌, ◌&&◌, ⊤, if◌then◌else◌, List, Option, None, Some, is_none, unwrap_or}
use Rattle.clap.specs.declared.parser.matches.Found.{Found}
use Rattle.cmh_draw.specs.declared.picture.Kind.{Kind}
use Rattle.cmh_console.specs.Device.{Writing}
use Rattle.cmh_console.specs.Faults.{NamesFault}
use Rattle.cmh_console.specs.TopologyFile3.{SaysNoWorld}
use Rattle.cmh_draw3.specs.Draws as edition3
use Rattle.cmh_draw3.specs.Epochs.{LongDrawEnds}
use Rattle.cmh_picture.specs.Draws.{DrawEnds}
use Rattle.cmh_picture.specs.declared.format.Format.{Format}
use Rattle.cmh_picture.specs.declared.part.Part.{Part}
use Rattle.cmh_inputs.specs.Editions.{SaysSomeWorld}
use Rattle.cmh_inputs.specs.FileFaults.{IsUnread, as_fault}
use Rattle.cmh_inputs.specs.Stored.{Stored}
use Rattle.cmh_commands.specs.Files.{EndsOver}
use Rattle.cmh_commands.specs.Later.{OneBeginsLater}
use Rattle.cmh_commands.specs.Numbers.{TellsNumber}

-- an option that is told is this column, or it is not told
abbrev pub TellsColumn : Option (List ℕ) → Option ℕ → Type 0
TellsColumn told None = told ≡ None
TellsColumn told (Some column) = (column < 2 ^ 32) × TellsNumber told column

-- the part from one column, or from the first, to another, or to the last; none where no column is told
abbrev pub part_between : Option ℕ → Option ℕ → Option Part
part_between first last = if is_none first && is_none last then None
    else Some (record { first = unwrap_or first 1; last = unwrap_or last 4294967295 })

-- the words name an epoch, or a journal of edition 3 is of a later one than the first
abbrev pub NeedsAll : List ℕ → List (List ℕ) → Option ℕ → Type 0
NeedsAll topology files None = SaysSomeWorld topology × OneBeginsLater files
NeedsAll topology files (Some epoch) = ⊤

-- a picture of some files of segments, in the world of this topology file
abbrev pub DrawsSegments : {W E : Type 0} → List ℕ → Kind → Format → Option Part → Option ℕ → Writing W → Writing W → Writing E → Writing E → ℕ → Type 0
DrawsSegments topology kind format part epoch old new err_old err_new status =
    (segments : List (List (List ℕ))) × LongDrawEnds topology segments epoch kind format part old new err_old err_new status

-- The picture of these files: of edition 3 where the topology file says a world of it, else of editions 1 and 2. Where one of
-- them is of a later epoch, it is one over several epochs; so it is where an epoch is named.
abbrev pub DrawEndsByEdition : {W E : Type 0} → List ℕ → List (List ℕ) → Kind → Format → Option Part → Option ℕ → Writing W → Writing W → Writing E → Writing E → ℕ → Type 0
DrawEndsByEdition topology files kind format part None old new err_old err_new status =
    (SaysSomeWorld topology × edition3.DrawEnds topology files kind format part old new err_old err_new status)
    ⊎ (SaysNoWorld topology × DrawEnds topology files kind format part old new err_old err_new status)
    ⊎ (SaysSomeWorld topology × OneBeginsLater files × DrawsSegments topology kind format part None old new err_old err_new status)
DrawEndsByEdition topology files kind format part (Some epoch) old new err_old err_new status =
    DrawsSegments topology kind format part (Some epoch) old new err_old err_new status

-- the files that are named were drawn
abbrev pub DrawsNamed : {W E : Type 0} → Option Stored → Found → Kind → Format → Option Part → Option ℕ → Writing W → Writing W → Writing E → Writing E → ℕ → Type 0
DrawsNamed told found kind format part epoch old new err_old err_new status =
    EndsOver told found (λ topology files. DrawEndsByEdition topology files kind format part epoch old new err_old err_new status)
    old new err_old err_new status

-- some files were drawn, or nothing is written and the fault of one that could not be read is named
abbrev pub DrawsFiles : {W E : Type 0} → Kind → Format → Option Part → Option ℕ → Writing W → Writing W → Writing E → Writing E → ℕ → Type 0
DrawsFiles kind format part epoch old new err_old err_new status =
    ((topology : List ℕ) × (files : List (List ℕ)) × DrawEndsByEdition topology files kind format part epoch old new err_old err_new status)
    ⊎ ((new ≡ old) × NamesFault as_fault IsUnread status err_old err_new)

-- the same of a kind, a format, a part and an epoch
abbrev pub DrawsSome : {W E : Type 0} → Writing W → Writing W → Writing E → Writing E → ℕ → Type 0
DrawsSome old new err_old err_new status =
    (kind : Kind) × (format : Format) × (part : Option Part) × (epoch : Option ℕ) × DrawsFiles kind format part epoch old new err_old err_new status

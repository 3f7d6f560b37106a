-- A script that is played: what each line does to the state, and what is written for it.
use Rattle.std.specs.Prelude.{◌≡◌, ◌≢◌, ℕ, ◌<◌, zero, suc, false, Bool, List, [], ◌∷◌, ◌++◌, length, nat_lt, if◌then◌else◌, None, Some, MatchOption, Option, Result, Ok as Ended, Err, replicate, ⊤}
use Rattle.std.specs.Io.BufRead.{first_line, drop_through}
use Rattle.std.specs.Io.KnownBytes.{Appends}
use Rattle.cmh_console.specs.Device.{Tells}
use Rattle.cmh_console.specs.Faults.{status_of}
use Rattle.cmh_console.specs.declared.dialogue.DialogueFault.{DialogueFault}
use Rattle.cmh_console.specs.declared.dialogue.DialogueFault.TheVariants as dialogue
use Rattle.cmh_console.specs.declared.faults.Fault.{Fault}
use Rattle.cmh_console.specs.declared.faults.Fault.TheVariants as faults
use Rattle.cmh_frames.specs.Rows.{Row}
use Rattle.cmh_topology3.specs.Rows.{IsFaultOf, fault_of}
use Rattle.cmh_topology3.specs.Topology.{IsTopologyOf}
use Rattle.cmh_model3.specs.Runs.{IsRun}
use Rattle.cmh_script3.specs.Script.{Says}
use Rattle.cmh_script3.specs.declared.script.Line.{Line}
use Rattle.cmh_script3.specs.declared.script.Line.TheVariants.{Silent, Bad, Edition, Site, Command as Command_line}
use Rattle.cmh_play3.specs.Replies.{reply_text}
use Rattle.cmh_play3.specs.PlayStates.{PlayState, Named, Played}
use Rattle.cmh_play3.specs.World.{World, CarriesOut, homes}
use Rattle.cmh_play3.specs.declared.reply.Reply.{Reply}
use Rattle.cmh_play3.specs.declared.reply.Reply.TheVariants.{Silent as NoReply, Ok, BadLine, Late, Topology}

-- ---- what a line does

-- a world in which nothing has happened yet, of the sites that were named
pub record IsNewWorld (rows : List Row) (world : World) : Type 0 where
  pub topology : IsTopologyOf (replicate 16 0) rows world.topology
  pub events : world.events ≡ []
  pub uncut : (a b : ℕ) → world.is_cut a b ≡ false

-- What a line does, and what is answered. The edition is named while no site is; a row with which the rows are no topology
-- is left out; the first command makes the world.
abbrev pub Replies : PlayState → PlayState → Line → Reply → Type 0
Replies old new Silent NoReply = new ≡ old
Replies old new Bad BadLine = new ≡ old
Replies (Named rows) new Edition Ok = (rows ≡ []) × (new ≡ Named rows)
Replies (Named rows) new Edition Late = (rows ≢ []) × (new ≡ Named rows)
Replies (Named rows) new (Site row) Ok = (fault_of (rows ++ row ∷ []) ≡ None) × (new ≡ Named (rows ++ row ∷ []))
Replies (Named rows) new (Site row) (Topology fault) = IsFaultOf (rows ++ row ∷ []) fault × (new ≡ Named rows)
Replies (Named rows) (Played after) (Command_line command) reply =
    (before : World) × IsNewWorld rows before × CarriesOut before after command reply
Replies (Played world) new Edition Late = new ≡ Played world
Replies (Played world) new (Site row) Late = new ≡ Played world
Replies (Played before) (Played after) (Command_line command) reply = CarriesOut before after command reply
Replies old new line reply = ⊥

-- ---- a whole script

-- neither sites nor commands
abbrev pub new_state : PlayState
new_state = Named []

-- the events of a world, if the state has one, are a run
abbrev pub IsOfRun : PlayState → Type 0
IsOfRun (Named rows) = ⊤
IsOfRun (Played world) = IsRun (homes world) world.events

-- A line, or a bad one where it is too long, did this to the state, and was answered by this text. The events of each
-- state are a run.
pub record IsTurnOfScript (old new : PlayState) (line : Option (List ℕ)) (text : List ℕ) : Type 0 where
  pub said : Line
  pub reply : Reply
  pub says : MatchOption line (said ≡ Bad) (λ bytes. Says bytes said)
  pub replies : Replies old new said reply
  pub of_run : IsOfRun new
  pub text_is : text ≡ reply_text reply

-- the first line of the bytes, unless it has more than 4,096 of them
abbrev pub line_in : List ℕ → Option (List ℕ)
line_in bytes = if nat_lt 4096 (length (first_line bytes)) then None else Some (first_line bytes)

-- Of a script the lines before the rest were answered in their order by the text, and led from the first state to the
-- last.
pub data Dialogue (bytes : List ℕ) : List ℕ → List ℕ → PlayState → Type 0 where
  begin : Dialogue bytes bytes [] new_state
  turn : (rest text said : List ℕ) (old new : PlayState) → Dialogue bytes rest text old → 0 < length rest
      → IsTurnOfScript old new (line_in rest) said → Dialogue bytes (drop_through 10 rest) (text ++ said) new

-- some lines of a script were answered by the text, and some left
pub record Answers (bytes rest text : List ℕ) : Type 0 where
  pub last : PlayState
  pub dialogue : Dialogue bytes rest text last

-- all lines of a script were answered, which led to this state
abbrev pub PlayedTo : List ℕ → Option (List ℕ) → Option (List ℕ) → PlayState → Type 0
PlayedTo bytes old new last = (text : List ℕ) × Dialogue bytes [] text last × Appends old new text

-- the world of a state: the one that is played, or one in which nothing has happened yet
abbrev pub IsWorldOf : PlayState → World → Type 0
IsWorldOf (Named rows) world = IsNewWorld rows world
IsWorldOf (Played played) world = world ≡ played

-- lines of a script were answered, where the reader tells its bytes: at status 0 all of them, and each answer was written
abbrev pub Answered : List ℕ → Option (List ℕ) → Option (List ℕ) → Bool → ℕ → Type 0
Answered bytes old new has_failed zero = (text : List ℕ) × Answers bytes [] text × Appends old new text
Answered bytes old new has_failed (suc status) =
    (text : List ℕ) × (rest : List ℕ) × Answers bytes rest text × Tells old new has_failed text

-- ---- the end

-- the fault that is named
abbrev pub as_fault : DialogueFault → Fault
as_fault dialogue.Input = faults.Input
as_fault dialogue.Output = faults.Output
as_fault dialogue.Memory = faults.Memory

-- the status of a script's end, or of a fault
abbrev pub status_after : {X : Type 0} → Result X DialogueFault → ℕ
status_after (Ended played) = 0
status_after (Err fault) = status_of (as_fault fault)

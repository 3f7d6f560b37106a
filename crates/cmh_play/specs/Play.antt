-- A script that is played: what each line does to the state, and what is written for it.
use Rattle.std.specs.Prelude.{◌≡◌, ◌≢◌, ℕ, zero, suc, Bool, List, [], ◌∷◌, ◌++◌, Option, None, Some, Result, Ok as Ok_result, Err, MatchOption, ⊤}
use Rattle.cmh_frames.specs.declared.edition.Edition.{Edition}
use Rattle.cmh_frames.specs.declared.edition.Edition.TheVariants.{One}
use Rattle.cmh_frames.specs.Rows.{Row, IsFaultOf, fault_of}
use Rattle.cmh_frames.specs.Topology.{IsTopologyOf}
use Rattle.cmh_play.specs.Replies.{reply_text}
use Rattle.cmh_controller.specs.declared.refusal.Refusal.TheVariants.{Memory}
use Rattle.cmh_audit.specs.Verdicts.{IsAccepted}
use Rattle.cmh_console.specs.Dialogue.{Conversed}
use Rattle.cmh_console.specs.declared.dialogue.Flow.{Flow}
use Rattle.cmh_console.specs.declared.dialogue.Flow.TheVariants.{Awaits}
use Rattle.cmh_play.specs.World.{World, entries_at, CarriesOut}
use Rattle.cmh_frames.specs.Entries.{WorldEvent}
use Rattle.cmh_play.specs.Runs.{IsRunOf}
use Rattle.cmh_play.specs.declared.site.Refused.TheVariants.{Rule}
use Rattle.cmh_console.specs.Script.{Says}
use Rattle.cmh_console.specs.Faults.{status_of}
use Rattle.cmh_console.specs.declared.dialogue.DialogueFault.TheVariants.{Input}
use Rattle.cmh_play.specs.PlayFaults.{as_fault}
use Rattle.cmh_play.specs.declared.play_fault.PlayFault.{PlayFault}
use Rattle.cmh_play.specs.PlayStates.{PlayState, Named, Played}
use Rattle.cmh_play.specs.declared.reply.Reply.{Reply}
use Rattle.cmh_play.specs.declared.reply.Reply.TheVariants.{Silent as NoReply, Ok, BadLine, Late, Topology, Refused, Report}
use Rattle.cmh_console.specs.declared.script.Command.TheVariants.{Deliver}
use Rattle.cmh_console.specs.declared.script.Line.{Line}
use Rattle.cmh_console.specs.declared.script.Line.TheVariants.{Silent, Bad, Edition as Edition_line, Site, Command as Command_line}

-- ---- what a line does

-- a world in which nothing has happened yet, of the sites that were named
pub record IsNewWorld (edition : Edition) (rows : List Row) (world : World) : Type 0 where
  pub topology : IsTopologyOf edition rows world.topology
  pub journals : (s : ℕ) → entries_at world s ≡ []
  pub links : (a b : ℕ) → world.links a b ≡ Some []

-- What a line does, and what is answered. The edition is set while no site is named; a row with which the rows are no
-- topology is left out; the first command makes the world.
abbrev pub Replies : PlayState → PlayState → Line → Reply → Type 0
Replies old new Silent NoReply = new ≡ old
Replies old new Bad BadLine = new ≡ old
Replies (Named edition rows) new (Edition_line said) Ok = (rows ≡ []) × (new ≡ Named said [])
Replies (Named edition rows) new (Edition_line said) Late = (rows ≢ []) × (new ≡ Named edition rows)
Replies (Named edition rows) new (Site row) Ok =
    (fault_of edition (rows ++ row ∷ []) ≡ None) × (new ≡ Named edition (rows ++ row ∷ []))
Replies (Named edition rows) new (Site row) (Topology fault) =
    IsFaultOf edition (rows ++ row ∷ []) fault × (new ≡ Named edition rows)
Replies (Named edition rows) (Played after) (Command_line command) reply =
    (before : World) × IsNewWorld edition rows before × CarriesOut before after command reply
Replies (Played world) new (Edition_line said) Late = new ≡ Played world
Replies (Played world) new (Site row) Late = new ≡ Played world
Replies (Played before) (Played after) (Command_line command) reply = CarriesOut before after command reply
Replies old new line reply = ⊥

-- ---- a whole script

-- neither sites nor commands
abbrev pub new_state : PlayState
new_state = Named One []

-- a state whose world, if it has one, is at the end of a run
abbrev pub IsOfRun : PlayState → Type 0
IsOfRun (Named edition rows) = ⊤
IsOfRun (Played world) = (events : List WorldEvent) × IsRunOf world events

-- A frame is refused only where a journal is full or memory ran out, and a report is that of accepted journals.
abbrev pub IsOfHonestSites : Line → Reply → Type 0
IsOfHonestSites (Command_line (Deliver from to)) (Refused (Rule refusal)) = refusal ≡ Memory
IsOfHonestSites line (Report edition verdict) = IsAccepted verdict.value
IsOfHonestSites line reply = ⊤

-- A line, or a bad one where it is too long, did this to the state, and was answered by this text. The world of each
-- state is at the end of a run.
pub record IsTurnOfScript (old new : PlayState) (line : Option (List ℕ)) (text : List ℕ) (flow : Flow) : Type 0 where
  pub said : Line
  pub reply : Reply
  pub says : MatchOption line (said ≡ Bad) (λ bytes. Says bytes said)
  pub replies : Replies old new said reply
  pub honest : IsOfHonestSites said reply
  pub of_run : IsOfRun new
  pub text_is : text ≡ reply_text reply

-- lines of a script were answered, where the reader tells its bytes: at status 0 all of them, and each answer was written
abbrev pub Answered : List ℕ → Option (List ℕ) → Option (List ℕ) → Bool → ℕ → Type 0
Answered bytes old new has_failed zero = Conversed IsTurnOfScript new_state bytes old new has_failed (Ok_result Awaits)
Answered bytes old new has_failed (suc status) = Conversed IsTurnOfScript new_state bytes old new has_failed (Err Input)

-- the status of a script's end, or of a fault
abbrev pub status_after : Result (Unit {0}) PlayFault → ℕ
status_after (Ok_result played) = 0
status_after (Err fault) = status_of (as_fault fault)

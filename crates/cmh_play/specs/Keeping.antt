-- A script that is played, and whose journals are kept.
use Rattle.std.specs.Prelude.{◌≡◌, ℕ, zero, suc, Bool, List, [], Option, Err, MatchOption}
use Rattle.std.specs.Io.KnownBytes.{Appends}
use Rattle.cmh_journal.specs.Journal.{Journal}
use Rattle.cmh_play.specs.World.{World}
use Rattle.cmh_console.specs.Dialogue.{Conversed, Dialogue}
use Rattle.cmh_console.specs.declared.dialogue.Flow.TheVariants.{Awaits}
use Rattle.cmh_console.specs.declared.dialogue.DialogueFault.TheVariants.{Input}
use Rattle.cmh_play.specs.Play.{IsTurnOfScript, Replies, new_state}
use Rattle.cmh_play.specs.Showing.{IsWorldOf}
use Rattle.cmh_console.specs.Script.{Says}
use Rattle.cmh_console.specs.declared.script.Line.{Line}
use Rattle.cmh_console.specs.declared.script.Line.TheVariants.{Bad}
use Rattle.cmh_play.specs.PlayStates.{PlayState}
use Rattle.cmh_play.specs.declared.reply.Reply.{Reply}
use Rattle.cmh_play.specs.declared.reply.Reply.TheVariants.{Report}

-- the journals of the state's world were kept; of a draft those of its sites, which are empty
pub record KeepsWorld {K : Type 0} (Keeps : K → List Journal → K → Type 0) (state : PlayState) (old new : K) : Type 0 where
  pub world : World
  pub stands : IsWorldOf state world
  pub kept : Keeps old world.journals new

-- a report comes after the journals were kept; other replies leave the keeper as it was
abbrev pub KeepsAt : {K : Type 0} → (K → List Journal → K → Type 0) → Reply → PlayState → K → K → Type 0
KeepsAt Keeps (Report edition verdict) state old new = KeepsWorld Keeps state old new
KeepsAt Keeps reply state old new = new ≡ old

-- a line did this to the state, and has this reply; journals were kept where it asked for a report
pub record AnswersAndKeeps {K : Type 0} (Keeps : K → List Journal → K → Type 0) (old new : PlayState) (line : Option (List ℕ))
    (reply : Reply) (keeper_old keeper_new : K) : Type 0 where
  pub said : Line
  pub says : MatchOption line (said ≡ Bad) (λ bytes. Says bytes said)
  pub replies : Replies old new said reply
  pub keeps : KeepsAt Keeps reply new keeper_old keeper_new

-- all lines of the bytes were answered, and led to the state
pub record PlayedToEnd (bytes : List ℕ) (old new : Option (List ℕ)) (state : PlayState) : Type 0 where
  pub text : List ℕ
  pub dialogue : Dialogue PlayState IsTurnOfScript new_state bytes [] text state Awaits
  pub wrote : Appends old new text

-- lines of a script were answered; at its end the journals of its world were kept
abbrev pub AnsweredAndKept : {K : Type 0} → (K → List Journal → K → Type 0) → List ℕ → Option (List ℕ) → Option (List ℕ) → Bool → ℕ → K → Type 0
AnsweredAndKept {K} Keeps bytes old new has_failed zero keeper =
    (state : PlayState) × PlayedToEnd bytes old new state × ((before : K) × KeepsWorld Keeps state before keeper)
AnsweredAndKept Keeps bytes old new has_failed (suc status) keeper =
    Conversed IsTurnOfScript new_state bytes old new has_failed (Err Input)

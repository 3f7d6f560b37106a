-- The lines of a script that were answered so far, of a state that is shown.
use Rattle.std.proofs.Common.{◌≡◌, ◌≢◌, ℕ, ◌+◌, Bool, List, Option, Some, refl, subst, sym}
use Rattle.std.specs.Prelude.{IfSome}
use Rattle.std.specs.Io.BufRead.{drop_through}
use Rattle.std.specs.Io.KnownBytes.{Appends}
use Rattle.cmh_journal.specs.Journal.{Journal}
use Rattle.cmh_console.specs.Lines.{IsNextLine}
use Rattle.cmh_console.specs.declared.lines.NextLine.{NextLine}
use Rattle.cmh_console.specs.declared.lines.NextLine.TheVariants.{End}
use Rattle.cmh_play.proofs.PlayedLines.{replied, said_no_got}
use Rattle.cmh_console.proofs.Dialogues.{HasTalked, begun, talked_more}
use Rattle.cmh_console.specs.Dialogue.{line_of}
use Rattle.cmh_console.specs.declared.dialogue.Flow.TheVariants.{Awaits}
use Rattle.cmh_play.specs.Replies.{reply_text}
use Rattle.cmh_play.specs.PlayStates.{PlayState}
use Rattle.cmh_play.specs.Keeping.{AnswersAndKeeps}
use Rattle.cmh_play.specs.Play.{IsOfRun, IsTurnOfScript, new_state}
use Rattle.cmh_play.specs.Showing.{IsNewHeld, IsShown, LeadsOn}
use Rattle.cmh_play.specs.declared.play.PlayState.{PlayState as HeldState}
use Rattle.cmh_play.specs.declared.reply.Reply.{Reply}

-- n lines led to a state that is shown
pub record HasLed (keeps : Bool) (held : HeldState) (start now old out : Option (List ℕ)) (n : ℕ) : Type 0 where
  pub state : PlayState
  pub shows : IsShown keeps state held
  pub of_run : IsOfRun state
  pub played : HasTalked PlayState IsTurnOfScript new_state start now old out state n

pub led_begun : (keeps : Bool) (held : HeldState) (start out : Option (List ℕ)) → IsNewHeld held → HasLed keeps held start start out out 0
led_begun keeps held start out new = record {
  state = new_state;
  shows = subst (λ (h : HeldState). IsShown keeps new_state h) (sym new) refl;
  of_run = tt;
  played = begun PlayState IsTurnOfScript new_state start out;
}

-- one line more
pub led_more : {K : Type 0} → (Keeps : K → List Journal → K → Type 0) (keeps : Bool) (held later : HeldState) (start now old out after wrote : Option (List ℕ)) (n : ℕ) (next : NextLine) (reply : Reply) (keeper_old keeper_new : K)
    → HasLed keeps held start now old out n → IfSome now (λ bytes. IsNextLine bytes next) → IfSome now (λ bytes. after ≡ Some (drop_through 10 bytes)) → next ≢ End
    → LeadsOn keeps (λ before behind. AnswersAndKeeps Keeps before behind (line_of next) reply keeper_old keeper_new) held later → Appends out wrote (reply_text reply) → HasLed keeps later start after old wrote (n + 1)
led_more Keeps keeps held later start now old out after wrote n next reply keeper_old keeper_new so_far is left more leads told =
    let behind = leads so_far.state so_far.shows so_far.of_run in
    let a = behind.holds in
    let follows = replied so_far.state behind.state a.said reply (said_no_got (line_of next) a.said a.says) a.replies so_far.of_run in
    record {
      state = behind.state;
      shows = behind.shows;
      of_run = follows.1;
      played = talked_more PlayState IsTurnOfScript new_state start old now out so_far.state n so_far.played after wrote next behind.state Awaits is left more refl (record {
        text = reply_text reply;
        answered = record { said = a.said; reply = reply; says = a.says; replies = a.replies; honest = follows.0; of_run = follows.1; text_is = refl };
        wrote = told;
      });
    }

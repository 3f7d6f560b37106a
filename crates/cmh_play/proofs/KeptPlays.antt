-- A script that is played, and whose journals are kept.
use Rattle.std.proofs.Common.{◌≡◌, ◌≢◌, ℕ, zero, suc, Bool, true, false, Box, List, [], Option, None, Some, refl, sym, ap, subst, inl, inr, true≢false}
use Rattle.std.specs.Prelude.{◌⊎◌, IfErr, IfSome, IsErr, IsErrAnd, OnOk, Result, Ok, Err}
use Rattle.std.specs.Global.{Global}
use Rattle.std.specs.Io.KnownBytes.{Keeps}
use Rattle.std.proofs.KnownBytes.{Appends-kept}
use Rattle.cmh_console.specs.declared.dialogue.DialogueFault.{DialogueFault}
use Rattle.cmh_console.specs.declared.dialogue.DialogueFault.TheVariants.{Input, Output, Memory}
use Rattle.cmh_console.specs.declared.keeping.NoFile.{NoFile}
use Rattle.cmh_console.specs.declared.keeping.NoFile.TheVariants as files
use Rattle.cmh_journal.specs.Journal.{Journal}
use Rattle.cmh_console.proofs.LinesSeen.{if_some}
use Rattle.cmh_console.specs.declared.lines.LineFault.{LineFault}
use Rattle.cmh_console.specs.Lines.{IsNextLine}
use Rattle.cmh_console.specs.declared.lines.NextLine.{NextLine}
use Rattle.cmh_console.specs.declared.lines.NextLine.TheVariants.{End}
use Rattle.cmh_console.proofs.LineLemmas.{at_some}
use Rattle.cmh_console.proofs.Dialogues.{HasTalked}
use Rattle.cmh_console.specs.Dialogue.{Conversed, Dialogue, IsDialogueFault, of_line}
use Rattle.cmh_console.specs.declared.dialogue.Flow.TheVariants.{Awaits}
use Rattle.cmh_play.proofs.Plays.{status_above_0}
use Rattle.cmh_play.specs.Keeping.{AnsweredAndKept, KeepsAt, KeepsWorld, PlayedToEnd}
use Rattle.cmh_play.specs.PlayFaults.{IsPlayFault, of_dialogue, of_keeper}
use Rattle.cmh_play.specs.declared.play_fault.PlayFault.{PlayFault}
use Rattle.cmh_play.specs.Play.{Answered, IsTurnOfScript, new_state, status_after}
use Rattle.cmh_play.specs.PlayStates.{PlayState}
use Rattle.cmh_play.specs.declared.reply.Reply.{Reply}
use Rattle.cmh_play.specs.declared.reply.Reply.TheVariants.{Report}
use Rattle.cmh_audit.specs.declared.verdict.Verdict.{Verdict}
use Rattle.cmh_frames.specs.declared.edition.Edition.{Edition}

-- ---- a line

-- nothing is kept for a reply that is no report
pub keeps_none : {K : Type 0} → (Kept : K → List Journal → K → Type 0) (reply : Reply) (state : PlayState) (old new : K)
    → ((edition : Edition) (verdict : Box Verdict Global) → reply ≢ Report edition verdict) → new ≡ old → KeepsAt Kept reply state old new
keeps_none Kept (Report edition verdict) state old new other same = absurd (other edition verdict refl)
keeps_none Kept reply state old new other same = same

-- ---- the lines so far

module _ (start old now out : Option (List ℕ)) (state : PlayState) (n : ℕ) (so_far : HasTalked PlayState IsTurnOfScript new_state start now old out state n) where
  -- no line is left
  pub played_to_end : (next : NextLine) → IfSome now (λ bytes. IsNextLine bytes next) → next ≡ End
      → IfSome start (λ bytes. PlayedToEnd bytes old out state)
  played_to_end next is ends = if_some start _ (λ bytes e.
      let s = so_far bytes e in
      let none : s.rest ≡ [] = subst (IsNextLine s.rest) ends (at_some now (λ bytes. IsNextLine bytes next) s.rest s.now_is is) in
      record {
        text = s.text;
        dialogue = subst (λ (rest : List ℕ). Dialogue PlayState IsTurnOfScript new_state bytes rest s.text state Awaits) none s.dialogue;
        wrote = s.wrote;
      })

-- ---- faults

module _ (Fails : NoFile → Type 0) (start : Option (List ℕ)) (read_failed write_failed : Bool) where
  of_lower : (lower : DialogueFault) → IsDialogueFault start read_failed write_failed lower → IsPlayFault Fails start read_failed write_failed (of_dialogue lower)
  of_lower Input h = h
  of_lower Output h = h
  of_lower Memory h = tt

  -- a line is not read
  pub unread_fault : (r : Result (Unit {0}) PlayFault) (lower : LineFault) → IsErrAnd r (λ fault. fault ≡ of_dialogue (of_line lower))
      → IsDialogueFault start read_failed write_failed (of_line lower) → IfErr r (IsPlayFault Fails start read_failed write_failed)
  unread_fault (Ok x) lower is h = tt
  unread_fault (Err fault) lower is h = subst (IsPlayFault Fails start read_failed write_failed) (sym is) (of_lower (of_line lower) h)

  abbrev is_disk : NoFile → Bool
  is_disk files.Disk = true
  is_disk files.Memory = false

  kept_by : (lower : NoFile) → (lower ≡ files.Memory) ⊎ Fails lower → IsPlayFault Fails start read_failed write_failed (of_keeper lower)
  kept_by files.Disk (inl memory) = absurd (true≢false (ap is_disk memory))
  kept_by files.Disk (inr fails) = fails
  kept_by files.Memory h = tt

  -- the journals are not kept
  pub unkept_fault : (r : Result (Unit {0}) PlayFault) (lower : NoFile) → IsErrAnd r (λ fault. fault ≡ of_keeper lower)
      → (lower ≡ files.Memory) ⊎ Fails lower → IfErr r (IsPlayFault Fails start read_failed write_failed)
  unkept_fault (Ok x) lower is h = tt
  unkept_fault (Err fault) lower is h = subst (IsPlayFault Fails start read_failed write_failed) (sym is) (kept_by lower h)

-- ---- the end

-- no journals are kept where the script ends by a fault
pub kept_none : {K : Type 0} → (Kept : K → List Journal → K → Type 0) (start old new : Option (List ℕ)) (has_failed : Bool) (r : Result (Unit {0}) PlayFault) (keeper : K)
    → IfSome start (λ bytes. Conversed IsTurnOfScript new_state bytes old new has_failed (Err Input)) → IsErr r
    → IfSome start (λ bytes. AnsweredAndKept Kept bytes old new has_failed (status_after r) keeper)
kept_none Kept start old new has_failed (Ok x) keeper answered err = absurd (true≢false (sym err))
kept_none Kept start old new has_failed (Err fault) keeper answered err =
    subst (λ (status : ℕ). IfSome start (λ bytes. AnsweredAndKept Kept bytes old new has_failed status keeper)) (sym (status_above_0 fault).1) answered

-- the answers are flushed, and then the journals are kept, or are not
pub kept_at_end : {K : Type 0} → (Kept : K → List Journal → K → Type 0) (start old out new : Option (List ℕ)) (has_failed : Bool) (state : PlayState) (before after : K) (r : Result (Unit {0}) PlayFault)
    → IfSome start (λ bytes. PlayedToEnd bytes old out state) → Keeps out new → OnOk r (KeepsWorld Kept state before after)
    → IfSome start (λ bytes. AnsweredAndKept Kept bytes old new has_failed (status_after r) after)
kept_at_end Kept None old out new has_failed state before after r played flushed kept = tt
kept_at_end Kept (Some bytes) old out new has_failed state before after (Ok x) played flushed kept = (
  state,
  record { text = played.text; dialogue = played.dialogue; wrote = Appends-kept old out new played.text played.wrote flushed },
  (before, kept),
)
kept_at_end Kept (Some bytes) old out new has_failed state before after (Err fault) played flushed kept =
    subst (λ (status : ℕ). AnsweredAndKept Kept bytes old new has_failed status after) (sym (status_above_0 fault).1)
    (record { text = played.text; is = ([], state, played.dialogue); wrote = inr (Appends-kept old out new played.text played.wrote flushed) })

-- the journals are not kept
pub unkept_at_end : {K : Type 0} → (Kept : K → List Journal → K → Type 0) (start old out new : Option (List ℕ)) (has_failed : Bool) (state : PlayState) (keeper : K) (r : Result (Unit {0}) PlayFault)
    → IfSome start (λ bytes. PlayedToEnd bytes old out state) → Keeps out new → IsErr r
    → IfSome start (λ bytes. AnsweredAndKept Kept bytes old new has_failed (status_after r) keeper)
unkept_at_end Kept start old out new has_failed state keeper (Ok x) played flushed err = absurd (true≢false (sym err))
unkept_at_end Kept start old out new has_failed state keeper (Err fault) played flushed err =
    kept_at_end Kept start old out new has_failed state keeper keeper (Err fault) played flushed tt

-- what is left of it where nobody looks at the journals
pub answered_alone : {K : Type 0} → (Kept : K → List Journal → K → Type 0) (start old new : Option (List ℕ)) (has_failed : Bool) (status : ℕ) (keeper : K)
    → IfSome start (λ bytes. AnsweredAndKept Kept bytes old new has_failed status keeper) → IfSome start (λ bytes. Answered bytes old new has_failed status)
answered_alone Kept None old new has_failed status keeper h = tt
answered_alone Kept (Some bytes) old new has_failed zero keeper h = record { text = h.1.text; is = (h.0, h.1.dialogue); wrote = h.1.wrote }
answered_alone Kept (Some bytes) old new has_failed (suc status) keeper h = h

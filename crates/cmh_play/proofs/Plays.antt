-- A script that is played, line after line.
use Rattle.std.proofs.Common.{◌≡◌, ℕ, suc, Bool, true, List, [], Option, None, Some, refl, sym, subst, ◌∙◌, inl, inr}
use Rattle.std.specs.Prelude.{IfSome, OnErr, OnOk, Result, Ok, Err}
use Rattle.std.specs.Io.KnownBytes.{Keeps}
use Rattle.std.proofs.KnownBytes.{Appends-kept, Appends-nil}
use Rattle.cmh_console.specs.Device.{Tells}
use Rattle.cmh_console.specs.Dialogue.{Conversed, begin}
use Rattle.cmh_console.specs.Faults.{status_of}
use Rattle.cmh_console.specs.declared.device.WriteFault.{WriteFault}
use Rattle.cmh_console.specs.declared.dialogue.DialogueFault.TheVariants.{Input}
use Rattle.cmh_play.specs.Play.{Answered, IsTurnOfScript, new_state}
use Rattle.cmh_play.specs.PlayFaults.{as_fault}
use Rattle.cmh_play.specs.declared.play_fault.PlayFault.{PlayFault}
use Rattle.cmh_play.specs.declared.play_fault.PlayFault.TheVariants as faults

-- a fault has a status above 0
pub status_above_0 : (fault : PlayFault) → (n : ℕ) × (status_of (as_fault fault) ≡ suc n)
status_above_0 faults.Input = (2, refl)
status_above_0 faults.Output = (2, refl)
status_above_0 faults.OutFile = (2, refl)
status_above_0 faults.Memory = (0, refl)

-- ---- some lines, up to a fault

-- no line was answered
pub none_answered : (start out : Option (List ℕ)) (has_failed : Bool) → IfSome start (λ bytes. Conversed IsTurnOfScript new_state bytes out out has_failed (Err Input))
none_answered None out has_failed = tt
none_answered (Some bytes) out has_failed = record { text = []; is = (bytes, new_state, begin); wrote = inr (Appends-nil out) }

-- and this fault's status is answered
pub answered_none : (start out : Option (List ℕ)) (has_failed : Bool) (fault : PlayFault) → IfSome start (λ bytes. Answered bytes out out has_failed (status_of (as_fault fault)))
answered_none start out has_failed fault =
    subst (λ (status : ℕ). IfSome start (λ bytes. Answered bytes out out has_failed status)) (sym (status_above_0 fault).1) (none_answered start out has_failed)

tells_kept : (old out new : Option (List ℕ)) (before after : Bool) (text : List ℕ) → Tells old out before text → Keeps out new → after ≡ before → Tells old new after text
tells_kept old out new before after text (inl failed) kept same = inl (same ∙ failed)
tells_kept old out new before after text (inr wrote) kept same = inr (Appends-kept old out new text wrote kept)

-- what was answered is flushed, or the writer fails
pub some_flushed : (start old out new : Option (List ℕ)) (before after : Bool) (flushed : Result (Unit {0}) WriteFault)
    → IfSome start (λ bytes. Conversed IsTurnOfScript new_state bytes old out before (Err Input)) → Keeps out new → OnOk flushed (after ≡ before) → OnErr flushed (after ≡ true)
    → IfSome start (λ bytes. Conversed IsTurnOfScript new_state bytes old new after (Err Input))
some_flushed None old out new before after flushed c kept ok failed = tt
some_flushed (Some bytes) old out new before after (Ok x) c kept ok failed = record { text = c.text; is = c.is; wrote = tells_kept old out new before after c.text c.wrote kept ok }
some_flushed (Some bytes) old out new before after (Err e) c kept ok failed = record { text = c.text; is = c.is; wrote = inl failed }

-- How a script that the program plays ends.
use Rattle.std.specs.Prelude.{◌≡◌, ◌≢◌, ℕ, true, IfSome, ⊤}
use Rattle.cmh_console.specs.Device.{Reading, Writing}
use Rattle.cmh_console.specs.Faults.{NamesFault}
use Rattle.cmh_play.specs.Play.{Answered}
use Rattle.cmh_play.specs.PlayFaults.{IsPlayFault, as_fault}
use Rattle.cmh_play.specs.declared.play_fault.PlayFault.{PlayFault}

-- The lines of a script were answered, where the reader tells its bytes: at status 0 all of them, which was flushed, and
-- nothing else was written; else a fault is named that has a cause.
pub record PlayEnds {R W E : Type 0} (is_cause : PlayFault → Type 0) (was : Reading R) (old new : Writing W)
    (err_old err_new : Writing E) (status : ℕ) : Type 0 where
  pub answered : IfSome was.left (λ bytes. Answered bytes old.written new.written new.has_failed status)
  pub flushed : status ≡ 0 → new.is_flushed ≡ true
  pub silent : status ≡ 0 → err_new ≡ err_old
  pub fault : status ≢ 0 → NamesFault as_fault is_cause status err_old err_new

-- a script was played, and its journals were kept where that was asked for
abbrev pub PlaysScript : {R W E : Type 0} → Reading R → Reading R → Writing W → Writing W → Writing E → Writing E → ℕ → Type 0
PlaysScript was read old new err_old err_new status =
    PlayEnds (IsPlayFault (λ _. ⊤) was.left read.has_failed new.has_failed) was old new err_old err_new status

-- a script was played, and nothing else was done
abbrev pub PlaysAlone : {R W E : Type 0} → Reading R → Reading R → Writing W → Writing W → Writing E → Writing E → ℕ → Type 0
PlaysAlone was read old new err_old err_new status =
    PlayEnds (IsPlayFault (λ _. ⊥) was.left read.has_failed new.has_failed) was old new err_old err_new status

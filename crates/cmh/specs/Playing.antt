-- How a script of edition 3 that the program plays ends.
use Rattle.std.specs.Prelude.{◌≡◌, ◌≢◌, ℕ, true, IfSome}
use Rattle.cmh_console.specs.Device.{Reading, Writing}
use Rattle.cmh_console.specs.Faults.{NamesFault}
use Rattle.cmh_console.specs.Dialogue.{IsDialogueFault}
use Rattle.cmh_play3.specs.Play.{Answered, as_fault}

-- The lines of a script were answered, where the reader tells its bytes: at status 0 all of them, which was flushed, and
-- nothing else was written; else a fault is named that has a cause.
pub record PlaysEdition3 {R W E : Type 0} (was read : Reading R) (old new : Writing W) (err_old err_new : Writing E) (status : ℕ) : Type 0 where
  pub answered : IfSome was.left (λ bytes. Answered bytes old.written new.written new.has_failed status)
  pub flushed : status ≡ 0 → new.is_flushed ≡ true
  pub silent : status ≡ 0 → err_new ≡ err_old
  pub fault : status ≢ 0 → NamesFault as_fault (IsDialogueFault was.left read.has_failed new.has_failed) status err_old err_new

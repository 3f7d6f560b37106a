-- How a script ends whose journals are kept.
use Rattle.std.proofs.Common.{◌≡◌, ℕ, Bool, List, [], Option, None, Some, arith, inl, inr, sym, subst, ◌∙◌, true}
use Rattle.std.specs.Prelude.{IfSome}
use Rattle.cmh_console.specs.Device.{Reading, Writing}
use Rattle.cmh_console.specs.Faults.{status_of}
use Rattle.cmh_console.specs.declared.keeping.NoFile.{NoFile}
use Rattle.cmh_console.specs.declared.keeping.NoFile.TheVariants.{Disk, Memory}
use Rattle.cmh_play3.proofs.Lines.{all_answered, none_answered}
use Rattle.cmh_play3.specs.Play.{Answered, PlayedTo}
use Rattle.cmh_play3.specs.PlayStates.{PlayState}
use Rattle.cmh_play3.specs.Inner.Ends.{IsKept}
use Rattle.cmh_play3.specs.Plays.{KeepsWorld, PlaysAndKeeps, PlaysInto, fault_of_file}

fails : (refused : NoFile) → status_of (fault_of_file refused) ≡ 0 → ⊥
fails Disk none = let h : 3 ≡ 0 = none in absurd (omega (arith, h))
fails Memory none = let h : 1 ≡ 0 = none in absurd (omega (arith, h))

-- no line was answered
pub answered_none : (start out : Option (List ℕ)) (has_failed : Bool) (refused : NoFile)
    → IfSome start (λ bytes. Answered bytes out out has_failed (status_of (fault_of_file refused)))
answered_none start out has_failed Disk = none_of start
  where
    none_of : (start : Option (List ℕ)) → IfSome start (λ bytes. Answered bytes out out has_failed 3)
    none_of None = tt
    none_of (Some bytes) = none_answered (Some bytes) out has_failed
answered_none start out has_failed Memory = none_answered start out has_failed

-- all lines were answered, and the journals are not kept
answered_yet : (start old new : Option (List ℕ)) (has_failed : Bool) (last : PlayState) (refused : NoFile)
    → IfSome start (λ bytes. PlayedTo bytes old new last) → IfSome start (λ bytes. Answered bytes old new has_failed (status_of (fault_of_file refused)))
answered_yet None old new has_failed last refused all = tt
answered_yet (Some bytes) old new has_failed last Disk all = (all.0, [], record { last = last; dialogue = all.1 }, inr all.2)
answered_yet (Some bytes) old new has_failed last Memory all = (all.0, [], record { last = last; dialogue = all.1 }, inr all.2)

pub kept_plays : {R W E : Type 0} (was read : Reading R) (old new : Writing W) (err_old err_new : Writing E) (status : ℕ) (last : PlayState)
    → IfSome was.left (λ bytes. PlayedTo bytes old.written new.written last) → new.is_flushed ≡ true → IsKept err_old err_new status
    → PlaysInto was read old new err_old err_new status
kept_plays was read old new err_old err_new status last played flushed (inl done) = record {
  answered = subst (λ (n : ℕ). IfSome was.left (λ bytes. Answered bytes old.written new.written new.has_failed n)) (sym done.0)
      (all_answered was.left old.written new.written new.has_failed last played);
  flushed = λ _. flushed;
  silent = λ _. done.1;
  fault = λ some. absurd (some done.0);
}
kept_plays was read old new err_old err_new status last played flushed (inr named) = record {
  answered = subst (λ (n : ℕ). IfSome was.left (λ bytes. Answered bytes old.written new.written new.has_failed n)) (sym named.status_is)
      (answered_yet was.left old.written new.written new.has_failed last named.fault played);
  flushed = λ _. flushed;
  silent = λ none. absurd (fails named.fault (sym named.status_is ∙ none));
  fault = λ _. inr named;
}

-- all lines were answered, and the journals are kept
pub kept_all : {K : Type 0} (Keeps : K → ℕ → List ℕ → K → Type 0) (start out_old out_new : Option (List ℕ)) (last : PlayState) (old new : K)
    → IfSome start (λ bytes. PlayedTo bytes out_old out_new last) → KeepsWorld Keeps last old new
    → IfSome start (λ bytes. PlaysAndKeeps Keeps bytes out_old out_new old new)
kept_all Keeps None out_old out_new last old new played kept = tt
kept_all Keeps (Some bytes) out_old out_new last old new played kept = record { state = last; played = played; keeps = kept }

-- Lines of an input that are answered one after the other, each by what it does to a state.
use Rattle.std.specs.Prelude.{◌≡◌, ℕ, ◌-◌, ◌^◌, ◌<◌, ◌≤◌, nat_lt, Bool, true, ◌⊎◌, List, [], ◌++◌, length, Option, None, Some, IfSome, Result, Ok, Err, MatchResult, if◌then◌else◌, ⊤}
use Rattle.std.specs.Io.BufRead.{first_line, drop_through}
use Rattle.std.specs.Io.KnownBytes.{Appends}
use Rattle.cmh_console.specs.Device.{Tells}
use Rattle.cmh_console.specs.declared.lines.NextLine.{NextLine}
use Rattle.cmh_console.specs.declared.lines.NextLine.TheVariants.{Line as Read, TooLong, End}
use Rattle.cmh_console.specs.declared.lines.LineFault.{LineFault}
use Rattle.cmh_console.specs.declared.lines.LineFault.TheVariants.{Input as NoLine, Memory as NoSpace}
use Rattle.cmh_console.specs.declared.dialogue.DialogueFault.{DialogueFault}
use Rattle.cmh_console.specs.declared.dialogue.DialogueFault.TheVariants.{Input, Output, Memory}
use Rattle.cmh_console.specs.declared.dialogue.Flow.{Flow}
use Rattle.cmh_console.specs.declared.dialogue.Flow.TheVariants.{Awaits, Ends}

-- what was read, unless it was too long
abbrev pub line_of : NextLine → Option (List ℕ)
line_of (Read line) = Some line.now
line_of TooLong = None
line_of End = None

-- the first line of the bytes, unless it has more than 1,024 of them
abbrev pub line_in : List ℕ → Option (List ℕ)
line_in bytes = if nat_lt 1024 (length (first_line bytes)) then None else Some (first_line bytes)

-- a text was written that answers what was said
pub record HasAnswered (answers : Option (List ℕ) → List ℕ → Type 0) (said : Option (List ℕ)) (out_old out_new : Option (List ℕ)) : Type 0 where
  pub text : List ℕ
  pub answered : answers said text
  pub wrote : Appends out_old out_new text

-- Of the bytes the lines before the rest were answered in their order by the text, and led from the first state to the
-- last. After them the next line is awaited, or none.
pub data Dialogue (S : Type 0) (answers : S → S → Option (List ℕ) → List ℕ → Flow → Type 0) (first : S) (bytes : List ℕ) : List ℕ → List ℕ → S → Flow → Type 0 where
  begin : Dialogue S answers first bytes bytes [] first Awaits
  turn : (rest text said : List ℕ) (old new : S) (flow : Flow) → Dialogue S answers first bytes rest text old Awaits → 0 < length rest
      → answers old new (line_in rest) said flow → Dialogue S answers first bytes (drop_through 10 rest) (text ++ said) new flow

-- The text answers the lines of the bytes: all of them where the next is awaited, else those up to one after which none is;
-- at a fault some of them.
abbrev pub IsTextOf : (S : Type 0) → (S → S → Option (List ℕ) → List ℕ → Flow → Type 0) → S → List ℕ → List ℕ → Result Flow DialogueFault → Type 0
IsTextOf S answers first bytes text (Ok Awaits) = (last : S) × Dialogue S answers first bytes [] text last Awaits
IsTextOf S answers first bytes text (Ok Ends) = (rest : List ℕ) × (last : S) × Dialogue S answers first bytes rest text last Ends
IsTextOf S answers first bytes text (Err fault) = (rest : List ℕ) × (last : S) × Dialogue S answers first bytes rest text last Awaits

-- lines of the bytes were answered, up to a fault if there is one: the text was written, or the writer failed
pub record Conversed {S : Type 0} (answers : S → S → Option (List ℕ) → List ℕ → Flow → Type 0) (first : S) (bytes : List ℕ) (out_old out_new : Option (List ℕ))
    (has_failed : Bool) (result : Result Flow DialogueFault) : Type 0 where
  pub text : List ℕ
  pub is : IsTextOf S answers first bytes text result
  pub wrote : MatchResult result (λ flow. Appends out_old out_new text) (λ fault. Tells out_old out_new has_failed text)

-- ---- why not all lines are answered

-- the fault of a line that can't be read
abbrev pub of_line : LineFault → DialogueFault
of_line NoLine = Input
of_line NoSpace = Memory

-- why a line was not answered
abbrev pub IsAnswerFault : Option (List ℕ) → Option (List ℕ) → Bool → DialogueFault → Type 0
IsAnswerFault old new has_failed Output = has_failed ≡ true
IsAnswerFault old new has_failed Memory = new ≡ old
IsAnswerFault old new has_failed Input = ⊥

-- why not all of them were answered: reading failed, or so many bytes are told that no number counts them; nothing is said
-- of running out of memory
abbrev pub IsDialogueFault : Option (List ℕ) → Bool → Bool → DialogueFault → Type 0
IsDialogueFault told read_failed write_failed Input = (read_failed ≡ true) ⊎ IfSome told (λ bytes. 2 ^ 64 - 1 ≤ length bytes)
IsDialogueFault told read_failed write_failed Output = write_failed ≡ true
IsDialogueFault told read_failed write_failed Memory = ⊤

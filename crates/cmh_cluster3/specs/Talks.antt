-- Lines of a script of edition 3 that are answered one after the other, each by what it does to a state. They may be longer
-- than those of editions 1 and 2.
use Rattle.std.specs.Prelude.{ℕ, ◌<◌, Bool, List, [], ◌++◌, length, Option, Result, Ok, Err, MatchResult}
use Rattle.std.specs.Io.BufRead.{drop_through}
use Rattle.std.specs.Io.KnownBytes.{Appends}
use Rattle.cmh_console.specs.Device.{Tells}
use Rattle.cmh_console.specs.declared.dialogue.DialogueFault.{DialogueFault}
use Rattle.cmh_console.specs.declared.dialogue.Flow.{Flow}
use Rattle.cmh_console.specs.declared.dialogue.Flow.TheVariants.{Awaits, Ends}
use Rattle.cmh_talk3.specs.Said.{line_in}

-- Of the bytes the lines before the rest were answered in their order by the text, and led from the first state to the
-- last. After them the next line is awaited, or none.
pub data Dialogue (S : Type 0) (answers : S → S → Option (List ℕ) → List ℕ → Flow → Type 0) (first : S) (bytes : List ℕ) : List ℕ → List ℕ → S → Flow → Type 0 where
  begin : Dialogue S answers first bytes bytes [] first Awaits
  turn : (rest text said : List ℕ) (old new : S) (flow : Flow) → Dialogue S answers first bytes rest text old Awaits → 0 < length rest
      → answers old new (line_in rest) said flow → Dialogue S answers first bytes (drop_through 10 rest) (text ++ said) new flow

-- The text answers the lines of the bytes: all of them where the next is awaited, else those up to one after which none is;
-- at a fault some of them.
abbrev pub IsTextOf : (S : Type 0) → (S → S → Option (List ℕ) → List ℕ → Flow → Type 0) → S → List ℕ → List ℕ → Result Flow DialogueFault → Type 0
IsTextOf S answers first bytes text (Ok Awaits) = (last : S) × Dialogue S answers first bytes [] text last Awaits
IsTextOf S answers first bytes text (Ok Ends) = (rest : List ℕ) × (last : S) × Dialogue S answers first bytes rest text last Ends
IsTextOf S answers first bytes text (Err fault) = (rest : List ℕ) × (last : S) × Dialogue S answers first bytes rest text last Awaits

-- lines of the bytes were answered, up to a fault if there is one: the text was written, or the writer failed
pub record Conversed {S : Type 0} (answers : S → S → Option (List ℕ) → List ℕ → Flow → Type 0) (first : S) (bytes : List ℕ) (out_old out_new : Option (List ℕ))
    (has_failed : Bool) (result : Result Flow DialogueFault) : Type 0 where
  pub text : List ℕ
  pub is : IsTextOf S answers first bytes text result
  pub wrote : MatchResult result (λ flow. Appends out_old out_new text) (λ fault. Tells out_old out_new has_failed text)

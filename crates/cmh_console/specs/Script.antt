-- What a line of a script says: a name, and numbers after it.
use Rattle.std.specs.Prelude.{◌≡◌, ◌≢◌, ℕ, List, [], ◌∷◌, codes, take, slice_get, IfSome}
use Rattle.std.specs.List.{AllZip}
use Rattle.cmh_frames.specs.Edition.{number_of}
use Rattle.cmh_frames.specs.declared.event.Event.TheVariants.{Ask, Reply, Start}
use Rattle.cmh_console.specs.Words.{IsNumeral, decimal, words_of}
use Rattle.cmh_console.specs.declared.script.Command.TheVariants.{Act, Deliver, Cut, Report}
use Rattle.cmh_console.specs.declared.script.Line.{Line}
use Rattle.cmh_console.specs.declared.script.Line.TheVariants.{Silent, Bad, Edition as Edition_line, Site, Command as Command_line}

-- the first word is the name, and each word after it spells the number at its place
abbrev pub Spell : List (List ℕ) → List ℕ → List ℕ → Type 0
Spell [] name numbers = ⊥
Spell (word ∷ words) name numbers = (word ≡ name) × AllZip (λ w n. IsNumeral w × (decimal w ≡ n)) words numbers

-- the words say this line; those of a comment, and no words at all, say nothing
abbrev pub Say : List (List ℕ) → Line → Type 0
Say words Silent = IfSome (slice_get words 0) (λ word. take 1 word ≡ codes "#")
Say words (Edition_line edition) = Spell words (codes "edition") (number_of edition ∷ [])
Say words (Site row) = Spell words (codes "site") (row.0 ∷ row.1)
Say words (Command_line (Act process (Ask asker targets))) =
    Spell words (codes "ask") (asker ∷ targets) × (targets ≢ []) × (process ≡ asker)
Say words (Command_line (Act process (Reply holder asker))) =
    Spell words (codes "reply") (holder ∷ asker ∷ []) × (process ≡ holder)
Say words (Command_line (Act process (Start of))) = Spell words (codes "start") (of ∷ []) × (process ≡ of)
Say words (Command_line (Deliver from to)) = Spell words (codes "deliver") (from ∷ to ∷ [])
Say words (Command_line (Cut from to)) = Spell words (codes "cut") (from ∷ to ∷ [])
Say words (Command_line Report) = Spell words (codes "report") []
Say words line = ⊥

-- a line is bad where its words say no other
abbrev pub Says : List ℕ → Line → Type 0
Says bytes Bad = (line : Line) → Say (words_of bytes) line → ⊥
Says bytes line = Say (words_of bytes) line

-- What a line of a script of edition 3 says: a name, and numbers after it.
use Rattle.std.specs.Prelude.{◌≡◌, ◌≢◌, ℕ, List, [], ◌∷◌, codes, take, slice_get, IfSome}
use Rattle.cmh_model3.specs.declared.event.Event.TheVariants.{Ask, Reply, Withdraw}
use Rattle.cmh_console.specs.Script.{Spell}
use Rattle.cmh_console.specs.Words.{words_of}
use Rattle.cmh_script3.specs.declared.script.Command.TheVariants.{Act, WithdrawAll, Deliver, Cut, Report}
use Rattle.cmh_script3.specs.declared.script.Line.{Line}
use Rattle.cmh_script3.specs.declared.script.Line.TheVariants.{Silent, Bad, Edition, Site, Command as Command_line}

-- An ask that names somebody is an `ask`, and one that names nobody a `start`.
abbrev pub SayAsk : List (List ℕ) → ℕ → List ℕ → Type 0
SayAsk words asker [] = Spell words (codes "start") (asker ∷ [])
SayAsk words asker (k ∷ ks) = Spell words (codes "ask") (asker ∷ k ∷ ks)

-- the words say this line; those of a comment, and no words at all, say nothing
abbrev pub Say : List (List ℕ) → Line → Type 0
Say words Silent = IfSome (slice_get words 0) (λ word. take 1 word ≡ codes "#")
Say words Edition = Spell words (codes "edition") (3 ∷ [])
Say words (Site row) = Spell words (codes "site") (row.0 ∷ row.1)
Say words (Command_line (Act process (Ask asker targets))) = SayAsk words asker targets × (process ≡ asker)
Say words (Command_line (Act process (Reply holder asker))) =
    Spell words (codes "reply") (holder ∷ asker ∷ []) × (process ≡ holder)
Say words (Command_line (Act process (Withdraw asker targets))) =
    Spell words (codes "withdraw") (asker ∷ targets) × (targets ≢ []) × (process ≡ asker)
Say words (Command_line (WithdrawAll process)) = Spell words (codes "withdraw") (process ∷ [])
Say words (Command_line (Deliver from to)) = Spell words (codes "deliver") (from ∷ to ∷ [])
Say words (Command_line (Cut from to)) = Spell words (codes "cut") (from ∷ to ∷ [])
Say words (Command_line Report) = Spell words (codes "report") []
Say words line = ⊥

-- a line is bad where its words say no other
abbrev pub Says : List ℕ → Line → Type 0
Says bytes Bad = (line : Line) → Say (words_of bytes) line → ⊥
Says bytes line = Say (words_of bytes) line

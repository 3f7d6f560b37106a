-- What a line of a client says to a running site, and means to it: what a line of a script of edition 3 says of events,
-- and what such a site is asked.
use Rattle.std.specs.Prelude.{◌≡◌, ◌⊎◌, ℕ, nat_lt, Bool, List, [], ◌∷◌, length, codes, Option, None, Some, if◌then◌else◌}
use Rattle.std.specs.Io.BufRead.{first_line}
use Rattle.cmh_client.specs.Http.{speaks_http}
use Rattle.cmh_client.specs.declared.language.Meaning.{Meaning}
use Rattle.cmh_client.specs.declared.language.Meaning.TheVariants as meanings
use Rattle.cmh_console.specs.Dialogue as dialogue
use Rattle.cmh_console.specs.Front.{Begins}
use Rattle.cmh_console.specs.Words.{words_of}
use Rattle.cmh_console.specs.declared.lines.NextLine.{NextLine}
use Rattle.cmh_script3.specs.Script.{Says}
use Rattle.cmh_script3.specs.declared.script.Command.{Command}
use Rattle.cmh_script3.specs.declared.script.Command.TheVariants.{Act, WithdrawAll as WithdrawsAll}
use Rattle.cmh_script3.specs.declared.script.Line.{Line}
use Rattle.cmh_script3.specs.declared.script.Line.TheVariants as lines
use Rattle.cmh_talk3.specs.declared.deed.Deed.{Deed as TheDeed}
use Rattle.cmh_talk3.specs.declared.deed.Deed.TheVariants.{Event, WithdrawAll}
use Rattle.cmh_talk3.specs.declared.deed.Question.{Question as TheQuestion}
use Rattle.cmh_talk3.specs.declared.deed.Question.TheVariants as asks
use Rattle.cmh_talk3.specs.declared.said.Said.{Said}
use Rattle.cmh_talk3.specs.declared.said.Said.TheVariants.{Silent, Deed, Question, Quit}
use Rattle.cmh_talk3.specs.declared.said.Word.{Word}
use Rattle.cmh_talk3.specs.declared.said.Word.TheVariants as word

-- ---- what no script says

-- a line of one word
abbrev pub word_of : Word → List ℕ
word_of word.Declared = codes "declared"
word_of word.Links = codes "links"
word_of word.Status = codes "status"
word_of word.Watch = codes "watch"
word_of word.Turn = codes "turn"
word_of word.Quit = codes "quit"

abbrev pub said_by_word : Word → Said
said_by_word word.Declared = Question asks.Declared
said_by_word word.Links = Question asks.Links
said_by_word word.Status = Question asks.Status
said_by_word word.Watch = Question asks.Watch
said_by_word word.Turn = Question asks.Turn
said_by_word word.Quit = Quit

-- this word, and behind it this number and nothing else
pub record NamesNumber (name : List ℕ) (words : List (List ℕ)) (number : ℕ) : Type 0 where
  pub behind : List (List ℕ)
  pub words_are : words ≡ name ∷ behind
  pub begins : Begins behind number []

abbrev pub AsksSomething : List (List ℕ) → Said → Type 0
AsksSomething words (Question asks.Declared) = words ≡ codes "declared" ∷ []
AsksSomething words (Question asks.Links) = words ≡ codes "links" ∷ []
AsksSomething words (Question asks.Status) = words ≡ codes "status" ∷ []
AsksSomething words (Question asks.Watch) = words ≡ codes "watch" ∷ []
AsksSomething words (Question asks.Turn) = words ≡ codes "turn" ∷ []
AsksSomething words Quit = words ≡ codes "quit" ∷ []
AsksSomething words (Question (asks.Waits process)) = NamesNumber (codes "waits") words process
AsksSomething words (Question (asks.Owed process)) = NamesNumber (codes "owed") words process
AsksSomething words (Question (asks.Leaving process)) = NamesNumber (codes "leaving") words process
AsksSomething words (Question (asks.Tail count)) = NamesNumber (codes "tail") words count
AsksSomething words said = ⊥

abbrev pub AsksNothing : List (List ℕ) → Type 0
AsksNothing words = (said : Said) → AsksSomething words said → ⊥

-- ---- what a line says

-- of a script's lines a site knows events and silence; each other one is bad
abbrev pub said_by_command : Command → Said
said_by_command (Act process event) = Deed (Event event)
said_by_command (WithdrawsAll process) = Deed (WithdrawAll process)
said_by_command command = Question asks.Bad

abbrev pub said_as : Line → Said
said_as lines.Silent = Silent
said_as (lines.Command command) = said_by_command command
said_as line = Question asks.Bad

pub record SaysAsScript (bytes : List ℕ) (said : Said) : Type 0 where
  pub line : Line
  pub nothing_asked : AsksNothing (words_of bytes)
  pub says : Says bytes line
  pub is : said ≡ said_as line

abbrev pub SaysToSite : List ℕ → Said → Type 0
SaysToSite bytes said = AsksSomething (words_of bytes) said ⊎ SaysAsScript bytes said

-- a line that is too long is a bad one
abbrev pub WasSaid : Option (List ℕ) → Said → Type 0
WasSaid None said = said ≡ Question asks.Bad
WasSaid (Some line) said = SaysToSite line said

-- what was read, unless it was too long
abbrev pub line_of : NextLine → Option (List ℕ)
line_of next = dialogue.line_of next

-- the first line of the bytes, unless it has more than 4,096 of them
abbrev pub line_in : List ℕ → Option (List ℕ)
line_in bytes = if nat_lt 4096 (length (first_line bytes)) then None else Some (first_line bytes)

-- ---- what a line means

-- What is said is a deed, silence, the last or a question. A bad line is a question, which is answered as one, unless it
-- begins as one of HTTP does: that is the last.
abbrev pub meaning_of : Bool → Said → Meaning TheDeed TheQuestion
meaning_of is_http Silent = meanings.Silence
meaning_of is_http (Deed deed) = meanings.Event deed
meaning_of is_http (Question asks.Bad) = if is_http then meanings.Last else meanings.Question asks.Bad
meaning_of is_http (Question question) = meanings.Question question
meaning_of is_http Quit = meanings.Last

pub record MeansHere (line : List ℕ) (meaning : Meaning TheDeed TheQuestion) : Type 0 where
  pub said : Said
  pub says : WasSaid (line_in line) said
  pub is : meaning ≡ meaning_of (speaks_http line) said

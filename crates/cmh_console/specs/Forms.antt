-- The forms by which lines are read: a first word names one, and the words after it spell its numbers.
use Rattle.std.specs.Prelude.{◌≡◌, ◌≢◌, ℕ, ◌==◌, Bool, true, false, List, [], ◌∷◌, codes, ⊤, Option, None, Some}
use Rattle.std.specs.List.{AllZip}
use Rattle.cmh_frames.specs.Edition.{number_of}
use Rattle.cmh_frames.specs.declared.event.Event.TheVariants.{Ask, Reply, Start}
use Rattle.cmh_console.specs.Words.{IsNumeral, decimal}
use Rattle.cmh_console.specs.declared.script.Command.TheVariants.{Act, Deliver, Cut, Report}
use Rattle.cmh_console.specs.declared.script.Form.{Form}
use Rattle.cmh_console.specs.declared.script.Form.TheVariants.{Edition as EditionForm, Site as SiteForm, Ask as AskForm, Reply as ReplyForm, Start as StartForm, Deliver as DeliverForm, Cut as CutForm, Report as ReportForm}
use Rattle.cmh_console.specs.declared.script.Line.{Line}
use Rattle.cmh_console.specs.declared.script.Line.TheVariants.{Edition as Edition_line, Site, Command as Command_line}

-- each word spells the number at its place
abbrev pub SpellNumbers : List (List ℕ) → List ℕ → Type 0
SpellNumbers words numbers = AllZip (λ w n. IsNumeral w × (decimal w ≡ n)) words numbers

-- the words spell the numbers of this
pub record SpellsOne {X : Type 0} (IsOf : List ℕ → X → Type 0) (words : List (List ℕ)) (x : X) : Type 0 where
  pub numbers : List ℕ
  pub spell : SpellNumbers words numbers
  pub is_of : IsOf numbers x

-- what is read of words up to their end: that of which they spell the numbers, or nothing where there is none such
abbrev pub ReadsAll : {X : Type 0} → (List ℕ → X → Type 0) → List (List ℕ) → Option X → Type 0
ReadsAll {X} IsOf words None = (x : X) → SpellsOne IsOf words x → ⊥
ReadsAll IsOf words (Some x) = SpellsOne IsOf words x

-- ---- each form, by its name

abbrev pub name_of : Form → List ℕ
name_of EditionForm = codes "edition"
name_of SiteForm = codes "site"
name_of AskForm = codes "ask"
name_of ReplyForm = codes "reply"
name_of StartForm = codes "start"
name_of DeliverForm = codes "deliver"
name_of CutForm = codes "cut"
name_of ReportForm = codes "report"

-- a line of the form with these numbers
abbrev pub Fits : Form → List ℕ → Line → Type 0
Fits EditionForm numbers (Edition_line edition) = numbers ≡ number_of edition ∷ []
Fits SiteForm numbers (Site row) = numbers ≡ row.0 ∷ row.1
Fits AskForm numbers (Command_line (Act process (Ask asker targets))) =
    (numbers ≡ asker ∷ targets) × (targets ≢ []) × (process ≡ asker)
Fits ReplyForm numbers (Command_line (Act process (Reply holder asker))) =
    (numbers ≡ holder ∷ asker ∷ []) × (process ≡ holder)
Fits StartForm numbers (Command_line (Act process (Start of))) = (numbers ≡ of ∷ []) × (process ≡ of)
Fits DeliverForm numbers (Command_line (Deliver from to)) = numbers ≡ from ∷ to ∷ []
Fits CutForm numbers (Command_line (Cut from to)) = numbers ≡ from ∷ to ∷ []
Fits ReportForm numbers (Command_line Report) = numbers ≡ []
Fits form numbers line = ⊥

-- the form that the first word names, and the words after it, or none where it names none
abbrev pub IsFormOf : List (List ℕ) → Option (Form × List (List ℕ)) → Type 0
IsFormOf words None = (form : Form) (behind : List (List ℕ)) → words ≡ name_of form ∷ behind → ⊥
IsFormOf words (Some front) = words ≡ name_of front.0 ∷ front.1

-- ---- lines without a form

-- a word that begins with '#'
abbrev pub is_comment : List ℕ → Bool
is_comment [] = false
is_comment (byte ∷ bytes) = byte == 35

-- no words, or a comment
abbrev pub AreSilent : List (List ℕ) → Type 0
AreSilent [] = ⊤
AreSilent (word ∷ words) = is_comment word ≡ true

-- the words are the name of a form, and spell numbers with which the line fits it
pub record AreOf (words : List (List ℕ)) (line : Line) : Type 0 where
  pub form : Form
  pub behind : List (List ℕ)
  pub numbers : List ℕ
  pub words_are : words ≡ name_of form ∷ behind
  pub spell : SpellNumbers behind numbers
  pub fits : Fits form numbers line

-- The forms by which lines of edition 3 are read: a first word names one, and the words after it spell its numbers.
use Rattle.std.specs.Prelude.{◌≡◌, ◌≢◌, ℕ, List, [], ◌∷◌, codes, Option, None, Some}
use Rattle.cmh_model3.specs.declared.event.Event.TheVariants.{Ask, Reply, Withdraw}
use Rattle.cmh_console.specs.Forms.{SpellNumbers}
use Rattle.cmh_script3.specs.declared.script.Command.TheVariants.{Act, WithdrawAll, Deliver, Cut, Report}
use Rattle.cmh_script3.specs.declared.script.Form.{Form}
use Rattle.cmh_script3.specs.declared.script.Form.TheVariants.{Edition as EditionForm, Site as SiteForm, Ask as AskForm, Reply as ReplyForm, Start as StartForm, Withdraw as WithdrawForm, Deliver as DeliverForm, Cut as CutForm, Report as ReportForm}
use Rattle.cmh_script3.specs.declared.script.Line.{Line}
use Rattle.cmh_script3.specs.declared.script.Line.TheVariants.{Edition as Edition_line, Site, Command as Command_line}

-- ---- each form, by its name

abbrev pub name_of : Form → List ℕ
name_of EditionForm = codes "edition"
name_of SiteForm = codes "site"
name_of AskForm = codes "ask"
name_of ReplyForm = codes "reply"
name_of StartForm = codes "start"
name_of WithdrawForm = codes "withdraw"
name_of DeliverForm = codes "deliver"
name_of CutForm = codes "cut"
name_of ReportForm = codes "report"

-- a line of the form with these numbers
abbrev pub Fits : Form → List ℕ → Line → Type 0
Fits EditionForm numbers Edition_line = numbers ≡ 3 ∷ []
Fits SiteForm numbers (Site row) = numbers ≡ row.0 ∷ row.1
Fits AskForm numbers (Command_line (Act process (Ask asker targets))) =
    (numbers ≡ asker ∷ targets) × (targets ≢ []) × (process ≡ asker)
Fits ReplyForm numbers (Command_line (Act process (Reply holder asker))) =
    (numbers ≡ holder ∷ asker ∷ []) × (process ≡ holder)
Fits StartForm numbers (Command_line (Act process (Ask asker targets))) =
    (numbers ≡ asker ∷ []) × (targets ≡ []) × (process ≡ asker)
Fits WithdrawForm numbers (Command_line (Act process (Withdraw asker targets))) =
    (numbers ≡ asker ∷ targets) × (targets ≢ []) × (process ≡ asker)
Fits WithdrawForm numbers (Command_line (WithdrawAll process)) = numbers ≡ process ∷ []
Fits DeliverForm numbers (Command_line (Deliver from to)) = numbers ≡ from ∷ to ∷ []
Fits CutForm numbers (Command_line (Cut from to)) = numbers ≡ from ∷ to ∷ []
Fits ReportForm numbers (Command_line Report) = numbers ≡ []
Fits form numbers line = ⊥

-- the form that the first word names, and the words after it, or none where it names none
abbrev pub IsFormOf : List (List ℕ) → Option (Form × List (List ℕ)) → Type 0
IsFormOf words None = (form : Form) (behind : List (List ℕ)) → words ≡ name_of form ∷ behind → ⊥
IsFormOf words (Some front) = words ≡ name_of front.0 ∷ front.1

-- the words are the name of a form, and spell numbers with which the line fits it
pub record AreOf (words : List (List ℕ)) (line : Line) : Type 0 where
  pub form : Form
  pub behind : List (List ℕ)
  pub numbers : List ℕ
  pub words_are : words ≡ name_of form ∷ behind
  pub spell : SpellNumbers behind numbers
  pub fits : Fits form numbers line

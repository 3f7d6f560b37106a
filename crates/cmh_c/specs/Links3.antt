-- What functions of edition 3 tell of the links of a journal's site.
use Rattle.std.specs.Prelude.{◌≡◌, ◌⊎◌, ℕ, List}
use Rattle.cmh_runs.specs.Number.{IsNumber}
use Rattle.cmh_segment3.specs.declared.entry.Entry.{Entry}
use Rattle.cmh_seat3.specs.Journals.{IsUnread}
use Rattle.cmh_seat3.specs.Links.{AreReceipts, AreSentPast, IsNotSentPast}
use Rattle.cmh_seat3.specs.declared.links.Receipts.{Receipts}
use Rattle.cmh_c.specs.Codes.{Answers}
use Rattle.cmh_c.specs.Codes3.{code_of_restart}

abbrev pub receipts_of : ℕ → ℕ → Receipts
receipts_of count mark = record { count = count; mark = mark }

-- the entries got so many messages of the site, with this mark
abbrev pub AreGot : ℕ → ℕ → ℕ → List Entry → Type 0
AreGot from count mark entries = AreReceipts from (receipts_of count mark) entries

-- the first messages that the entries send to the site are so many, with this mark, and the bytes are those of the others
abbrev pub AreSent : ℕ → ℕ → ℕ → List ℕ → List Entry → Type 0
AreSent to count mark bytes entries = AreSentPast to (receipts_of count mark) bytes entries

-- why nothing is told: the number is not that of a site, or the journal is at fault
abbrev pub IsNotGot : ℕ → List ℕ → ℕ → Type 0
IsNotGot code journal from = ((code ≡ 28) × ¬ IsNumber from) ⊎ Answers (IsUnread journal) code_of_restart code

abbrev pub IsNotSent : ℕ → List ℕ → ℕ → ℕ → ℕ → Type 0
IsNotSent code journal to count mark =
    ((code ≡ 28) × ¬ IsNumber to) ⊎ Answers (IsNotSentPast journal to (receipts_of count mark)) code_of_restart code

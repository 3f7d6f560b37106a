-- Runs of a world: lists of the entries of all sites, in an order in which they can have been made. The words are those of
-- every model, here with these rules.
use Rattle.std.specs.Prelude.{◌≡◌, ℕ, true, List}
use Rattle.cmh_runs.specs.Runs as runs
use Rattle.cmh_model3.specs.declared.frame.Message.{Message}
use Rattle.cmh_model3.specs.Entries.{WorldEvent}
use Rattle.cmh_model3.specs.State.{State}
use Rattle.cmh_model3.specs.Journals.{message_from, rules_of}
pub use Rattle.cmh_runs.specs.Runs.{IsBeginningOf, entries_of, sendings}

-- the state of a site at the end of the list
abbrev pub state_of : (ℕ → ℕ) → ℕ → List WorldEvent → State
state_of home = runs.state_of (rules_of home)

-- on the link from a to b: the messages that b got, in the list's order
abbrev pub receipts : ℕ → ℕ → List WorldEvent → List Message
receipts = runs.receipts message_from

-- the messages of a link that were sent and have not come
abbrev pub under_way : ℕ → ℕ → List WorldEvent → List Message
under_way = runs.under_way message_from

-- Each site's entries are lawful, and at every moment what came on a link is a beginning of what was sent on it.
abbrev pub IsRun : (ℕ → ℕ) → List WorldEvent → Type 0
IsRun home = runs.IsRun message_from (rules_of home)

-- every message that was sent has come
abbrev pub IsDrained : List WorldEvent → Type 0
IsDrained = runs.IsDrained message_from

-- a process is in declared at its site at the end
abbrev pub IsDeclared : (ℕ → ℕ) → List WorldEvent → ℕ → Type 0
IsDeclared home events k = (state_of home (home k) events).declared k ≡ true

-- the stamp of the newest ask of a process, at the end
abbrev pub newest_stamp : (ℕ → ℕ) → List WorldEvent → ℕ → ℕ
newest_stamp home events i = (state_of home (home i) events).stamp i

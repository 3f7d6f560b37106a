-- Runs of a world: lists of the entries of all sites, in an order in which they can have been made. The words are those of
-- every model, here with these rules.
use Rattle.std.specs.Prelude.{ℕ, List}
use Rattle.cmh_runs.specs.Runs as runs
use Rattle.cmh_frames.specs.declared.frame.Frame.{Frame}
use Rattle.cmh_frames.specs.Topology.{Topology}
use Rattle.cmh_frames.specs.Entries.{Entry, WorldEvent}
use Rattle.cmh_frames.specs.State.{State}
use Rattle.cmh_frames.specs.Journals.{frame_from, rules_of}
pub use Rattle.cmh_runs.specs.Runs.{IsBeginningOf, entries_of, sendings, ComesFrom}

-- the state of a site at the end of the list
abbrev pub state_of : Topology → ℕ → List WorldEvent → State
state_of t = runs.state_of (rules_of t)

-- on the link from a to b: the frames that b got, in the list's order
abbrev pub receipts : ℕ → ℕ → List WorldEvent → List Frame
receipts = runs.receipts frame_from

-- the frames of a link that were sent and have not come, those that were lost among them
abbrev pub under_way : ℕ → ℕ → List WorldEvent → List Frame
under_way = runs.under_way frame_from

-- Each site's entries are lawful, and at every moment what came on a link is a beginning of what was sent on it.
abbrev pub IsRun : Topology → List WorldEvent → Type 0
IsRun t = runs.IsRun frame_from (rules_of t)

-- The journals, given by site number and so one for each site, come from a run.
abbrev pub ComeFromRun : Topology → (ℕ → List Entry) → Type 0
ComeFromRun t = runs.ComeFromRun frame_from (rules_of t)

-- every frame that was sent has come
abbrev pub IsDrained : List WorldEvent → Type 0
IsDrained = runs.IsDrained frame_from

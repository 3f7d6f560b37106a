-- Runs that begin in any world.
use Rattle.std.specs.Prelude.{◌≡◌, ℕ, List, [], ◌++◌}
use Rattle.cmh_runs.specs.declared.entry.WorldEvent.{WorldEvent}
use Rattle.cmh_runs.specs.Rules.{Rules}
use Rattle.cmh_runs.specs.Journals.{LawfulFrom, state_after}
use Rattle.cmh_runs.specs.Runs.{IsBeginningOf, entries_of, receipts, sendings}

-- the states of all sites, and what is under way between them
pub record World (State Frame : Type 0) : Type 0 where
  pub state : ℕ → State
  -- on the link from a to b: the frames that were sent and have not come
  pub under_way : ℕ → ℕ → List Frame

-- nothing has happened yet
abbrev pub first_world : {State Event Frame : Type 0} → (ℕ → Rules State Event Frame) → World State Frame
first_world rules = record { state = λ s. (rules s).first; under_way = λ a b. [] }

module _ {State Event Frame : Type 0} (got : ℕ → Event → List Frame) (rules : ℕ → Rules State Event Frame) where
  -- Each site's entries are lawful from its state in the world; and at every moment what came on a link is a beginning of
  -- what was under way and what was sent since.
  pub record IsRunFrom (world : World State Frame) (events : List (WorldEvent Event Frame)) : Type 0 where
    pub lawful : (s : ℕ) → LawfulFrom (rules s) (world.state s) (entries_of s events)
    pub in_order : (so_far : List (WorldEvent Event Frame)) → IsBeginningOf so_far events
        → (a b : ℕ) → IsBeginningOf (receipts got a b so_far) (world.under_way a b ++ sendings a b so_far)

  -- from one world the events lead to the next
  pub record LeadsTo (world : World State Frame) (events : List (WorldEvent Event Frame)) (next : World State Frame) : Type 0 where
    pub states : (s : ℕ) → next.state s ≡ state_after (rules s) (world.state s) (entries_of s events)
    pub under_way : (a b : ℕ) → receipts got a b events ++ next.under_way a b ≡ world.under_way a b ++ sendings a b events

-- What a controller keeps of the processes of its site.
use Rattle.std.specs.Prelude.{ℕ, Bool}
use Rattle.std.specs.FinSet as set
use Rattle.cmh_frames.specs.Relation.{Relation, Numbers, has_some}

pub record State : Type 0 where
  pub waits : Relation  -- a process with each that it waits for
  pub owed : Relation  -- a process with each whose request it has not answered
  pub dependents : Relation  -- a process with each that is known to depend on it
  pub declared : Numbers  -- the processes declared deadlocked here

-- the state in which every controller begins
abbrev pub empty_state : State
empty_state = record { waits = set.empty; owed = set.empty; dependents = set.empty; declared = set.empty }

-- a process is blocked where it waits for some process, and else active
abbrev pub is_blocked : State → ℕ → Bool
is_blocked v p = has_some v.waits p

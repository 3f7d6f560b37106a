-- What a site holds of the waits of its processes.
use Rattle.std.specs.Prelude.{◌≡◌, ℕ, ◌==◌, if◌then◌else◌, List, [], ◌∷◌, replicate, length, Bool}
use Rattle.cmh_model3.specs.Lists.{in_list}
use Rattle.cmh_model3.specs.State.{State, empty_state}
use Rattle.cmh_waits3.specs.declared.wait.Wait.{Wait}
use Rattle.cmh_waits3.specs.Rows.{targets_of, since_in, others_than}

-- the processes of the site, ascending, and in the same order the waits of each
pub record Held : Type 0 where
  pub members : List ℕ
  pub rows : List (List Wait)

-- nobody waits
abbrev pub nothing_held : List ℕ → Held
nothing_held members = record { members = members; rows = replicate (length members) [] }

-- whether the process is at the site
abbrev pub is_member : Held → ℕ → Bool
is_member v p = in_list v.members p

-- ---- the waits of a process; none where it isn't at the site

abbrev pub row_in : List ℕ → List (List Wait) → ℕ → List Wait
row_in [] rows p = []
row_in (m ∷ ms) [] p = []
row_in (m ∷ ms) (row ∷ rows) p = if m == p then row else row_in ms rows p

-- for whom it waits, ascending
abbrev pub waits_of : Held → ℕ → List ℕ
waits_of v p = targets_of (row_in v.members v.rows p)

-- the stamp of a wait, and 0 where there is none
abbrev pub since_of : Held → ℕ → ℕ → ℕ
since_of v p k = since_in (row_in v.members v.rows p) k

-- a state with these waits, and with nothing else
abbrev pub state_of : Held → State
state_of v = record empty_state { waits = waits_of v; since = since_of v }

-- ---- after the waits of a process for these have ended

abbrev pub rows_without : List ℕ → List (List Wait) → ℕ → List ℕ → List (List Wait)
rows_without [] rows p ks = rows
rows_without (m ∷ ms) [] p ks = []
rows_without (m ∷ ms) (row ∷ rows) p ks =
    if m == p then others_than ks row ∷ rows else row ∷ rows_without ms rows p ks

abbrev pub ended : Held → ℕ → List ℕ → Held
ended v p ks = record v { rows = rows_without v.members v.rows p ks }

-- ---- as part of a state

-- The state v of site s has these waits, and its processes are the members.
pub record AreWaitsOf (home : ℕ → ℕ) (s : ℕ) (v : State) (held : Held) : Type 0 where
  pub members : (p : ℕ) → (home p == s) ≡ is_member held p
  pub waits : v.waits ≡ waits_of held
  pub since : v.since ≡ since_of held

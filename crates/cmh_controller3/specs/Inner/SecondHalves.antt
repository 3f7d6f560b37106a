-- What the second half of a step changes, and how that is put back.
use Rattle.std.specs.Prelude.{◌≡◌, ℕ, true, List, Option, None, Some, MatchOption}
use Rattle.cmh_model3.specs.declared.event.Event.{Event}
use Rattle.cmh_model3.specs.declared.event.Event.TheVariants.{Ask, Reply, Withdraw, Got, Turn}
use Rattle.cmh_model3.specs.declared.frame.Frame.TheVariants.{Request, Reply as Reply_frame, Withdraw as Withdraw_frame, Probe}
use Rattle.cmh_model3.specs.Lists.{in_list, is_nonempty, without_all}
use Rattle.cmh_model3.specs.Rules.{after, targets_away}
use Rattle.cmh_model3.specs.State.{State}
use Rattle.cmh_waits3.specs.Held.{row_in, waits_of}
use Rattle.cmh_waits3.specs.declared.wait.Wait.{Wait}
use Rattle.cmh_controller3.specs.Controller.{Controller, home_of, state_of}
use Rattle.cmh_controller3.specs.Steps.{CanTake}
use Rattle.cmh_controller3.specs.Tables.{flags_of, marks_of, pairs_of, stamp_in}
use Rattle.cmh_controller3.specs.WaysBack.{FitsRows, rows_back}
use Rattle.cmh_controller3.specs.declared.rows.Forgotten.{Forgotten}
use Rattle.cmh_controller3.specs.declared.rows.Rows.{Rows}

-- where the second half leads
abbrev pub ended_state : (ℕ → ℕ) → ℕ → State → Event → State
ended_state home s m (Ask j ks) = m
ended_state home s m (Reply k j) = after home s m (Reply k j) None
ended_state home s m (Withdraw j ks) = after home s m (Withdraw j ks) None
ended_state home s m (Turn n) = after home s m (Turn n) None
ended_state home s m (Got a n (Request j k)) = m
ended_state home s m (Got a n (Reply_frame k j)) = after home s m (Got a n (Reply_frame k j)) None
ended_state home s m (Got a n (Withdraw_frame j k)) = after home s m (Got a n (Withdraw_frame j k)) None
ended_state home s m (Got a n (Probe i m' j k)) = m

-- what it requires
abbrev pub CanEnd : Controller → Event → Type 0
CanEnd c (Ask j ks) = Unit {0}
CanEnd c (Reply k j) = CanTake c (Reply k j)
CanEnd c (Withdraw j ks) =
    CanTake c (Withdraw j ks)
    × ((k : ℕ) → targets_away (home_of c) c.site j ks j k ≡ true → (state_of c).leaving j k ≡ true)
CanEnd c (Turn n) = Unit {0}
CanEnd c (Got a n (Request j k)) = Unit {0}
CanEnd c (Got a n (Reply_frame k j)) = CanTake c (Got a n (Reply_frame k j))
CanEnd c (Got a n (Withdraw_frame j k)) = CanTake c (Got a n (Withdraw_frame j k))
CanEnd c (Got a n (Probe i m j k)) = Unit {0}

-- with these rows the controller comes back from there
pub record PutsBack (c : Controller) (event : Event) (rows : Rows) : Type 0 where
  pub fits : FitsRows (home_of c) c.site rows
  pub back : rows_back (home_of c) c.site rows (ended_state (home_of c) c.site (state_of c) event) ≡ state_of c

-- ---- copies of what the controller keeps of a process

-- its waits, and what it forgets where none is left without those for these
pub record HoldsWaits (c : Controller) (j : ℕ) (ks : List ℕ) (rows : Rows) : Type 0 where
  pub row : List Wait
  pub forgotten : Option Forgotten
  pub are : rows ≡ record {
    process = j;
    clock = c.kept.clock;
    waits = Some row;
    forgotten = forgotten;
    leaving = None;
    owed = None;
  }
  pub fits : FitsRows (home_of c) c.site rows
  pub waits : row ≡ row_in c.kept.waits.members c.kept.waits.rows j
  pub forgets : MatchOption forgotten (is_nonempty (without_all (waits_of c.kept.waits j) ks) ≡ true)
      (λ f. ((i : ℕ) → stamp_in f.marks i ≡ marks_of c.kept.marks j i) × (f.declared ≡ flags_of c.kept.declared j))

-- whom it is leaving
pub record HoldsLeaving (c : Controller) (j : ℕ) (rows : Rows) : Type 0 where
  pub row : List ℕ
  pub are : rows ≡ record {
    process = j;
    clock = c.kept.clock;
    waits = None;
    forgotten = None;
    leaving = Some row;
    owed = None;
  }
  pub fits : FitsRows (home_of c) c.site rows
  pub pairs : (k : ℕ) → in_list row k ≡ pairs_of c.kept.leaving j k

-- whom of other sites it owes a reply
pub record HoldsOwed (c : Controller) (k : ℕ) (rows : Rows) : Type 0 where
  pub row : List ℕ
  pub are : rows ≡ record {
    process = k;
    clock = c.kept.clock;
    waits = None;
    forgotten = None;
    leaving = None;
    owed = Some row;
  }
  pub fits : FitsRows (home_of c) c.site rows
  pub pairs : (j : ℕ) → in_list row j ≡ pairs_of c.kept.owed k j

-- nothing but the clock
pub record HoldsClock (c : Controller) (rows : Rows) : Type 0 where
  pub process : ℕ
  pub are : rows ≡ record {
    process = process;
    clock = c.kept.clock;
    waits = None;
    forgotten = None;
    leaving = None;
    owed = None;
  }

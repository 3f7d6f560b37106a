-- The way back from a step that was carried out.
use Rattle.std.specs.Prelude.{◌≡◌, ◌≢◌, ℕ, ◌==◌, ◌&&◌, Bool, true, if◌then◌else◌, List, Option, None, Some, IfSome}
use Rattle.cmh_model3.specs.declared.event.Event.{Event}
use Rattle.cmh_model3.specs.declared.frame.Message.{Message}
use Rattle.cmh_model3.specs.Laws.{JournalFacts}
use Rattle.cmh_model3.specs.Lists.{in_list, set_at}
use Rattle.cmh_model3.specs.Rules.{Sends, after}
use Rattle.cmh_model3.specs.State.{State}
use Rattle.cmh_waits3.specs.Rows.{since_in, targets_of}
use Rattle.cmh_waits3.specs.declared.wait.Wait.{Wait}
use Rattle.cmh_controller3.specs.Controller.{Controller, home_of, state_of}
use Rattle.cmh_controller3.specs.Steps.{CanTake, Remembers, prepared_state, process_in}
use Rattle.cmh_controller3.specs.Tables.{stamp_in}
use Rattle.cmh_controller3.specs.declared.rows.Forgotten.{Forgotten}
use Rattle.cmh_controller3.specs.declared.rows.Rows.{Rows}
use Rattle.cmh_controller3.specs.declared.way_back.WayBack.{WayBack}

-- ---- a state in which the rows of a process are put back

abbrev pub waits_back : (ℕ → List ℕ) → ℕ → Option (List Wait) → ℕ → List ℕ
waits_back f p None = f
waits_back f p (Some row) = set_at f p (targets_of row)

abbrev pub since_back : (ℕ → ℕ → ℕ) → ℕ → Option (List Wait) → ℕ → ℕ → ℕ
since_back f p None = f
since_back f p (Some row) = set_at f p (since_in row)

abbrev pub pairs_back : (ℕ → ℕ → Bool) → ℕ → Option (List ℕ) → ℕ → ℕ → Bool
pairs_back f p None = f
pairs_back f p (Some row) = set_at f p (in_list row)

abbrev pub marks_back : (ℕ → ℕ → ℕ) → ℕ → Option Forgotten → ℕ → ℕ → ℕ
marks_back f p None = f
marks_back f p (Some forgotten) = set_at f p (stamp_in forgotten.marks)

abbrev pub flags_back : (ℕ → Bool) → ℕ → Option Forgotten → ℕ → Bool
flags_back f p None = f
flags_back f p (Some forgotten) = set_at f p forgotten.declared

-- between two processes of the site a wait is what is owed
abbrev pub owed_back : (ℕ → ℕ) → ℕ → (ℕ → List ℕ) → (ℕ → ℕ → Bool) → ℕ → ℕ → Bool
owed_back home s waits owed k j = if home j == s then (home k == s) && in_list (waits j) k else owed k j

abbrev pub rows_back : (ℕ → ℕ) → ℕ → Rows → State → State
rows_back home s rows w = record {
  waits = waits_back w.waits rows.process rows.waits;
  since = since_back w.since rows.process rows.waits;
  leaving = pairs_back w.leaving rows.process rows.leaving;
  owed = owed_back home s (waits_back w.waits rows.process rows.waits) (pairs_back w.owed rows.process rows.owed);
  marks = marks_back w.marks rows.process rows.forgotten;
  declared = flags_back w.declared rows.process rows.forgotten;
  clock = rows.clock;
  stamp = w.stamp;
}

-- the rows are of a process of the site, and whom it owes a reply are known processes of other sites
pub record FitsRows (home : ℕ → ℕ) (s : ℕ) (rows : Rows) : Type 0 where
  pub waits : IfSome rows.waits (λ row. home rows.process ≡ s)
  pub forgotten : IfSome rows.forgotten (λ forgotten. home rows.process ≡ s)
  pub leaving : IfSome rows.leaving (λ row. home rows.process ≡ s)
  pub owed : IfSome rows.owed (λ row. (home rows.process ≡ s)
      × ((j : ℕ) → in_list row j ≡ true → (home j ≢ 0) × (home j ≢ s)))

-- ---- from after a step to before it

-- the controller stands where an event has led at which this process was declared
pub record IsAfter (old : Controller) (event : Event) (declared : Option ℕ) (new : Controller) : Type 0 where
  pub topology : new.topology ≡ old.topology
  pub site : new.site ≡ old.site
  pub state : state_of new ≡ after (home_of old) old.site (state_of old) event declared

-- By this a controller goes back from there: first to between the halves, with the rows that the second half changed, and
-- from there with what stood where the first half wrote.
pub record LeadsBack (old : Controller) (event : Event) (declared : Option ℕ) (way : WayBack) : Type 0 where
  pub accepted : CanTake old event
  pub sends : (sent : List (ℕ × Message)) × Sends (home_of old) old.site (state_of old) event sent declared
  pub facts : JournalFacts (home_of old) old.site (state_of old)
  pub between :
      JournalFacts (home_of old) old.site (prepared_state (home_of old) old.site (state_of old) event declared)
  pub fits : FitsRows (home_of old) old.site way.rows
  pub rows : rows_back (home_of old) old.site way.rows (after (home_of old) old.site (state_of old) event declared)
      ≡ prepared_state (home_of old) old.site (state_of old) event declared
  pub before : Remembers (state_of old) event way.before
  pub process : process_in way.declared ≡ declared

-- What a caller sees of a controller, and what it keeps of its site.
use Rattle.std.specs.Prelude.{◌≡◌, ℕ, Bool, ◌&&◌, List, ◌==◌, if◌then◌else◌}
use Rattle.cmh_model3.specs.Lists.{in_list}
use Rattle.cmh_model3.specs.State.{State, empty_state}
use Rattle.cmh_topology3.specs.Topology.{Topology, site_of}
use Rattle.cmh_waits3.specs.Held.{Held, since_of, waits_of}
use Rattle.cmh_controller3.specs.declared.mark_row.Mark.{Mark}
use Rattle.cmh_controller3.specs.Tables.{flags_of, marks_of, pairs_of, stamps_of}

-- What is kept of the processes of a site, as data; `state_of` says what it means. Of those that processes owe a reply
-- only the ones of other sites are in a table: between two processes of the site a wait is what is owed.
pub record Kept : Type 0 where
  pub waits : Held
  pub leaving : List (List ℕ)
  pub owed : List (List ℕ)
  pub marks : List (List Mark)
  pub declared : List Bool
  pub stamps : List ℕ
  pub clock : ℕ

-- the controller of a site
pub record Controller : Type 0 where
  pub topology : Topology
  pub site : ℕ
  pub kept : Kept

abbrev pub owed_of : (ℕ → ℕ) → ℕ → Held → List (List ℕ) → ℕ → ℕ → Bool
owed_of home s waits others k j =
    if home j == s then (home k == s) && in_list (waits_of waits j) k else pairs_of others k j

-- the state of a site that keeps this
abbrev pub state_kept : (ℕ → ℕ) → ℕ → Kept → State
state_kept home s kept = record {
  waits = waits_of kept.waits;
  since = since_of kept.waits;
  leaving = pairs_of kept.leaving;
  owed = owed_of home s kept.waits kept.owed;
  marks = marks_of kept.marks;
  declared = flags_of kept.declared;
  clock = kept.clock;
  stamp = stamps_of kept.stamps;
}

-- of a controller: the home of each process, and 0 of a number that no process has; and the state, by which the rules go
abbrev pub home_of : Controller → ℕ → ℕ
home_of c p = site_of c.topology p

abbrev pub state_of : Controller → State
state_of c = state_kept (home_of c) c.site c.kept

-- a controller of the site that has taken no step
pub record IsNew (t : Topology) (s : ℕ) (c : Controller) : Type 0 where
  pub topology : c.topology ≡ t
  pub site : c.site ≡ s
  pub state : state_of c ≡ empty_state

-- The laws of epochs, of all runs of edition 3.
use Rattle.std.specs.Prelude.{◌≡◌, ℕ, List}
use Rattle.cmh_model3.specs.Entries.{Entry, WorldEvent}
use Rattle.cmh_model3.specs.Journals.{message_from, rules_of}
use Rattle.cmh_model3.specs.Runs.{IsRun}
use Rattle.cmh_model3.specs.State.{State}
use Rattle.cmh_model3.specs.declared.event.Event.{Event}
use Rattle.cmh_model3.specs.declared.frame.Message.{Message}
use Rattle.cmh_runs.specs.Runs.{ComesFrom}
use Rattle.cmh_epochs3.specs.Worlds as worlds
use Rattle.cmh_epochs3.specs.Chains as chains

-- the states of all sites, and the messages under way between them
abbrev pub World : Type 0
World = worlds.World State Message

-- nothing has happened yet
abbrev pub first_world : (ℕ → ℕ) → World
first_world home = worlds.first_world {Event = Event} (rules_of home)

-- the entries are lawful from the world's states, and each message comes after what was under way and sent before it
abbrev pub IsRunFrom : (ℕ → ℕ) → World → List WorldEvent → Type 0
IsRunFrom home = worlds.IsRunFrom message_from (rules_of home)

-- from one world the entries lead to the next
abbrev pub LeadsTo : (ℕ → ℕ) → World → List WorldEvent → World → Type 0
LeadsTo home = worlds.LeadsTo message_from (rules_of home)

-- the entries of an epoch, and the world of the bases that end it
abbrev pub Epoch : Type 0
Epoch = chains.Epoch State Event Message

-- each epoch is a run from the bases that end the one before it, and leads to its own
abbrev pub Chain : (ℕ → ℕ) → World → List Epoch → World → Type 0
Chain home = chains.Chain message_from (rules_of home)

-- a run is just a run from the first world
pub record IsRunFromFirst (home : ℕ → ℕ) (events : List WorldEvent) : Type 0 where
  pub from_first : IsRun home events → IsRunFrom home (first_world home) events
  pub is_run : IsRunFrom home (first_world home) events → IsRun home events

abbrev pub RunsBeginAtFirst : Type 0
RunsBeginAtFirst = (home : ℕ → ℕ) (events : List WorldEvent) → IsRunFromFirst home events

-- a chain of epochs is one run, which leads to the last world
abbrev pub ChainsAreRuns : Type 0
ChainsAreRuns = (home : ℕ → ℕ) (world next : World) (epochs : List Epoch) → Chain home world epochs next
    → IsRunFrom home world (chains.joined epochs) × LeadsTo home world (chains.joined epochs) next

-- so one from the first world is a run, of which all laws of runs hold
abbrev pub ChainsFromFirstAreRuns : Type 0
ChainsFromFirstAreRuns = (home : ℕ → ℕ) (next : World) (epochs : List Epoch) → Chain home (first_world home) epochs next
    → IsRun home (chains.joined epochs)

-- two worlds have the same states and the same messages under way
pub record IsSame (one two : World) : Type 0 where
  pub states : (s : ℕ) → one.state s ≡ two.state s
  pub under_way : (a b : ℕ) → one.under_way a b ≡ two.under_way a b

-- runs with the same journals lead to the same world, in whatever order their entries stand
abbrev pub IsOneWorld : Type 0
IsOneWorld = (home : ℕ → ℕ) (world one two : World) (journals : ℕ → List Entry) (first second : List WorldEvent)
    → ComesFrom journals first → ComesFrom journals second
    → LeadsTo home world first one → LeadsTo home world second two → IsSame one two

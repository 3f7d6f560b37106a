-- A second controller of a site, and the figures of a station.
use Rattle.std.specs.Prelude.{◌≡◌, ◌≤◌, ℕ, Bool, List, [], length, None}
use Rattle.cmh_controller.specs.Controller.{Controller}
use Rattle.cmh_frames.specs.Declarations.{declarations}
use Rattle.cmh_frames.specs.Entries.{Entry}
use Rattle.cmh_frames.specs.Journals.{IsLawful}
use Rattle.cmh_journal.specs.Journal.{entry_limit}
use Rattle.cmh_station.specs.Journaled.{Journaled, controller_of}
use Rattle.cmh_station.specs.declared.follower.Figures.{Figures}

-- a controller with the entries that it made, without links or a sink
abbrev pub following : Controller → List Entry → Bool → Journaled
following controller entries sealed = record {
  topology = controller.topology;
  site = controller.site;
  entries = entries;
  links = [];
  sealed = sealed;
  failures = 0;
  known = None;
  synced = 0;
}

-- it made these entries: so many, of which so many declare a process
pub record IsFollowing (controller : Controller) (entries : List Entry) (count declared : ℕ) : Type 0 where
  pub lawful : IsLawful controller.topology controller.site entries
  pub by : controller ≡ controller_of controller.topology controller.site entries
  pub counted : count ≡ length entries
  pub limited : length entries ≤ entry_limit
  pub fewer : declared ≤ count
  pub listed : declared ≡ length (declarations entries)

-- the figures of a station
pub record AreFiguresOf (station : Journaled) (figures : Figures) : Type 0 where
  pub entries : figures.entries ≡ length station.entries
  pub declared : figures.declared ≡ length (declarations station.entries)
  pub sealed : figures.is_sealed ≡ station.sealed

-- What is kept of a run for a report: its entries without what they sent, and how many messages that was.
use Rattle.std.specs.Prelude.{◌≡◌, ℕ, List, [], map}
use Rattle.cmh_controller3.specs.Controller.{Controller}
use Rattle.cmh_model3.specs.Entries.{WorldEvent}
use Rattle.cmh_model3.specs.Runs.{IsRun}
use Rattle.cmh_topology3.specs.Topology.{Topology, site_of}
use Rattle.cmh_report3.specs.Reports.{StandEach}
use Rattle.cmh_report3.specs.Transit.{kept, sent_in}

-- the entry without what it sent
abbrev pub without_sent : WorldEvent → WorldEvent
without_sent e = record { site = e.site; entry = record { event = e.entry.event; sent = []; declared = e.entry.declared } }

-- The events are those of the run but for what they sent, which is counted, and the controllers stand where they lead.
pub record IsKeptOf (t : Topology) (run : List WorldEvent) (controllers : List Controller) (events : List WorldEvent)
    (sent : ℕ) : Type 0 where
  pub is_run : IsRun (site_of t) run
  pub stand : StandEach t run controllers
  pub events_are : map without_sent events ≡ map without_sent run
  pub sent_is : sent ≡ kept (sent_in run)

-- they are those of some run
abbrev pub IsKeptOfSome : List Controller → List WorldEvent → ℕ → Type 0
IsKeptOfSome controllers events sent = (t : Topology) × (run : List WorldEvent) × IsKeptOf t run controllers events sent

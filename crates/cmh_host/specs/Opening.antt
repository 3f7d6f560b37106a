-- A site that was just started.
use Rattle.std.specs.Prelude.{◌≡◌, ℕ, false, []}
use Rattle.cmh_frames.specs.Topology.{Topology}
use Rattle.cmh_station.specs.Journaled.{Journaled}

-- the station is that of this site, and nothing has happened
pub record IsNewStation (t : Topology) (number : ℕ) (j : Journaled) : Type 0 where
  pub topology : j.topology ≡ t
  pub site : j.site ≡ number
  pub entries : j.entries ≡ []
  pub is_open : j.sealed ≡ false

-- A site in its topology.
use Rattle.std.specs.Prelude.{◌≡◌, ℕ, true, List}
use Rattle.cmh_frames.specs.Rows.{Row}
use Rattle.cmh_topology3.specs.Topology.{IsTopologyOf, Topology, is_site}

-- the topology of the world with this number and just these rows, and the number of a site that is in it
pub record IsPlace (world : List ℕ) (number : ℕ) (topology : Topology) (site : ℕ) (rows : List Row) : Type 0 where
  pub topology_is : IsTopologyOf world rows topology
  pub site_is : site ≡ number
  pub there : is_site topology number ≡ true

-- The places of sites.
use Rattle.std.proofs.Common.{◌≡◌, ℕ, Option, None, Some, sym, ◌∙◌}
use Rattle.std.specs.Prelude.{MatchOption}
use Rattle.cmh_topology3.specs.Topology.{Topology, home}
use Rattle.cmh_cluster3.specs.Turns.{HasNoHome, IsAt, IsHomeAt, IsNoSite}
use Rattle.cmh_cluster3.proofs.Going.{none_some}

-- the place of the site of a process
pub at_home : (t : Topology) (process site : ℕ) (place : Option ℕ) → Some site ≡ home t process → MatchOption place (IsNoSite t site) (IsAt t site)
    → MatchOption place (HasNoHome t process) (IsHomeAt t process)
at_home t process site None is none = λ place at. none place (at.at ∙ sym at.home_is ∙ sym is)
at_home t process site (Some place) is at = record { site = site; home_is = sym is; at = at }

pub no_home : (t : Topology) (process : ℕ) → None ≡ home t process → HasNoHome t process
no_home t process none = λ place at. none_some (none ∙ at.home_is)

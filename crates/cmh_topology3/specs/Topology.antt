-- Which process is at which site of a world of edition 3.
use Rattle.std.specs.Prelude.{◌≡◌, ◌↔◌, ℕ, ◌≤◌, Bool, true, ◌&&◌, List, [], length, ◌==◌, Option, None, Some, unwrap_or, map, IsTrue}
use Rattle.std.specs.List.{list_any}
use Rattle.std.specs.List.Sorted.{IsStrictlyIncreasing}
use Rattle.cmh_runs.specs.Number.{IsNumber}
use Rattle.cmh_frames.specs.Rows.{Row}
use Rattle.cmh_frames.specs.Topology.{home_in, lookup}
use Rattle.cmh_topology3.specs.Limits.{most_members, most_sites}
use Rattle.cmh_topology3.specs.Rows.{fault_of}

-- the number of the world, byte by byte, and its sites in ascending order, each with its processes in ascending order
pub record Topology : Type 0 where
  pub world : List ℕ
  pub rows : List (ℕ × List ℕ)

-- the site of a process, if it has one
abbrev pub home : Topology → ℕ → Option ℕ
home t p = home_in t.rows p

-- the site of a process, and 0, which is no site, of what is no process of the world: the `home` of the model's rules
abbrev pub site_of : Topology → ℕ → ℕ
site_of t p = unwrap_or (home t p) 0

-- the processes of a site
abbrev pub members_of : Topology → ℕ → List ℕ
members_of t s = lookup [] t.rows s

abbrev pub sites_of : Topology → List ℕ
sites_of t = map (λ (row : ℕ × List ℕ). row.0) t.rows

-- whether the site is one of the topology's
abbrev pub is_site : Topology → ℕ → Bool
is_site t s = list_any (λ q. q == s) (sites_of t)

-- ---- a topology and the rows that were given for it

-- the topology of a world and just these rows, which have no fault
pub record IsTopologyOf (world : List ℕ) (rows : List Row) (t : Topology) : Type 0 where
  pub no_fault : fault_of rows ≡ None
  pub world_is : t.world ≡ world
  pub sites : (s : ℕ) → is_site t s ≡ list_any (λ q. q == s) (map (λ (row : Row). row.0) rows)
  pub places : (p s : ℕ)
      → (home t p ≡ Some s) ↔ IsTrue (list_any (λ (row : Row). (row.0 == s) && list_any (λ q. q == p) row.1) rows)
  pub sites_ascend : IsStrictlyIncreasing (sites_of t)
  pub members_ascend : (s : ℕ) → IsStrictlyIncreasing (members_of t s)

-- ---- what every topology keeps

-- a topology as there is one: what it holds are numbers, ascending and within the limits, and the processes of a site are
-- those that have it for their home
pub record IsWellFormed (t : Topology) : Type 0 where
  pub numbers : (p s : ℕ) → home t p ≡ Some s → IsNumber p × IsNumber s
  pub sites : (s : ℕ) → is_site t s ≡ true → IsNumber s
  pub members : (p s : ℕ) → (list_any (λ q. q == p) (members_of t s) ≡ true) ↔ (home t p ≡ Some s)
  pub sites_ascend : IsStrictlyIncreasing (sites_of t)
  pub members_ascend : (s : ℕ) → IsStrictlyIncreasing (members_of t s)
  pub few_sites : length (sites_of t) ≤ most_sites
  pub few_members : (s : ℕ) → length (members_of t s) ≤ most_members

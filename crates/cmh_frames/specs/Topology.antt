-- Which process is at which site.
use Rattle.std.specs.Prelude.{◌≡◌, ◌↔◌, ℕ, ◌≤◌, Bool, true, false, ◌&&◌, List, [], ◌∷◌, length, ◌==◌, if◌then◌else◌}
use Rattle.std.specs.Prelude.{Option, None, Some, unwrap_or, map, IsTrue}
use Rattle.std.specs.Option.{option_map_or}
use Rattle.std.specs.List.{list_any}
use Rattle.std.specs.List.Sorted.{IsStrictlyIncreasing}
use Rattle.cmh_frames.specs.declared.edition.Edition.{Edition}
use Rattle.cmh_frames.specs.Edition.{site_limit, member_limit}
use Rattle.cmh_frames.specs.Number.{IsNumber}
use Rattle.cmh_frames.specs.Rows.{Row, fault_of}

-- the sites in ascending order, each with its processes in ascending order
pub record Topology : Type 0 where
  pub edition : Edition
  pub rows : List (ℕ × List ℕ)

abbrev pub home_in : List (ℕ × List ℕ) → ℕ → Option ℕ
home_in [] p = None
home_in (row ∷ rows) p = if list_any (λ q. q == p) row.1 then Some row.0 else home_in rows p

-- the site of a process
abbrev pub home : Topology → ℕ → Option ℕ
home t p = home_in t.rows p

-- the process is at the site
abbrev pub At : Topology → ℕ → ℕ → Type 0
At t p s = home t p ≡ Some s

-- whether the process is at the site
abbrev pub is_at : Topology → ℕ → ℕ → Bool
is_at t p s = option_map_or (λ q. q == s) (home t p) false

-- the site of a process, where it has one
abbrev pub site_of : Topology → ℕ → ℕ
site_of t p = unwrap_or (home t p) 0

-- what stands beside the number where it comes first, or else `none`
abbrev pub lookup : {X : Type 0} → X → List (ℕ × X) → ℕ → X
lookup none [] n = none
lookup none (pair ∷ pairs) n = if pair.0 == n then pair.1 else lookup none pairs n

-- the processes of a site
abbrev pub members_of : Topology → ℕ → List ℕ
members_of t s = lookup [] t.rows s

abbrev pub sites_of : Topology → List ℕ
sites_of t = map (λ (row : ℕ × List ℕ). row.0) t.rows

-- whether the site is one of the topology's
abbrev pub is_site : Topology → ℕ → Bool
is_site t s = list_any (λ q. q == s) (sites_of t)

-- ---- a topology and the rows that were given for it

-- the topology of just these rows, which have no fault
pub record IsTopologyOf (edition : Edition) (rows : List Row) (t : Topology) : Type 0 where
  pub no_fault : fault_of edition rows ≡ None
  pub edition_is : t.edition ≡ edition
  pub sites : (s : ℕ) → is_site t s ≡ list_any (λ q. q == s) (map (λ (row : Row). row.0) rows)
  pub places : (p s : ℕ)
      → At t p s ↔ IsTrue (list_any (λ (row : Row). (row.0 == s) && list_any (λ q. q == p) row.1) rows)
  pub sites_ascend : IsStrictlyIncreasing (sites_of t)
  pub members_ascend : (s : ℕ) → IsStrictlyIncreasing (members_of t s)

-- ---- what every topology keeps

-- a topology as there is one: what it holds are numbers, ascending and within the limits of its edition, and the
-- processes of a site are those that have it for their home
pub record IsWellFormed (t : Topology) : Type 0 where
  pub numbers : (p s : ℕ) → At t p s → IsNumber p × IsNumber s
  pub sites : (s : ℕ) → is_site t s ≡ true → IsNumber s
  pub members : (p s : ℕ) → (list_any (λ q. q == p) (members_of t s) ≡ true) ↔ At t p s
  pub sites_ascend : IsStrictlyIncreasing (sites_of t)
  pub members_ascend : (s : ℕ) → IsStrictlyIncreasing (members_of t s)
  pub few_sites : length (sites_of t) ≤ site_limit t.edition
  pub few_members : (s : ℕ) → length (members_of t s) ≤ member_limit t.edition

-- whether there is a number, and it is this one
abbrev pub is_some_of : Option ℕ → ℕ → Bool
is_some_of o n = option_map_or (λ q. q == n) o false

-- With which bases a site can begin an epoch: those of a state of the rules.
use Rattle.std.specs.Prelude.{◌≡◌, ◌≢◌, ℕ, ◌*◌, ◌^◌, ◌≤◌, true, List, length}
use Rattle.std.specs.List.{AllByRecursion}
use Rattle.cmh_model3.specs.Lists.{in_list, is_nonempty}
use Rattle.cmh_model3.specs.Rules.{most_waits}
use Rattle.cmh_topology3.specs.Topology.{Topology, site_of}
use Rattle.cmh_controller3.specs.Controller.{Controller, state_of}
use Rattle.cmh_controller3.specs.declared.refusal.Refusal.{Refusal}
use Rattle.cmh_controller3.specs.declared.refusal.Refusal.TheVariants.{Unlawful, Memory}
use Rattle.cmh_segment3.specs.States.{beside, has_pair, stamp_of, state_in}
use Rattle.cmh_segment3.specs.WholeEntries.{IsWithin}
use Rattle.cmh_segment3.specs.declared.base.Base.{Base}
use Rattle.cmh_segment3.specs.declared.rows.Pair.{Pair}
use Rattle.cmh_segment3.specs.declared.rows.Stamped.{Stamped}
use Rattle.cmh_segment3.specs.declared.rows.StampedPair.{StampedPair}

-- ---- its lists; `home` gives each process its site, and 0 to a number that no process has, and `s` is the site

module _ (home : ℕ → ℕ) (s : ℕ) where
  -- Only processes of the site have asked, and no ask is ahead of the clock.
  abbrev pub AreStamps : ℕ → List Stamped → Type 0
  AreStamps clock rows = AllByRecursion (λ (row : Stamped). (home row.process ≡ s) × (row.stamp ≤ clock)) rows

  -- Processes of the site wait for other known processes, since no ask that is ahead of their newest one, and each for
  -- as many at most as it may.
  abbrev pub AreWaits : (ℕ → ℕ) → List StampedPair → Type 0
  AreWaits stamp rows =
      AllByRecursion (λ (row : StampedPair).
      (home row.first ≡ s) × (home row.second ≢ 0) × (row.second ≢ row.first) × (row.stamp ≤ stamp row.first)) rows
      × ((j : ℕ) → length (beside j rows) ≤ most_waits)

  -- Processes of the site are leaving known processes of other sites.
  abbrev pub AreLeft : List Pair → Type 0
  AreLeft rows =
      AllByRecursion (λ (row : Pair). (home row.first ≡ s) × (home row.second ≢ 0) × (home row.second ≢ s)) rows

  -- Processes of the site owe known processes a reply. One of the site waits for it.
  abbrev pub AreOwed : (ℕ → List ℕ) → List Pair → Type 0
  AreOwed waits rows =
      AllByRecursion (λ (row : Pair). (home row.first ≡ s) × (home row.second ≢ 0)
      × (home row.second ≡ s → in_list (waits row.second) row.first ≡ true)) rows

  -- And which of the site a process waits for owes it a reply.
  abbrev pub OweWhoWaits : List Pair → List StampedPair → Type 0
  OweWhoWaits owed waits =
      AllByRecursion (λ (row : StampedPair). home row.second ≡ s → has_pair owed row.second row.first ≡ true) waits

-- Marks are those of blocked processes.
abbrev pub AreMarks : (ℕ → List ℕ) → List StampedPair → Type 0
AreMarks waits rows = AllByRecursion (λ (row : StampedPair). is_nonempty (waits row.first) ≡ true) rows

-- Who is declared is blocked.
abbrev pub AreDeclared : (ℕ → List ℕ) → List Stamped → Type 0
AreDeclared waits rows = AllByRecursion (λ (row : Stamped). is_nonempty (waits row.process) ≡ true) rows

-- ---- the base

-- who waits for whom
abbrev pub waits_in : Base → ℕ → List ℕ
waits_in base j = beside j base.waits

-- The site can begin this epoch with the base.
pub record IsBaseOf (t : Topology) (s epoch : ℕ) (base : Base) : Type 0 where
  pub stamps : AreStamps (site_of t) s (epoch * 2 ^ 32) base.stamps
  pub waits : AreWaits (site_of t) s (stamp_of base.stamps) base.waits
  pub leaving : AreLeft (site_of t) s base.leaving
  pub owed : AreOwed (site_of t) s (waits_in base) base.owed
  pub replies : OweWhoWaits (site_of t) s base.owed base.waits
  pub marks : AreMarks (waits_in base) base.dependents
  pub declared : AreDeclared (waits_in base) base.declared

-- ---- its controller

-- A controller of the site stands where the base says, which is a state of the rules.
pub record IsRestored (t : Topology) (s epoch : ℕ) (base : Base) (c : Controller) : Type 0 where
  pub base_is : IsBaseOf t s epoch base
  pub topology : c.topology ≡ t
  pub site : c.site ≡ s
  pub state : state_of c ≡ state_in epoch base
  pub within : IsWithin (site_of t) s (state_in epoch base)

-- What should hold does not, or memory has run out before that was known.
abbrev pub RefusesUnless : Type 0 → Refusal → Type 0
RefusesUnless Holds Unlawful = Holds → ⊥
RefusesUnless Holds Memory = Unit {0}
RefusesUnless Holds reason = ⊥

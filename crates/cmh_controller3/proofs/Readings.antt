-- What is known of every controller that is read.
use Rattle.std.proofs.Common.{◌≡◌, ◌≢◌, ◌∙◌, ◌&&◌, ◌==◌, ℕ, Bool, true, false, if◌then◌else◌, Option, None, Some, unwrap_or, refl, sym, arith}
use Rattle.std.proofs.lemmas.Bool.{eqb-true}
use Rattle.cmh_runs.specs.Number.{IsNumber}
use Rattle.cmh_model3.specs.Lists.{in_list}
use Rattle.cmh_topology3.specs.Topology.{IsWellFormed, Topology, home, site_of}
use Rattle.cmh_waits3.specs.Held.{waits_of}
use Rattle.cmh_controller3.specs.Controller.{Controller, home_of, state_of}
use Rattle.cmh_controller3.specs.Inner.Kept.{IsKept}
use Rattle.cmh_controller3.specs.Readings.{HasFacts}
use Rattle.cmh_controller3.specs.Tables.{pairs_of}

-- who is known has a number
number_of : (t : Topology) → IsWellFormed t → (p : ℕ) → site_of t p ≢ 0 → IsNumber p
number_of t formed p known = go (home t p) refl known
  where
    go : (h : Option ℕ) → home t p ≡ h → unwrap_or h 0 ≢ 0 → IsNumber p
    go None e none = absurd (none refl)
    go (Some s) e known = (formed.numbers p s e).0

module _ (c : Controller) (kept : IsKept (home_of c) c.site c.kept) where
  is_site : c.site ≢ 0
  is_site e = let positive = kept.site in absurd (omega (arith, positive, e))

  asker_known : (k j : ℕ) → (state_of c).owed k j ≡ true → home_of c j ≢ 0
  asker_known k j owes = go (home_of c j == c.site) refl owes
    where
      go : (z : Bool) → (home_of c j == c.site) ≡ z → (if z then (home_of c k == c.site) && in_list (waits_of c.kept.waits j) k else pairs_of c.kept.owed k j) ≡ true → home_of c j ≢ 0
      go true here owes = λ none. is_site (sym (eqb-true (home_of c j) c.site here) ∙ none)
      go false away owes = (kept.askers k j owes).0

  pub has_facts : IsWellFormed c.topology → HasFacts c
  has_facts formed = record { site = is_site; facts = kept.facts; askers = asker_known; asked = kept.asked; numbers = number_of c.topology formed }

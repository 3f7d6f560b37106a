-- What a caller knows of every controller that it reads.
use Rattle.std.specs.Prelude.{◌≡◌, ◌≢◌, ℕ, true}
use Rattle.cmh_runs.specs.Number.{IsNumber}
use Rattle.cmh_model3.specs.Laws.{JournalFacts}
use Rattle.cmh_controller3.specs.Controller.{Controller, home_of, state_of}

-- The facts of the state of every journal hold, whoever is owed a reply is known, only processes of the site have asked,
-- and who is known has a number.
pub record HasFacts (c : Controller) : Type 0 where
  pub site : c.site ≢ 0
  pub facts : JournalFacts (home_of c) c.site (state_of c)
  pub askers : (k j : ℕ) → (state_of c).owed k j ≡ true → home_of c j ≢ 0
  pub asked : (p : ℕ) → (state_of c).stamp p ≢ 0 → home_of c p ≡ c.site
  pub numbers : (p : ℕ) → home_of c p ≢ 0 → IsNumber p

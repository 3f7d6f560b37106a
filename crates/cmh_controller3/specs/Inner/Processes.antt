-- Whether a process is one of the site.
use Rattle.std.specs.Prelude.{◌≡◌, ℕ}
use Rattle.cmh_controller3.specs.declared.refusal.Refusal.{Refusal}
use Rattle.cmh_controller3.specs.declared.refusal.Refusal.TheVariants.{UnknownProcess, NotHere}
use Rattle.cmh_controller3.specs.Refusals.{IsElsewhere}

module _ (home : ℕ → ℕ) (s : ℕ) where
  -- why a process is none of the site
  abbrev pub IsNoneOfSite : ℕ → Refusal → Type 0
  IsNoneOfSite p UnknownProcess = home p ≡ 0
  IsNoneOfSite p NotHere = IsElsewhere home s p
  IsNoneOfSite p reason = ⊥

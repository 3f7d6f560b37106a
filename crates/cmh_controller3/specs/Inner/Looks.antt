-- What a site sees along the waits that count for an ask.
use Rattle.std.specs.Prelude.{◌≡◌, ◌≢◌, ◌==◌, ℕ, Bool, true, List, ◌++◌, MatchBool}
use Rattle.cmh_model3.specs.declared.frame.Message.{Message}
use Rattle.cmh_model3.specs.Lists.{in_list}
use Rattle.cmh_model3.specs.State.{State}
use Rattle.cmh_model3.specs.Rules.{AreProbes}
use Rattle.cmh_topology3.specs.Topology.{Topology, site_of}
use Rattle.cmh_waits3.specs.Held.{Held, is_member, waits_of}

-- What a site holds is of the topology: its members are those that the topology puts there, and whom they wait for is
-- known.
pub record AreOfSite (t : Topology) (s : ℕ) (waits : Held) : Type 0 where
  pub members : (p : ℕ) → (site_of t p == s) ≡ is_member waits p
  pub known : (j k : ℕ) → in_list (waits_of waits j) k ≡ true → site_of t k ≢ 0

-- A deadlock is seen; or none is, and probes go out with this clock, besides what went out before.
abbrev pub Sees : (ℕ → ℕ) → ℕ → State → Type 0 → ℕ → ℕ → ℕ → ℕ → List (ℕ × Message) → Bool → List (ℕ × Message) → Type 0
Sees home s v Deadlocked c i n p before deadlocked sent =
    MatchBool deadlocked (Deadlocked × (sent ≡ before))
    ((Deadlocked → ⊥)
    × (probes : List (ℕ × Message)) × (sent ≡ before ++ probes) × AreProbes home s v c i n p probes)

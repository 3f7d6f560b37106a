-- Putting a state into a controller, one fact at a time: which facts it takes, and which state has one more.
-- `home`, `s` and `v` are as in the rules: where the processes are, the site of the controller, and its state before.
use Rattle.std.specs.Prelude.{◌≡◌, ◌≢◌, ℕ, ◌<◌, ◌≤◌, List, length, true, false, ◌&&◌, ◌==◌, if◌then◌else◌}
use Rattle.cmh_model3.specs.Lists.{set_at, set_pair, with_one}
use Rattle.cmh_model3.specs.State.{State, waits_for}
use Rattle.cmh_model3.specs.Rules.{most_waits}
use Rattle.cmh_controller3.specs.Controller.{Controller, state_of}
use Rattle.cmh_controller3.specs.WaysBack.{owed_back}
use Rattle.cmh_controller3.specs.declared.refusal.Refusal.{Refusal}
use Rattle.cmh_controller3.specs.declared.refusal.Refusal.TheVariants.{Unlawful, Memory}

-- ---- which facts it takes

module _ (home : ℕ → ℕ) (s : ℕ) where
  -- of a process of the site, a stamp that is not before the one that it has, and not ahead of the clock
  abbrev pub MayStamp : State → ℕ → ℕ → Type 0
  MayStamp v p n = (home p ≡ s) × (v.stamp p ≤ n) × (n ≤ v.clock)

  -- A wait of a process of the site for another known one, for which it does not wait yet. It has room for one more, and has
  -- asked since.
  abbrev pub MayWait : State → ℕ → ℕ → ℕ → Type 0
  MayWait v j k n =
      (home j ≡ s) × (home k ≢ 0) × (k ≢ j) × (waits_for v j k ≡ false) × (length (v.waits j) < most_waits)
      × (n ≤ v.stamp j)

  -- that a process of the site is leaving a known one of another site
  abbrev pub MayLeave : ℕ → ℕ → Type 0
  MayLeave j k = (home j ≡ s) × (home k ≢ 0) × (home k ≢ s)

  -- that a process of the site owes a known one a reply; one of the site waits for it
  abbrev pub MayOwe : State → ℕ → ℕ → Type 0
  MayOwe v k j = (home k ≡ s) × (home j ≢ 0) × (home j ≡ s → waits_for v j k ≡ true)

-- ---- the state with one more

abbrev pub with_stamp : State → ℕ → ℕ → State
with_stamp v p n = record v { stamp = set_at v.stamp p n }

-- between two processes of the site the wait is owed then
abbrev pub with_wait : (ℕ → ℕ) → ℕ → State → ℕ → ℕ → ℕ → State
with_wait home s v j k n =
    let waits : ℕ → List ℕ = set_at v.waits j (with_one (v.waits j) k) in
    record v {
      waits = waits;
      since = (λ x y. if (x == j) && (y == k) then n else v.since x y);
      owed = owed_back home s waits v.owed;
    }

abbrev pub with_leaving : State → ℕ → ℕ → State
with_leaving v j k = record v { leaving = set_pair v.leaving j k true }

abbrev pub with_owed : State → ℕ → ℕ → State
with_owed v k j = record v { owed = set_pair v.owed k j true }

abbrev pub with_mark : State → ℕ → ℕ → ℕ → State
with_mark v k i n = record v { marks = set_at v.marks k (set_at (v.marks k) i n) }

abbrev pub with_declared : State → ℕ → State
with_declared v i = record v { declared = set_at v.declared i true }

abbrev pub with_clock : State → ℕ → State
with_clock v c = record v { clock = c }

-- ---- what comes of it

-- The controller takes the fact, and is in this state now.
pub record Takes (Allowed : Type 0) (v : State) (old new : Controller) : Type 0 where
  pub allowed : Allowed
  pub topology : new.topology ≡ old.topology
  pub site : new.site ≡ old.site
  pub state : state_of new ≡ v

-- Or it does not: the fact is none that it takes, or it is, and memory has run out.
abbrev pub RefusesFact : Type 0 → Refusal → Type 0
RefusesFact Allowed Unlawful = Allowed → ⊥
RefusesFact Allowed Memory = Allowed
RefusesFact Allowed reason = ⊥

-- the same for a fact that takes no memory
abbrev pub ForbidsFact : Type 0 → Refusal → Type 0
ForbidsFact Allowed reason = (reason ≡ Unlawful) × (Allowed → ⊥)

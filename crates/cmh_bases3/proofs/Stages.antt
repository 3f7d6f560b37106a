-- A controller that has taken no step takes one list of a base after the other.
use Rattle.std.proofs.Common.{◌≡◌, ℕ, ◌*◌, ◌^◌, ◌≤◌, ◌==◌, Bool, true, false, ◌&&◌, ◌||◌, List, if◌then◌else◌, refl, sym, ap, ◌∙◌, subst}
use Rattle.std.proofs.Math.Path.{fun_ext}
use Rattle.std.proofs.lemmas.Bool.{and_parts, eqb-true, true≢false}
use Rattle.cmh_model3.specs.Lists.{in_list}
use Rattle.cmh_model3.specs.State.{State, empty_state}
use Rattle.cmh_wire3.specs.Wire.{IsLong}
use Rattle.cmh_controller3.specs.Controller.{Controller, home_of, state_of}
use Rattle.cmh_controller3.specs.Restoring.{Takes, with_clock}
use Rattle.cmh_controller3.specs.WaysBack.{owed_back}
use Rattle.cmh_controller3.specs.declared.refusal.Refusal.{Refusal}
use Rattle.cmh_controller3.specs.declared.refusal.Refusal.TheVariants.{UnknownProcess, NotHere, BadTargets, Blocked, NotBlocked, NotOwed, Unlawful, Memory, Leaving, AlreadyWaits, NotWaiting, ClockSpent}
use Rattle.cmh_segment3.specs.Base.{IsBase}
use Rattle.cmh_segment3.specs.States.{beside, has_pair, stamp_of, state_in}
use Rattle.cmh_segment3.specs.declared.base.Base.{Base}
use Rattle.cmh_segment3.specs.declared.rows.Pair.{Pair}
use Rattle.cmh_segment3.specs.declared.rows.Stamped.{Stamped}
use Rattle.cmh_segment3.specs.declared.rows.StampedPair.{StampedPair}
use Rattle.cmh_bases3.specs.Bases.{AreDeclared, AreLeft, AreMarks, AreOwed, AreStamps, AreWaits, IsBaseOf, IsRestored, OweWhoWaits, RefusesUnless, waits_in}
use Rattle.cmh_bases3.specs.Inner.Lists.{with_declared, with_left, with_marks, with_owed, with_stamps, with_waits}
use Rattle.cmh_bases3.proofs.Further.{from_there, to_there}
use Rattle.cmh_bases3.proofs.Lawful.{beside_says, within}

-- what is not a list of what is asked is no part of a base
passed_on : {All Whole : Type 0} (reason : Refusal) → (Whole → All) → RefusesUnless All reason → RefusesUnless Whole reason
passed_on UnknownProcess part f = f
passed_on NotHere part f = f
passed_on BadTargets part f = f
passed_on Blocked part f = f
passed_on NotBlocked part f = f
passed_on NotOwed part f = f
passed_on Unlawful part f = λ whole. f (part whole)
passed_on Memory part f = tt
passed_on Leaving part f = f
passed_on AlreadyWaits part f = f
passed_on NotWaiting part f = f
passed_on ClockSpent part f = f

module _ (start : Controller) (epoch : ℕ) (base : Base) where
  abbrev home : ℕ → ℕ
  home = home_of start

  abbrev s : ℕ
  s = start.site

  -- a controller of the same site in this state
  pub record At (v : State) (c : Controller) : Type 0 where
    pub topology : c.topology ≡ start.topology
    pub site : c.site ≡ s
    pub state : state_of c ≡ v

  -- the states on the way
  abbrev timed : State
  timed = with_clock empty_state (epoch * 2 ^ 32)

  abbrev stamped : State
  stamped = with_stamps base.stamps timed

  abbrev waiting : State
  waiting = with_waits home s base.waits stamped

  abbrev leaving : State
  leaving = with_left base.leaving waiting

  abbrev owing : State
  owing = with_owed base.owed leaving

  abbrev marked : State
  marked = with_marks base.dependents owing

  abbrev whole : State
  whole = with_declared base.declared marked

  -- ---- from one to the next

  module _ (Allowed : (ℕ → ℕ) → ℕ → State → Type 0) (next : (ℕ → ℕ) → ℕ → State → State) (v : State) (mid : Controller) (at : At v mid) where
    pub goes_on : (new : Controller) → Takes (Allowed (home_of mid) mid.site (state_of mid)) (next (home_of mid) mid.site (state_of mid)) mid new → Allowed home s v × At (next home s v) new
    goes_on new takes = (
      from_there Allowed v start mid at.topology at.site at.state takes.allowed,
      record {
        topology = takes.topology ∙ at.topology;
        site = takes.site ∙ at.site;
        state = from_there (λ home s v. state_of new ≡ next home s v) v start mid at.topology at.site at.state takes.state;
      },
    )

    pub stops : (reason : Refusal) → (IsBaseOf start.topology s epoch base → Allowed home s v) → RefusesUnless (Allowed (home_of mid) mid.site (state_of mid)) reason
        → RefusesUnless (IsBaseOf start.topology s epoch base) reason
    stops reason part = passed_on reason (λ is. to_there Allowed v start mid at.topology at.site at.state (part is))

  pub at_first : state_of start ≡ empty_state → At empty_state start
  at_first new = record { topology = refl; site = refl; state = new }

  pub clock_goes_on : (n : ℕ) → n ≡ epoch * 2 ^ 32 → (mid new : Controller) → At empty_state mid → Takes ((state_of mid).clock ≤ n) (with_clock (state_of mid) n) mid new → At timed new
  clock_goes_on n is mid new at takes = (goes_on (λ home s v. v.clock ≤ epoch * 2 ^ 32) (λ home s v. with_clock v (epoch * 2 ^ 32)) empty_state mid at new
      (subst (λ n. Takes ((state_of mid).clock ≤ n) (with_clock (state_of mid) n) mid new) is takes)).1

  -- ---- each list

  pub stamps_go_on : (rows : List Stamped) → rows ≡ base.stamps → (mid new : Controller) → At timed mid → Takes (AreStamps (home_of mid) mid.site (state_of mid).clock rows) (with_stamps rows (state_of mid)) mid new
      → AreStamps home s (epoch * 2 ^ 32) base.stamps × At stamped new
  stamps_go_on rows are mid new at takes = goes_on (λ home s v. AreStamps home s v.clock base.stamps) (λ home s v. with_stamps base.stamps v) timed mid at new
      (subst (λ (rows : List Stamped). Takes (AreStamps (home_of mid) mid.site (state_of mid).clock rows) (with_stamps rows (state_of mid)) mid new) are takes)

  pub stamps_stop : (rows : List Stamped) → rows ≡ base.stamps → (mid : Controller) → At timed mid → (reason : Refusal) → RefusesUnless (AreStamps (home_of mid) mid.site (state_of mid).clock rows) reason
      → RefusesUnless (IsBaseOf start.topology s epoch base) reason
  stamps_stop rows are mid at reason why = stops (λ home s v. AreStamps home s v.clock base.stamps) (λ home s v. v) timed mid at reason (λ is. is.stamps)
      (subst (λ (rows : List Stamped). RefusesUnless (AreStamps (home_of mid) mid.site (state_of mid).clock rows) reason) are why)

  pub waits_go_on : (rows : List StampedPair) → rows ≡ base.waits → (mid new : Controller) → At stamped mid → Takes (AreWaits (home_of mid) mid.site (state_of mid).stamp rows) (with_waits (home_of mid) mid.site rows (state_of mid)) mid new
      → AreWaits home s (stamp_of base.stamps) base.waits × At waiting new
  waits_go_on rows are mid new at takes = goes_on (λ home s v. AreWaits home s v.stamp base.waits) (λ home s v. with_waits home s base.waits v) stamped mid at new
      (subst (λ (rows : List StampedPair). Takes (AreWaits (home_of mid) mid.site (state_of mid).stamp rows) (with_waits (home_of mid) mid.site rows (state_of mid)) mid new) are takes)

  pub waits_stop : (rows : List StampedPair) → rows ≡ base.waits → (mid : Controller) → At stamped mid → (reason : Refusal) → RefusesUnless (AreWaits (home_of mid) mid.site (state_of mid).stamp rows) reason
      → RefusesUnless (IsBaseOf start.topology s epoch base) reason
  waits_stop rows are mid at reason why = stops (λ home s v. AreWaits home s v.stamp base.waits) (λ home s v. v) stamped mid at reason (λ is. is.waits)
      (subst (λ (rows : List StampedPair). RefusesUnless (AreWaits (home_of mid) mid.site (state_of mid).stamp rows) reason) are why)

  pub left_go_on : (rows : List Pair) → rows ≡ base.leaving → (mid new : Controller) → At waiting mid → Takes (AreLeft (home_of mid) mid.site rows) (with_left rows (state_of mid)) mid new
      → AreLeft home s base.leaving × At leaving new
  left_go_on rows are mid new at takes = goes_on (λ home s v. AreLeft home s base.leaving) (λ home s v. with_left base.leaving v) waiting mid at new
      (subst (λ (rows : List Pair). Takes (AreLeft (home_of mid) mid.site rows) (with_left rows (state_of mid)) mid new) are takes)

  pub left_stop : (rows : List Pair) → rows ≡ base.leaving → (mid : Controller) → At waiting mid → (reason : Refusal) → RefusesUnless (AreLeft (home_of mid) mid.site rows) reason
      → RefusesUnless (IsBaseOf start.topology s epoch base) reason
  left_stop rows are mid at reason why = stops (λ home s v. AreLeft home s base.leaving) (λ home s v. v) waiting mid at reason (λ is. is.leaving)
      (subst (λ (rows : List Pair). RefusesUnless (AreLeft (home_of mid) mid.site rows) reason) are why)

  pub owed_go_on : (rows : List Pair) → rows ≡ base.owed → (mid new : Controller) → At leaving mid → Takes (AreOwed (home_of mid) mid.site (state_of mid).waits rows) (with_owed rows (state_of mid)) mid new
      → AreOwed home s (waits_in base) base.owed × At owing new
  owed_go_on rows are mid new at takes = goes_on (λ home s v. AreOwed home s v.waits base.owed) (λ home s v. with_owed base.owed v) leaving mid at new
      (subst (λ (rows : List Pair). Takes (AreOwed (home_of mid) mid.site (state_of mid).waits rows) (with_owed rows (state_of mid)) mid new) are takes)

  pub owed_stop : (rows : List Pair) → rows ≡ base.owed → (mid : Controller) → At leaving mid → (reason : Refusal) → RefusesUnless (AreOwed (home_of mid) mid.site (state_of mid).waits rows) reason
      → RefusesUnless (IsBaseOf start.topology s epoch base) reason
  owed_stop rows are mid at reason why = stops (λ home s v. AreOwed home s v.waits base.owed) (λ home s v. v) leaving mid at reason (λ is. is.owed)
      (subst (λ (rows : List Pair). RefusesUnless (AreOwed (home_of mid) mid.site (state_of mid).waits rows) reason) are why)

  pub marks_go_on : (rows : List StampedPair) → rows ≡ base.dependents → (mid new : Controller) → At owing mid → Takes (AreMarks (state_of mid).waits rows) (with_marks rows (state_of mid)) mid new
      → AreMarks (waits_in base) base.dependents × At marked new
  marks_go_on rows are mid new at takes = goes_on (λ home s v. AreMarks v.waits base.dependents) (λ home s v. with_marks base.dependents v) owing mid at new
      (subst (λ (rows : List StampedPair). Takes (AreMarks (state_of mid).waits rows) (with_marks rows (state_of mid)) mid new) are takes)

  pub marks_stop : (rows : List StampedPair) → rows ≡ base.dependents → (mid : Controller) → At owing mid → (reason : Refusal) → RefusesUnless (AreMarks (state_of mid).waits rows) reason
      → RefusesUnless (IsBaseOf start.topology s epoch base) reason
  marks_stop rows are mid at reason why = stops (λ home s v. AreMarks v.waits base.dependents) (λ home s v. v) owing mid at reason (λ is. is.marks)
      (subst (λ (rows : List StampedPair). RefusesUnless (AreMarks (state_of mid).waits rows) reason) are why)

  pub declared_go_on : (rows : List Stamped) → rows ≡ base.declared → (mid new : Controller) → At marked mid → Takes (AreDeclared (state_of mid).waits rows) (with_declared rows (state_of mid)) mid new
      → AreDeclared (waits_in base) base.declared × At whole new
  declared_go_on rows are mid new at takes = goes_on (λ home s v. AreDeclared v.waits base.declared) (λ home s v. with_declared base.declared v) marked mid at new
      (subst (λ (rows : List Stamped). Takes (AreDeclared (state_of mid).waits rows) (with_declared rows (state_of mid)) mid new) are takes)

  pub declared_stop : (rows : List Stamped) → rows ≡ base.declared → (mid : Controller) → At marked mid → (reason : Refusal) → RefusesUnless (AreDeclared (state_of mid).waits rows) reason
      → RefusesUnless (IsBaseOf start.topology s epoch base) reason
  declared_stop rows are mid at reason why = stops (λ home s v. AreDeclared v.waits base.declared) (λ home s v. v) marked mid at reason (λ is. is.declared)
      (subst (λ (rows : List Stamped). RefusesUnless (AreDeclared (state_of mid).waits rows) reason) are why)

  -- ---- at the end

  -- what is owed is what the base says
  owed_is : OweWhoWaits home s base.owed base.waits → whole.owed ≡ has_pair base.owed
  owed_is replies = fun_ext λ k. fun_ext λ j. joined (has_pair base.owed k j) (owed_back home s (λ j. beside j base.waits) (λ k j. false) k j) (known k j)
    where
      joined : (a b : Bool) → (b ≡ true → a ≡ true) → (a || b) ≡ a
      joined true b h = refl
      joined false true h = absurd (true≢false (sym (h refl)))
      joined false false h = refl

      known : (k j : ℕ) → owed_back home s (λ j. beside j base.waits) (λ k j. false) k j ≡ true → has_pair base.owed k j ≡ true
      known k j h = go (home j == s) h
        where
          go : (z : Bool) → (if z then (home k == s) && in_list (beside j base.waits) k else false) ≡ true → has_pair base.owed k j ≡ true
          go true h =
              let parts = and_parts (home k == s) (in_list (beside j base.waits) k) h in
              beside_says (λ a b. home b ≡ s → has_pair base.owed b a ≡ true) base.waits replies j k parts.1 (eqb-true (home k) s parts.0)
          go false h = absurd (true≢false (sym h))

  whole_is : OweWhoWaits home s base.owed base.waits → whole ≡ state_in epoch base
  whole_is replies = ap (λ (f : ℕ → ℕ → Bool). record whole { owed = f }) (owed_is replies)

  pub restored : (c : Controller) → At whole c → IsBase base → IsBaseOf start.topology s epoch base → IsLong (epoch * 2 ^ 32) → IsRestored start.topology s epoch base c
  restored c at are is long = record {
    base_is = is;
    topology = at.topology;
    site = at.site;
    state = at.state ∙ whole_is is.replies;
    within = within start.topology s epoch base are is long;
  }

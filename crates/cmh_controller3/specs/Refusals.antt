-- Why a controller refuses an event: the first reason that holds. Each case says that the earlier ones do not.
use Rattle.std.specs.Prelude.{◌≡◌, ◌≢◌, ◌⊎◌, ℕ, ◌+◌, ◌≤◌, length, true, false, not, ◌||◌, List}
use Rattle.std.specs.List.{list_any}
use Rattle.cmh_model3.specs.Lists.{IsAscending, in_list, is_nonempty}
use Rattle.cmh_model3.specs.State.{State, is_blocked, waits_for}
use Rattle.cmh_model3.specs.Rules.{Accepts, clock_limit, most_waits}
use Rattle.cmh_model3.specs.declared.event.Event.{Event}
use Rattle.cmh_model3.specs.declared.event.Event.TheVariants.{Ask, Reply, Withdraw, Got, Turn}
use Rattle.cmh_topology3.specs.Topology.{Topology, is_site}
use Rattle.cmh_controller3.specs.declared.refusal.Refusal.{Refusal}
use Rattle.cmh_controller3.specs.declared.refusal.Refusal.TheVariants.{UnknownProcess, NotHere, BadTargets, Blocked, NotBlocked, NotOwed, Unlawful, Memory, Leaving, AlreadyWaits, NotWaiting, ClockSpent}

-- the number that stands for a refusal in answers
abbrev pub number_of : Refusal → ℕ
number_of UnknownProcess = 1
number_of NotHere = 2
number_of BadTargets = 3
number_of Blocked = 4
number_of NotBlocked = 5
number_of NotOwed = 6
number_of Unlawful = 8
number_of Memory = 11
number_of Leaving = 14
number_of AlreadyWaits = 15
number_of NotWaiting = 16
number_of ClockSpent = 17

module _ (home : ℕ → ℕ) where
  -- these are other known processes, ascending
  abbrev pub AreOthers : ℕ → List ℕ → Type 0
  AreOthers j ks = IsAscending ks × ((k : ℕ) → in_list ks k ≡ true → (k ≢ j) × (home k ≢ 0))

  -- An ask may name these: and with them its asker has no more waits than it may. One that names nobody starts a
  -- computation for a blocked process.
  abbrev pub CanName : State → ℕ → List ℕ → Type 0
  CanName v j ks = AreOthers j ks × (length (v.waits j) + length ks ≤ most_waits)

module _ (home : ℕ → ℕ) (s : ℕ) where
  -- the process is at another site
  abbrev pub IsElsewhere : ℕ → Type 0
  IsElsewhere p = (home p ≢ 0) × (home p ≢ s)

  -- a blocked process may ask of nobody, and any process of those that it may name
  abbrev pub MayAsk : State → ℕ → List ℕ → Type 0
  MayAsk v j ks = (home j ≡ s) × ((is_blocked v j || is_nonempty ks) ≡ true) × CanName home v j ks

  -- why an ask is refused; a start is one that names nobody
  abbrev pub RefusesAsk : State → ℕ → List ℕ → Refusal → Type 0
  RefusesAsk v j ks UnknownProcess = home j ≡ 0
  RefusesAsk v j ks NotHere = IsElsewhere j
  RefusesAsk v j ks BadTargets = (home j ≡ s) × (is_nonempty ks ≡ true) × (CanName home v j ks → ⊥)
  RefusesAsk v j ks NotBlocked = (home j ≡ s) × (is_nonempty ks ≡ false) × (is_blocked v j ≡ false)
  RefusesAsk v j ks Leaving = MayAsk v j ks × (list_any (v.leaving j) ks ≡ true)
  RefusesAsk v j ks AlreadyWaits =
      MayAsk v j ks × (list_any (v.leaving j) ks ≡ false) × (list_any (waits_for v j) ks ≡ true)
  RefusesAsk v j ks ClockSpent =
      MayAsk v j ks × (list_any (v.leaving j) ks ≡ false) × (list_any (waits_for v j) ks ≡ false)
      × (clock_limit ≤ v.clock + 1)
  RefusesAsk v j ks reason = ⊥

  abbrev pub RefusesReply : State → ℕ → ℕ → Refusal → Type 0
  RefusesReply v k j UnknownProcess = (home k ≡ 0) ⊎ (home j ≡ 0)
  RefusesReply v k j NotHere = IsElsewhere k × (home j ≢ 0)
  RefusesReply v k j Blocked = (home k ≡ s) × (home j ≢ 0) × (is_blocked v k ≡ true)
  RefusesReply v k j NotOwed = (home k ≡ s) × (home j ≢ 0) × (is_blocked v k ≡ false) × (v.owed k j ≡ false)
  RefusesReply v k j reason = ⊥

  abbrev pub RefusesWithdraw : State → ℕ → List ℕ → Refusal → Type 0
  RefusesWithdraw v j ks UnknownProcess = home j ≡ 0
  RefusesWithdraw v j ks NotHere = IsElsewhere j
  RefusesWithdraw v j ks BadTargets = (home j ≡ s) × (AreOthers home j ks → ⊥)
  RefusesWithdraw v j ks NotWaiting =
      (home j ≡ s) × AreOthers home j ks
      × ((is_nonempty ks ≡ false) ⊎ (list_any (λ k. not (waits_for v j k)) ks ≡ true))
  RefusesWithdraw v j ks reason = ⊥

  -- the first reason to refuse an event, which the rules do not accept
  abbrev pub RefusesFor : State → Event → Refusal → Type 0
  RefusesFor v (Ask j ks) reason = RefusesAsk v j ks reason
  RefusesFor v (Reply k j) reason = RefusesReply v k j reason
  RefusesFor v (Withdraw j ks) reason = RefusesWithdraw v j ks reason
  RefusesFor v (Got a c frame) Unlawful = Accepts home s v (Got a c frame) → ⊥
  RefusesFor v (Turn c) Unlawful = Accepts home s v (Turn c) → ⊥
  RefusesFor v event reason = ⊥

  -- And out of memory comes only to an event that the rules accept.
  abbrev pub Refuses : State → Event → Refusal → Type 0
  Refuses v event Memory = Accepts home s v event
  Refuses v event reason = RefusesFor v event reason

-- why no controller of the site is made
abbrev pub RefusesSite : Topology → ℕ → Refusal → Type 0
RefusesSite t s NotHere = is_site t s ≡ false
RefusesSite t s Memory = is_site t s ≡ true
RefusesSite t s reason = ⊥

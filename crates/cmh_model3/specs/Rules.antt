-- The rules of a controller: which events it accepts, its state afterwards, and what it sends and declares.
-- `home` gives each process its site, and 0, which is no site, to a number that no process has. `s` is the site of the
-- controller, and `v` its state before the event.
-- A probe is of the ask of process `i` with stamp `n`.
use Rattle.std.specs.Prelude.{◌≡◌, ◌≢◌, ◌⊎◌, ℕ, ◌+◌, ◌^◌, ◌<◌, ◌≤◌, length, Bool, true, false, not, ◌&&◌, ◌||◌, List, [], ◌∷◌, ◌++◌, ◌==◌, if◌then◌else◌, Option, None, Some, Contains, map, ◌↔◌, MatchBool, ltb, max}
use Rattle.std.specs.List.Sorted.{IsStrictlySortedBy}
use Rattle.cmh_model3.specs.declared.frame.Frame.{Frame}
use Rattle.cmh_model3.specs.declared.frame.Frame.TheVariants.{Request, Reply as Reply_frame, Withdraw as Withdraw_frame, Probe}
use Rattle.cmh_model3.specs.declared.frame.Message.{Message}
use Rattle.cmh_model3.specs.declared.event.Event.{Event}
use Rattle.cmh_model3.specs.declared.event.Event.TheVariants.{Ask, Reply, Withdraw, Got, Turn}
use Rattle.cmh_model3.specs.Lists.{in_list, is_nonempty, with_each, without, without_all, IsAscending, pair_cmp, set_at, set_pair}
use Rattle.cmh_model3.specs.State.{State, is_blocked, waits_for, counts, passes, with_waits}
use Rattle.cmh_model3.specs.Paths.{ReachesLocally, DependsOnItself}

-- for how many others a process may wait at once
abbrev pub most_waits : ℕ
most_waits = 255

-- an ask or a turn leaves the clock below this
abbrev pub clock_limit : ℕ
clock_limit = 2 ^ 64

-- The clock ticks at an ask, takes over a greater one that a frame brings, and can be turned forward.
abbrev pub clock_after : ℕ → Event → ℕ
clock_after c (Ask asker targets) = c + 1
clock_after c (Got from clock frame) = max c clock
clock_after c (Turn clock) = max c clock
clock_after c event = c

-- A probe acts where its receiver passes it on, still owes the sender, and has no mark of that ask or a newer one.
abbrev pub probe_acts : State → ℕ → ℕ → ℕ → ℕ → Bool
probe_acts v i n j k = passes v n i k && v.owed k j && ltb (v.marks k i) n

abbrev pub declared_after : (ℕ → Bool) → Option ℕ → ℕ → Bool
declared_after known None = known
declared_after known (Some i) = set_at known i true

-- a frame with the clock of its sender
abbrev pub message : ℕ → Frame → Message
message c frame = record { clock = c; frame = frame }

-- A declaration is recorded only where it is new.
abbrev pub newly : State → ℕ → Option ℕ
newly v i = if v.declared i then None else Some i

module _ (home : ℕ → ℕ) where
  -- ---- which events are accepted

  -- What an ask may name: other known processes, ascending, of which the asker neither waits for one nor is leaving one.
  abbrev pub AreTargets : State → ℕ → List ℕ → Type 0
  AreTargets v j ks =
      IsAscending ks
      × ((k : ℕ) → in_list ks k ≡ true → (k ≢ j) × (v.leaving j k ≡ false) × (waits_for v j k ≡ false) × (home k ≢ 0))

  -- The events that the controller of a site accepts. Who is active asks of somebody.
  abbrev pub Accepts : ℕ → State → Event → Type 0
  Accepts s v (Ask j ks) =
      (home j ≡ s) × ((is_blocked v j || is_nonempty ks) ≡ true) × AreTargets v j ks
      × (length (v.waits j) + length ks ≤ most_waits) × (v.clock + 1 < clock_limit)
  Accepts s v (Reply k j) = (home k ≡ s) × (is_blocked v k ≡ false) × (v.owed k j ≡ true)
  Accepts s v (Withdraw j ks) =
      (home j ≡ s) × (is_nonempty ks ≡ true) × IsAscending ks
      × ((k : ℕ) → in_list ks k ≡ true → waits_for v j k ≡ true)
  Accepts s v (Turn c) = (v.clock < c) × (c < clock_limit)
  Accepts s v (Got a c (Request j k)) = (a ≢ s) × (home j ≡ a) × (home k ≡ s) × (v.owed k j ≡ false)
  Accepts s v (Got a c (Reply_frame k j)) =
      (a ≢ s) × (home k ≡ a) × (home j ≡ s) × ((waits_for v j k || v.leaving j k) ≡ true)
  Accepts s v (Got a c (Withdraw_frame j k)) = (a ≢ s) × (home j ≡ a) × (home k ≡ s)
  Accepts s v (Got a c (Probe i n j k)) = (a ≢ s) × (home j ≡ a) × (home k ≡ s)

  -- ---- the state afterwards

  -- whether i is j, and k one of its targets that are at the site, and at another site
  abbrev pub targets_here : ℕ → ℕ → List ℕ → ℕ → ℕ → Bool
  targets_here s j ks i k = ((i == j) && (home k == s)) && in_list ks k

  abbrev pub targets_away : ℕ → ℕ → List ℕ → ℕ → ℕ → Bool
  targets_away s j ks i k = ((i == j) && not (home k == s)) && in_list ks k

  -- but for the clock, and for who is declared
  abbrev pub changed : ℕ → State → Event → State
  changed s v (Ask j ks) =
      record v {
        waits = set_at v.waits j (with_each (v.waits j) ks);
        since = (λ x y. if (x == j) && in_list ks y then v.clock + 1 else v.since x y);
        owed = (λ k i. targets_here s j ks i k || v.owed k i);
        stamp = set_at v.stamp j (v.clock + 1);
        declared = set_at v.declared j false;
      }
  changed s v (Reply k j) =
      let answered : State = record v { owed = set_pair v.owed k j false } in
      if home j == s then with_waits answered j (without (v.waits j) k) else answered
  changed s v (Withdraw j ks) =
      let left : State = record v {
        leaving = (λ i k. targets_away s j ks i k || v.leaving i k);
        owed = (λ k i. not (targets_here s j ks i k) && v.owed k i);
      } in
      with_waits left j (without_all (v.waits j) ks)
  changed s v (Got a c (Request j k)) = record v { owed = set_pair v.owed k j true }
  changed s v (Got a c (Reply_frame k j)) =
      if waits_for v j k then with_waits v j (without (v.waits j) k)
      else record v { leaving = set_pair v.leaving j k false }
  changed s v (Got a c (Withdraw_frame j k)) = record v { owed = set_pair v.owed k j false }
  changed s v (Got a c (Probe i n j k)) =
      if probe_acts v i n j k then record v { marks = set_at v.marks k (set_at (v.marks k) i n) } else v
  changed s v (Turn c) = v

  -- after an event, where the controller declared this process
  abbrev pub after : ℕ → State → Event → Option ℕ → State
  after s v event declared =
      let w : State = changed s v event in
      record w { declared = declared_after w.declared declared; clock = clock_after v.clock event }

  -- ---- what is sent and declared; `c` is the clock afterwards

  -- the requests of an ask: to each target of another site, in the targets' order
  abbrev pub requests : ℕ → ℕ → ℕ → List ℕ → List (ℕ × Message)
  requests s c j [] = []
  requests s c j (k ∷ ks) =
      if home k == s then requests s c j ks
      else (home k, message c (Request j k)) ∷ requests s c j ks

  -- those of a withdrawal
  abbrev pub withdraws : ℕ → ℕ → ℕ → List ℕ → List (ℕ × Message)
  withdraws s c j [] = []
  withdraws s c j (k ∷ ks) =
      if home k == s then withdraws s c j ks
      else (home k, message c (Withdraw_frame j k)) ∷ withdraws s c j ks

  -- a wait that counts and leaves the site, of a process that p reaches locally
  abbrev pub IsEdge : ℕ → State → ℕ → ℕ → ℕ → ℕ × ℕ → Type 0
  IsEdge s v n i p edge =
      ReachesLocally home s v n i p edge.0 × (counts v n i edge.0 edge.1 ≡ true) × (home edge.1 ≢ s)

  -- the probe along a wait, with the site that it goes to
  abbrev pub probe_along : ℕ → ℕ → ℕ → ℕ × ℕ → ℕ × Message
  probe_along c i n edge = (home edge.1, message c (Probe i n edge.0 edge.1))

  -- one probe along each of these waits, in the ascending order of the waits
  pub record AreProbes (s : ℕ) (v : State) (c i n p : ℕ) (sent : List (ℕ × Message)) : Type 0 where
    pub edges : List (ℕ × ℕ)
    pub ascending : IsStrictlySortedBy pair_cmp edges
    pub all : (edge : ℕ × ℕ) → Contains edges edge ↔ IsEdge s v n i p edge
    pub are : sent ≡ map (probe_along c i n) edges

  -- A process is declared, or probes go out.
  abbrev pub DeclaresOrProbes : Type 0 → ℕ → State → ℕ → ℕ → ℕ → ℕ → List (ℕ × Message) → Option ℕ → Type 0
  DeclaresOrProbes Deadlocked s v c i n p sent declared =
      (Deadlocked × (sent ≡ []) × (declared ≡ newly v i))
      ⊎ ((Deadlocked → ⊥) × AreProbes s v c i n p sent × (declared ≡ None))

  -- An ask is looked at under its own stamp, and with the waits that it has begun.
  abbrev pub Sends : ℕ → State → Event → List (ℕ × Message) → Option ℕ → Type 0
  Sends s v (Ask j ks) sent d =
      (probes : List (ℕ × Message)) × (sent ≡ requests s (v.clock + 1) j ks ++ probes)
      × DeclaresOrProbes (DependsOnItself home s (changed s v (Ask j ks)) (v.clock + 1) j)
      s (changed s v (Ask j ks)) (v.clock + 1) j (v.clock + 1) j probes d
  Sends s v (Reply k j) sent d =
      (sent ≡ (if home j == s then [] else (home j, message v.clock (Reply_frame k j)) ∷ [])) × (d ≡ None)
  Sends s v (Withdraw j ks) sent d = (sent ≡ withdraws s v.clock j ks) × (d ≡ None)
  Sends s v (Got a c (Withdraw_frame j k)) sent d =
      (sent ≡ (if v.owed k j then (a, message (max v.clock c) (Reply_frame k j)) ∷ [] else [])) × (d ≡ None)
  Sends s v (Got a c (Probe i n j k)) sent d =
      MatchBool (probe_acts v i n j k)
      (DeclaresOrProbes (ReachesLocally home s v n i k i × (passes v n i i ≡ true)) s v (max v.clock c) i n k sent d)
      ((sent ≡ []) × (d ≡ None))
  Sends s v event sent d = (sent ≡ []) × (d ≡ None)

-- The laws of runs: what is said of every run, of every lawful journal, and of every accepted event.
use Rattle.std.specs.Prelude.{◌≡◌, ◌≢◌, ℕ, ◌+◌, Bool, true, false, ◌&&◌, List, [], ◌∷◌, ◌++◌, ◌==◌, if◌then◌else◌}
use Rattle.std.specs.List.{AllByRecursion}
use Rattle.cmh_frames.specs.declared.frame.Frame.{Frame}
use Rattle.cmh_frames.specs.declared.frame.Frame.TheVariants.{Request, Reply as Reply_frame, Probe}
use Rattle.cmh_frames.specs.Edition.{target_limit}
use Rattle.cmh_frames.specs.Topology.{Topology, At}
use Rattle.cmh_frames.specs.Entries.{WorldEvent}
use Rattle.cmh_frames.specs.Relation.{has, RelatesToFew}
use Rattle.cmh_frames.specs.State.{State, is_blocked}
use Rattle.cmh_frames.specs.Runs.{state_of, under_way, IsBeginningOf}
use Rattle.cmh_frames.specs.Paths.{IsPath}
use Rattle.cmh_frames.specs.Waits.{Waits, IsCycle, DependsOn, OnCycle, IsDeclared, asks_for, grants, wait_after}

abbrev pub bit : Bool → ℕ
bit b = if b then 1 else 0

-- how many frames of a list are the request of j to k, and its reply
abbrev pub is_request : ℕ → ℕ → Frame → Bool
is_request j k (Request (asker, holder)) = (asker == j) && (holder == k)
is_request j k frame = false

abbrev pub is_reply : ℕ → ℕ → Frame → Bool
is_reply k j (Reply_frame (holder, asker)) = (holder == k) && (asker == j)
is_reply k j frame = false

abbrev pub count_of : {X : Type 0} → (X → Bool) → List X → ℕ
count_of p [] = 0
count_of p (x ∷ xs) = bit (p x) + count_of p xs

-- The facts at one moment of a run.
pub record Facts (t : Topology) (events : List WorldEvent) : Type 0 where
  -- a process that a site keeps as dependent on k is so, and k is a blocked process of the site
  pub dependents : (b k i : ℕ) → has (state_of t b events).dependents k i ≡ true
      → At t k b × (is_blocked (state_of t b events) k ≡ true) × DependsOn events i k
  -- a probe under way from the site of j to the site of k: where j waits for k and no newer request of j to k
  -- is after the probe, its origin is j or dependent on j
  pub probes : (a b i j k : ℕ) (earlier behind : List Frame)
      → under_way a b events ≡ earlier ++ Probe (i, j, k) ∷ behind
      → (a ≢ b) × At t j a × At t k b
      × (Waits events j k → count_of (is_request j k) behind ≡ 0 → (path : List ℕ) × IsPath (Waits events) i path j)
  -- for each wait that a site keeps, and for no other, just one of these is so, and once: its request
  -- is under way, it is owed, its reply is under way
  pub each_wait : (a b j k : ℕ) → At t j a → At t k b
      → count_of (is_request j k) (under_way a b events)
      + bit (has (state_of t b events).owed k j)
      + count_of (is_reply k j) (under_way b a events) ≡ bit (has (state_of t a events).waits j k)
  -- a process on a cycle is blocked at its site
  pub blocked : (i : ℕ) → OnCycle events i → (a : ℕ) × At t i a × (is_blocked (state_of t a events) i ≡ true)

-- At every beginning of a run the facts hold, a cycle stays one from then on, and each declared process lies on a
-- cycle. A wait that stands is called dark in the field, and so is a path of such waits: whatever probes have shown,
-- there is a dark path behind it.
pub record DarkPath (t : Topology) (events : List WorldEvent) : Type 0 where
  pub facts : (so_far : List WorldEvent) → IsBeginningOf so_far events → Facts t so_far
  pub kept : (so_far : List WorldEvent) → IsBeginningOf so_far events → (i : ℕ) (members : List ℕ)
      → IsCycle so_far i members → IsCycle events i members
  pub declared : (i : ℕ) → IsDeclared events i → OnCycle events i

-- A wait in the other words: some ask of j names k, and no reply of k to j stands after it.
abbrev pub StandsUnanswered : List WorldEvent → ℕ → ℕ → Type 0
StandsUnanswered events j k =
    (before : List WorldEvent) × (ask : WorldEvent) × (rest : List WorldEvent)
    × (events ≡ before ++ ask ∷ rest) × (asks_for j k ask.entry.event ≡ true)
    × AllByRecursion (λ (e : WorldEvent). grants k j e.entry.event ≡ false) rest

-- What holds of the state of a lawful journal, whatever the other sites do.
pub record JournalFacts (t : Topology) (s : ℕ) (v : State) : Type 0 where
  -- the site keeps waits of its own processes alone, for known processes
  pub waits_home : (j k : ℕ) → has v.waits j k ≡ true → At t j s × ((b : ℕ) × At t k b)
  -- and owed replies of its own processes alone, to known processes
  pub owed_home : (k j : ℕ) → has v.owed k j ≡ true → At t k s × ((a : ℕ) × At t j a)
  -- what has dependents is a blocked process of the site
  pub dependents_blocked : (k i : ℕ) → has v.dependents k i ≡ true → At t k s × (is_blocked v k ≡ true)
  -- between two processes of the site a wait is what is owed
  pub local : (j k : ℕ) → At t j s → At t k s → has v.waits j k ≡ has v.owed k j
  -- no process waits for more than an ask may name
  pub narrow : (j : ℕ) → RelatesToFew (target_limit t.edition) v.waits j

-- The asks of j that name k are as many as the replies of k to j, and one more where j waits for k.
abbrev pub AsksAndReplies : List WorldEvent → Type 0
AsksAndReplies events =
    (j k : ℕ) → count_of (λ (e : WorldEvent). asks_for j k e.entry.event) events
    ≡ count_of (λ (e : WorldEvent). grants k j e.entry.event) events + bit (wait_after false j k events)

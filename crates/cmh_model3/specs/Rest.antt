-- Deliveries come to an end: how many can follow a run, and what they lead to.
use Rattle.std.specs.Prelude.{◌≡◌, ℕ, ◌+◌, ◌*◌, ◌≤◌, Bool, true, false, ◌&&◌, ◌||◌, List, [], ◌∷◌, ◌++◌, ◌==◌, if◌then◌else◌, length}
use Rattle.std.specs.List.{AllByRecursion}
use Rattle.cmh_model3.specs.declared.frame.Frame.{Frame}
use Rattle.cmh_model3.specs.declared.frame.Frame.TheVariants.{Withdraw as Withdraw_frame, Probe}
use Rattle.cmh_model3.specs.declared.frame.Message.{Message}
use Rattle.cmh_model3.specs.declared.event.Event.{Event}
use Rattle.cmh_model3.specs.declared.event.Event.TheVariants.{Ask, Got}
use Rattle.cmh_model3.specs.Entries.{WorldEvent}
use Rattle.cmh_model3.specs.Lists.{in_list}
use Rattle.cmh_model3.specs.State.{is_blocked}
use Rattle.cmh_model3.specs.Runs.{IsDrained, IsRun, state_of, under_way}
use Rattle.cmh_model3.specs.Waits.{IsCycle}
use Rattle.cmh_model3.specs.Laws.{SomeDeclared}
use Rattle.cmh_model3.specs.Victims.{NobodyAsks, is_delivery}

abbrev pub AreDeliveries : List WorldEvent → Type 0
AreDeliveries events = AllByRecursion (λ (e : WorldEvent). is_delivery e.entry.event ≡ true) events

-- ---- messages under way

-- a message with its link
pub record Flying : Type 0 where
  pub from : ℕ
  pub to : ℕ
  pub message : Message

abbrev pub on_link : ℕ → ℕ → List Flying → List Message
on_link a b [] = []
on_link a b (x ∷ xs) = if (x.from == a) && (x.to == b) then x.message ∷ on_link a b xs else on_link a b xs

-- these are the messages under way, on all links
abbrev pub AreUnderWay : List WorldEvent → List Flying → Type 0
AreUnderWay events flying = (a b : ℕ) → on_link a b flying ≡ under_way a b events

abbrev pub total : (Frame → ℕ) → List Flying → ℕ
total measure [] = 0
total measure (x ∷ xs) = measure x.message.frame + total measure xs

-- one for each frame, and one more for a withdraw, which may be answered
abbrev pub weight : Frame → ℕ
weight (Withdraw_frame asker holder) = 2
weight frame = 1

-- one for each probe
abbrev pub probe_weight : Frame → ℕ
probe_weight (Probe origin stamp holder to) = 1
probe_weight frame = 0

-- the ask that a probe is of
abbrev pub ask_of : Frame → List (ℕ × ℕ)
ask_of (Probe origin stamp holder to) = (origin, stamp) ∷ []
ask_of frame = []

abbrev pub asks_of : List Flying → List (ℕ × ℕ)
asks_of [] = []
asks_of (x ∷ xs) = ask_of x.message.frame ++ asks_of xs

-- ---- each once

abbrev pub same_pair : ℕ × ℕ → ℕ × ℕ → Bool
same_pair x y = (x.0 == y.0) && (x.1 == y.1)

abbrev pub has : ℕ × ℕ → List (ℕ × ℕ) → Bool
has x [] = false
has x (y ∷ ys) = same_pair y x || has x ys

abbrev pub each_once : List (ℕ × ℕ) → List (ℕ × ℕ)
each_once [] = []
each_once (x ∷ xs) = if has x xs then each_once xs else x ∷ each_once xs

abbrev pub each_name : List ℕ → List ℕ
each_name [] = []
each_name (k ∷ ks) = if in_list ks k then each_name ks else k ∷ each_name ks

-- ---- the waits along which probes can go

abbrev pub asker_of : Event → List ℕ
asker_of (Ask asker targets) = asker ∷ []
asker_of event = []

abbrev pub askers : List WorldEvent → List ℕ
askers [] = []
askers (e ∷ es) = asker_of e.entry.event ++ askers es

module _ (home : ℕ → ℕ) (events : List WorldEvent) where
  abbrev pub blocked_of : List ℕ → List ℕ
  blocked_of [] = []
  blocked_of (k ∷ ks) = if is_blocked (state_of home (home k) events) k then k ∷ blocked_of ks else blocked_of ks

  -- the processes that are blocked at the end, each once
  abbrev pub blocked : List ℕ
  blocked = blocked_of (each_name (askers events))

  -- of these, the waits of j for processes of other sites
  abbrev pub far_waits : ℕ → List ℕ → List (ℕ × ℕ)
  far_waits j [] = []
  far_waits j (k ∷ ks) = if home k == home j then far_waits j ks else (j, k) ∷ far_waits j ks

  -- the waits that leave site s, of those of these processes that are there
  abbrev pub waits_from : ℕ → List ℕ → List (ℕ × ℕ)
  waits_from s [] = []
  waits_from s (j ∷ js) =
      if home j == s then far_waits j ((state_of home s events).waits j) ++ waits_from s js else waits_from s js

  -- how many waits leave the site of k
  abbrev pub waits_beside : ℕ → ℕ
  waits_beside k = length (waits_from (home k) blocked)

  abbrev pub all_beside : List ℕ → ℕ
  all_beside [] = 0
  all_beside (k ∷ ks) = waits_beside k + all_beside ks

-- For each ask that a probe under way is of, and each blocked process, the waits that leave its site.
abbrev pub most_probes : (ℕ → ℕ) → List WorldEvent → List Flying → ℕ
most_probes home events flying =
    length (each_once (asks_of flying)) * all_beside home events (blocked home events)

-- ---- the laws

-- Deliveries alone after a run are at most the messages under way, the withdraws among them, and those probes.
abbrev pub RestIsBounded : Type 0
RestIsBounded =
    (home : ℕ → ℕ) (before : List WorldEvent) → IsRun home before
    → (flying : List Flying) × AreUnderWay before flying
    × ((rest : List WorldEvent) → IsRun home (before ++ rest) → AreDeliveries rest
    → length rest ≤ total weight flying + most_probes home before flying)

-- the probes that came
abbrev pub probe_got : Event → ℕ
probe_got (Got from clock frame) = probe_weight frame
probe_got event = 0

abbrev pub probes_got : List WorldEvent → ℕ
probes_got [] = 0
probes_got (e ∷ es) = probe_got e.entry.event + probes_got es

-- Also while processes reply and withdraw and clocks turn: as long as nobody asks, the probes that come are at most those
-- under way and as many as above.
abbrev pub ProbesAreBounded : Type 0
ProbesAreBounded =
    (home : ℕ → ℕ) (before : List WorldEvent) → IsRun home before
    → (flying : List Flying) × AreUnderWay before flying
    × ((rest : List WorldEvent) → IsRun home (before ++ rest) → NobodyAsks rest
    → probes_got rest ≤ total probe_weight flying + most_probes home before flying)

-- After any run deliveries alone can drain the links.
abbrev pub RestComes : Type 0
RestComes =
    (home : ℕ → ℕ) (before : List WorldEvent) → IsRun home before
    → (rest : List WorldEvent) × IsRun home (before ++ rest) × AreDeliveries rest × IsDrained (before ++ rest)

-- Where they have, a member of each cycle that was there before is declared.
abbrev pub EachCycleFound : Type 0
EachCycleFound =
    (home : ℕ → ℕ) (before rest : List WorldEvent) → IsRun home (before ++ rest)
    → AreDeliveries rest → IsDrained (before ++ rest)
    → (i next : ℕ) (members : List ℕ) → IsCycle before i next members
    → SomeDeclared home (before ++ rest) (next ∷ members)

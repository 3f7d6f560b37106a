-- What holds of a world at every moment of a run.
use Rattle.std.specs.Prelude.{◌≡◌, ◌≢◌, ◌⊎◌, ℕ, ◌+◌, ◌≤◌, true, false, List, ◌∷◌, ◌++◌, Some}
use Rattle.std.specs.List.{AllByRecursion}
use Rattle.cmh_model3.specs.declared.frame.Frame.{Frame}
use Rattle.cmh_model3.specs.declared.frame.Frame.TheVariants.{Request, Reply as Reply_frame, Withdraw as Withdraw_frame, Probe}
use Rattle.cmh_model3.specs.declared.frame.Message.{Message}
use Rattle.cmh_model3.specs.Entries.{WorldEvent}
use Rattle.cmh_model3.specs.State.{State, is_blocked, waits_for, counts, passes}
use Rattle.cmh_model3.specs.Paths.{IsPath, IsLocalPath, ReachesLocally}
use Rattle.cmh_model3.specs.Rules.{AreProbes}
use Rattle.cmh_model3.specs.Stops.{declared_at}
use Rattle.cmh_model3.specs.Frames.{bit, count, is_reply}
use Rattle.cmh_model3.proofs.World.{World, Step, got_on, held, is_request, clock_of}

-- between sites: request under way, owed, or reply under way: just one of them where j keeps k
abbrev pub OnePlace : (ℕ → ℕ) → World → ℕ → ℕ → Type 0
OnePlace home w j k =
    (count (is_request j k) (w.queue (home j) (home k)) + bit ((w.value (home k)).owed k j) + count (is_reply k j) (w.queue (home k) (home j))
    ≡ held (w.value (home j)) j k)
    × (held (w.value (home j)) j k ≤ 1)

-- within a site: a wait is what is owed, and none is given up
abbrev pub OwnPlace : State → ℕ → ℕ → Type 0
OwnPlace v j k = (waits_for v j k ≡ v.owed k j) × (v.leaving j k ≡ false)

pub record SingleWaits (home : ℕ → ℕ) (w : World) : Type 0 where
  pub far : (j k : ℕ) → home j ≢ home k → OnePlace home w j k
  pub own : (j k : ℕ) → home j ≡ home k → OwnPlace (w.value (home j)) j k

abbrev pub StepKeepsSingleWaits : Type 0
StepKeepsSingleWaits = (home : ℕ → ℕ) (w : World) (e : WorldEvent) (n : World) → SingleWaits home w → Step home w e n → SingleWaits home n

-- a wait at stop m that no event can change
abbrev pub IsSettled : (ℕ → ℕ) → World → ℕ → ℕ → ℕ → Type 0
IsSettled home w m x y = (w.early m x y ≡ true) × (m ≤ clock_of home w x) × (m ≤ clock_of home w y)

abbrev pub SettledPath : (ℕ → ℕ) → World → ℕ → ℕ → List ℕ → ℕ → Type 0
SettledPath home w m i members j = IsPath (IsSettled home w m) i members j

abbrev pub SettledStays : Type 0
SettledStays = (home : ℕ → ℕ) (w : World) (e : WorldEvent) (n : World) → Step home w e n → (m i j : ℕ) (members : List ℕ) → SettledPath home w m i members j → SettledPath home n m i members j

-- stamps are not ahead of clocks; and a wait that is kept stands at each stop from its stamp on
pub record StampsFit (home : ℕ → ℕ) (w : World) : Type 0 where
  pub behind : (x : ℕ) → (w.value (home x)).stamp x ≤ clock_of home w x
  pub low : (x y : ℕ) → (w.value (home x)).since x y ≤ (w.value (home x)).stamp x
  pub stands : (x y m : ℕ) → w.wait x y ≡ true → waits_for (w.value (home x)) x y ≡ true → (w.value (home x)).since x y ≤ m → w.early m x y ≡ true

abbrev pub StampsKept : Type 0
StampsKept = (home : ℕ → ℕ) (w : World) (e : WorldEvent) (n : World) → StampsFit home w → Step home w e n → StampsFit home n

-- when the probe that stands behind these messages comes, it finds (k, j) owed unless k replies or j's withdraw comes first
abbrev pub IsLive : (ℕ → ℕ) → World → ℕ → ℕ → List Message → Type 0
IsLive home w j k ahead = 1 ≤ count (is_request j k) ahead + bit ((w.value (home k)).owed k j)

-- what is behind a probe of i, number m, on the link from j to k, with these messages ahead of it
abbrev pub ProbeFits : (ℕ → ℕ) → World → ℕ → ℕ → ℕ → ℕ → List Message → Type 0
ProbeFits home w i m j k ahead =
    (m ≤ clock_of home w j) × ((members : List ℕ) × SettledPath home w m i members j) × (IsLive home w j k ahead → w.early m j k ≡ true)

-- no event breaks what is behind a probe that stays under way
abbrev pub ProbesStay : Type 0
ProbesStay =
    (home : ℕ → ℕ) (w : World) (e : WorldEvent) (n : World) → SingleWaits home w → Step home w e n
    → (i m j k : ℕ) (ahead : List Message) (p : Message) (behind : List Message) → home j ≢ home k
    → n.queue (home j) (home k) ≡ ahead ++ p ∷ behind
    → ProbeFits home w i m j k (got_on (home j) (home k) e ++ ahead) → ProbeFits home n i m j k ahead

-- what the controllers keep as waits are waits by the events, but for those whose reply is under way
pub record WaitsAgree (home : ℕ → ℕ) (w : World) : Type 0 where
  pub far : (j k : ℕ) → home j ≢ home k → waits_for (w.value (home j)) j k ≡ true → count (is_reply k j) (w.queue (home k) (home j)) ≡ 0 → w.wait j k ≡ true
  pub own : (j k : ℕ) → home j ≡ home k → waits_for (w.value (home j)) j k ≡ true → w.wait j k ≡ true

-- a local path of a site whose clock is at m is one of settled waits
abbrev pub LocalPathsSettled : Type 0
LocalPathsSettled =
    (home : ℕ → ℕ) (w : World) → WaitsAgree home w → StampsFit home w → (s m i p : ℕ) (members : List ℕ) (q : ℕ)
    → m ≤ (w.value s).clock → home p ≡ s
    → IsLocalPath home s (w.value s) m i p members q
    → SettledPath home w m p members q × (home q ≡ s)

-- a probe that was just sent from site s to site b
abbrev pub FrameFits : (ℕ → ℕ) → World → ℕ → ℕ → ℕ → Frame → Type 0
FrameFits home n s b c (Request x y) = Unit {0}
FrameFits home n s b c (Reply_frame x y) = Unit {0}
FrameFits home n s b c (Withdraw_frame x y) = Unit {0}
FrameFits home n s b c (Probe i m j k) =
    (home k ≡ b) × (home k ≢ s) × (m ≤ c) × (m ≤ (n.value (home i)).stamp i)
    × (home j ≡ s) × ((members : List ℕ) × SettledPath home n m i members j) × ((n.value s).since j k ≤ m) × (waits_for (n.value s) j k ≡ true)
    × (m ≤ (n.value s).clock)

-- where the rules of site s declare i or send probes for (m, i) from what p reaches, each is fit, if a settled path leads from i to p
abbrev pub OutcomesFit : Type 0
OutcomesFit =
    (home : ℕ → ℕ) (n : World) → WaitsAgree home n → StampsFit home n → (s : ℕ) (v : State) (c i m p : ℕ) (sent : List (ℕ × Message))
    → v.waits ≡ (n.value s).waits → v.since ≡ (n.value s).since → m ≤ c → m ≤ (n.value s).clock → m ≤ (n.value (home i)).stamp i
    → home p ≡ s → ((members : List ℕ) × SettledPath home n m i members p)
    → AreProbes home s v c i m p sent → AllByRecursion (λ (x : ℕ × Message). FrameFits home n s x.0 x.1.clock x.1.frame) sent

-- and where the rules at a probe's receipt declare i, it lies on a cycle of settled waits at stop m
abbrev pub DeclaredOnSettledCycle : Type 0
DeclaredOnSettledCycle =
    (home : ℕ → ℕ) (n : World) → WaitsAgree home n → StampsFit home n → (s i m p : ℕ) → m ≤ (n.value s).clock
    → home p ≡ s → (members : List ℕ) → SettledPath home n m i members p → (onward : List ℕ) → IsLocalPath home s (n.value s) m i p onward i
    → SettledPath home n m i (members ++ onward) i

-- where j keeps k as a wait, either it stands by the events or k's reply is under way
abbrev pub WaitAgrees : (ℕ → ℕ) → World → ℕ → ℕ → Type 0
WaitAgrees home w j k = waits_for (w.value (home j)) j k ≡ true → bit (w.wait j k) + count (is_reply k j) (w.queue (home k) (home j)) ≡ 1

-- behind a withdraw that is under way, where j waits again, stands the newer request
abbrev pub NewerBehind : (ℕ → ℕ) → World → ℕ → ℕ → Type 0
NewerBehind home w j k =
    (c : ℕ) (ahead behind : List Message) → w.queue (home j) (home k) ≡ ahead ++ record { clock = c; frame = Withdraw_frame j k } ∷ behind
    → waits_for (w.value (home j)) j k ≡ true → 1 ≤ count (is_request j k) behind

-- no event at k's site breaks the agreement, though replies and withdraws may cross
abbrev pub CrossingsAgree : Type 0
CrossingsAgree =
    (home : ℕ → ℕ) (w : World) (e : WorldEvent) (n : World) → SingleWaits home w → Step home w e n → (j k : ℕ) → home j ≢ home k → e.site ≡ home k
    → NewerBehind home w j k → WaitAgrees home w j k → WaitAgrees home n j k

pub record Agrees (home : ℕ → ℕ) (w : World) : Type 0 where
  pub far : (j k : ℕ) → home j ≢ home k → WaitAgrees home w j k
  pub newer : (j k : ℕ) → home j ≢ home k → NewerBehind home w j k
  pub own : (j k : ℕ) → home j ≡ home k → waits_for (w.value (home j)) j k ≡ true → w.wait j k ≡ true

abbrev pub ProbeAt : (ℕ → ℕ) → World → ℕ → ℕ → ℕ → ℕ → ℕ → ℕ → ℕ → List Message → Type 0
ProbeAt home w a b c i m j k ahead =
    (home j ≡ a) × (home k ≡ b) × (a ≢ b) × (m ≤ c) × (m ≤ (w.value (home i)).stamp i) × ProbeFits home w i m j k ahead

pub record Holds (home : ℕ → ℕ) (w : World) : Type 0 where
  pub single : SingleWaits home w
  pub stamps : StampsFit home w
  pub agrees : Agrees home w
  pub probes : (a b c i m j k : ℕ) (ahead behind : List Message)
      → w.queue a b ≡ ahead ++ record { clock = c; frame = Probe i m j k } ∷ behind → ProbeAt home w a b c i m j k ahead

-- no event breaks it
abbrev pub StepKeepsAll : Type 0
StepKeepsAll = (home : ℕ → ℕ) (w : World) (e : WorldEvent) (n : World) → Holds home w → Step home w e n → Holds home n

-- a cycle of waits at stop m that no event can change
abbrev pub SettledCycle : (ℕ → ℕ) → World → ℕ → ℕ → Type 0
SettledCycle home w m i = (next : ℕ) × (members : List ℕ) × IsSettled home w m i next × SettledPath home w m next members i

-- an event that declares i: it lies on a settled cycle of the stop of its stamp
abbrev pub StepDeclares : Type 0
StepDeclares = (home : ℕ → ℕ) (w : World) (e : WorldEvent) (n : World) → Holds home w → Step home w e n → (i : ℕ) → e.entry.declared ≡ Some i
    → (m : ℕ) × (m ≤ (n.value (home i)).stamp i) × SettledCycle home n m i × (m ≡ declared_at (w.value e.site).clock e.entry.event)

abbrev pub StepKeepsAgreement : Type 0
StepKeepsAgreement = (home : ℕ → ℕ) (w : World) (e : WorldEvent) (n : World) → SingleWaits home w → Step home w e n → Agrees home w → Agrees home n

-- a probe of ask m of i along the wait of j for k, which finds the request open where nothing ends the wait before
abbrev pub LiveProbe : (ℕ → ℕ) → World → ℕ → ℕ → ℕ → ℕ → Type 0
LiveProbe home w i m j k =
    (c : ℕ) × (ahead : List Message) × (behind : List Message)
    × (w.queue (home j) (home k) ≡ ahead ++ record { clock = c; frame = Probe i m j k } ∷ behind) × IsLive home w j k ahead

abbrev pub IsSource : (ℕ → ℕ) → World → ℕ → ℕ → ℕ → Type 0
IsSource home w i m p = (p ≡ i) ⊎ ((w.value (home p)).marks p i ≡ m)

-- what i and the processes with its mark reach at their sites
abbrev pub IsLit : (ℕ → ℕ) → World → ℕ → ℕ → ℕ → Type 0
IsLit home w i m q = (p : ℕ) × IsSource home w i m p × ReachesLocally home (home p) (w.value (home p)) m i p q

-- k's site has heard of stamp m, and k has the mark if it passes on the probes
abbrev pub IsPassed : (ℕ → ℕ) → World → ℕ → ℕ → ℕ → Type 0
IsPassed home w i m k = (m ≤ clock_of home w k) × (passes (w.value (home k)) m i k ≡ true → (w.value (home k)).marks k i ≡ m)

pub record Known (home : ℕ → ℕ) (w : World) (i m : ℕ) : Type 0 where
  pub near : (j k : ℕ) → IsLit home w i m j → w.wait j k ≡ true → counts (w.value (home j)) m i j k ≡ true → home j ≡ home k → k ≢ i
  pub far : (j k : ℕ) → IsLit home w i m j → w.wait j k ≡ true → counts (w.value (home j)) m i j k ≡ true → home j ≢ home k → LiveProbe home w i m j k ⊎ IsPassed home w i m k
  pub own : (w.value (home i)).marks i i ≢ m

pub record MarksFit (home : ℕ → ℕ) (w : World) : Type 0 where
  pub under : (k i : ℕ) → (w.value (home k)).marks k i ≤ (w.value (home i)).stamp i
  pub reached : (k i : ℕ) → (w.value (home k)).marks k i ≤ clock_of home w k
  pub asked : (x y : ℕ) → waits_for (w.value (home x)) x y ≡ true → 1 ≤ (w.value (home x)).stamp x
  pub back : (j k : ℕ) → w.wait j k ≡ true → waits_for (w.value (home j)) j k ≡ true

-- of each blocked process that is not declared, all is known of its ask
pub record AllKnown (home : ℕ → ℕ) (w : World) : Type 0 where
  pub holds : Holds home w
  pub marks : MarksFit home w
  pub known : (i : ℕ) → is_blocked (w.value (home i)) i ≡ true → (w.value (home i)).declared i ≡ false → Known home w i ((w.value (home i)).stamp i)

abbrev pub StepKeepsMarks : Type 0
StepKeepsMarks = (home : ℕ → ℕ) (w : World) (e : WorldEvent) (n : World) → Holds home w → MarksFit home w → Step home w e n → MarksFit home n

abbrev pub StepKeepsKnown : Type 0
StepKeepsKnown = (home : ℕ → ℕ) (w : World) (e : WorldEvent) (n : World) → AllKnown home w → Step home w e n → AllKnown home n

-- where a frame goes
abbrev pub FrameAt : (ℕ → ℕ) → ℕ → ℕ → Frame → Type 0
FrameAt home a b (Request j k) = (home j ≡ a) × (home k ≡ b)
FrameAt home a b (Reply_frame k j) = (home k ≡ a) × (home j ≡ b)
FrameAt home a b (Withdraw_frame j k) = (home j ≡ a) × (home k ≡ b)
FrameAt home a b (Probe i n j k) = (home j ≡ a) × (home k ≡ b)

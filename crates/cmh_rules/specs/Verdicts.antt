-- What the rules say of a start and of a probe, in terms of what a site holds of its members.
use Rattle.std.specs.Prelude.{◌≡◌, ℕ, Bool, true, false, List}
use Rattle.std.specs.FinSet as set
use Rattle.cmh_frames.specs.declared.frame.Frame.{Frame}
use Rattle.cmh_frames.specs.declared.frame.Frame.TheVariants.{Probe}
use Rattle.cmh_frames.specs.Relation.{Relation, has}
use Rattle.cmh_frames.specs.Paths.{ReachesAmong, DependsOnItselfAmong}
use Rattle.cmh_frames.specs.Rules.{AreOneForEach, probe_acts}
use Rattle.cmh_waits.specs.Held.{Held, is_member, IsMember}
use Rattle.cmh_rules.specs.declared.starts.StartVerdict.{StartVerdict}
use Rattle.cmh_rules.specs.declared.starts.StartVerdict.TheVariants.{Declared as Declared_at_start, Send}
use Rattle.cmh_rules.specs.declared.receipts.ProbeVerdict.{ProbeVerdict}
use Rattle.cmh_rules.specs.declared.receipts.ProbeVerdict.TheVariants.{Ignored, Declared, Forward}

-- p reaches q by waits of members for members
abbrev pub Reaches : Held → ℕ → ℕ → Type 0
Reaches v p q = ReachesAmong (λ r. IsMember v r) v.waits p q

-- one or more such waits lead from p to p
abbrev pub DependsOnItself : Held → ℕ → Type 0
DependsOnItself v p = DependsOnItselfAmong (λ r. IsMember v r) v.waits p

-- a wait for a process that is no member, of a member that `from` reaches
abbrev pub LeavesFrom : Held → ℕ → ℕ × ℕ → Type 0
LeavesFrom v from edge = Reaches v from edge.0 × (has v.waits edge.0 edge.1 ≡ true) × (is_member v edge.1 ≡ false)

-- the probe of `origin` along a wait
abbrev pub probe_along : ℕ → ℕ × ℕ → Frame
probe_along origin edge = Probe (origin, edge.0, edge.1)

-- the probes of `origin` along each wait that leaves the site from some of its members
abbrev pub AreProbesOf : Held → ℕ → (ℕ → Type 0) → List Frame → Type 0
AreProbesOf v origin Some frames =
    AreOneForEach (λ edge.
    Some edge.0 × (has v.waits edge.0 edge.1 ≡ true) × (is_member v edge.1 ≡ false)) (probe_along origin) frames

-- those along each wait that leaves the site from what `from` reaches
abbrev pub AreProbesFrom : Held → ℕ → ℕ → List Frame → Type 0
AreProbesFrom v origin from frames = AreOneForEach (LeavesFrom v from) (probe_along origin) frames

-- ---- the verdicts

-- what a start of a computation for i comes to
abbrev pub IsStart : Held → ℕ → StartVerdict → Type 0
IsStart v i Declared_at_start = DependsOnItself v i
IsStart v i (Send frames) = (¬ DependsOnItself v i) × AreProbesFrom v i i frames.items

-- whether a probe acts at a site that holds these
abbrev pub acts : Held → Relation → ℕ → ℕ → ℕ → Bool
acts v dependents origin from to =
    probe_acts (record { waits = v.waits; owed = v.owed; dependents = dependents; declared = set.empty }) origin from to

-- what the receipt of a probe of `origin`, sent by `from` to `to`, comes to
abbrev pub IsReceipt : Held → Relation → ℕ → ℕ → ℕ → ProbeVerdict → Type 0
IsReceipt v dependents origin from to Ignored = acts v dependents origin from to ≡ false
IsReceipt v dependents origin from to (Declared i) =
    (acts v dependents origin from to ≡ true) × (i ≡ origin) × Reaches v to origin
IsReceipt v dependents origin from to (Forward frames) =
    (acts v dependents origin from to ≡ true) × (¬ Reaches v to origin) × AreProbesFrom v origin to frames.items

-- A world that begins again where the sites of an older one began an epoch.
use Rattle.std.specs.Prelude.{◌≡◌, ◌≢◌, ℕ, ◌<◌, ◌≤◌, ⊤, Contains, List, [], ◌∷◌, map, None, Some}
use Rattle.std.specs.List.{All}
use Rattle.cmh_topology3.specs.Topology.{Topology, sites_of}
use Rattle.cmh_segment3.specs.declared.head.Head.{Head}
use Rattle.cmh_segment3.specs.declared.segment.Segment.{Segment}
use Rattle.cmh_audit3.specs.Set.{fault_or}
use Rattle.cmh_bases3.specs.Bases.{IsBaseOf}
use Rattle.cmh_history3.specs.Between.{AreAgreed, IsDisagreement}
use Rattle.cmh_history3.specs.EpochSet.{IsEpochSet}
use Rattle.cmh_restore3.specs.declared.checks.NotRestored.{NotRestored}
use Rattle.cmh_restore3.specs.declared.checks.NotRestored.TheVariants.{OtherWorld, NotBegun, Set, Base, Link, Memory}

-- ---- the journal of one site

-- The segment stands for an epoch: it is of this one or of a later one, and the one before it is of an earlier one. So where
-- the site jumped over the epoch, its next segment stands for it.
pub record StandsFor (epoch : ℕ) (head : Head) : Type 0 where
  pub before : head.header.before < epoch
  pub reached : epoch ≤ head.header.epoch

-- With this segment the journal of the site begins in the restored world: it is of that world and of the epoch, none is
-- before it, it has the base of the one that stands for the epoch, and no entry.
abbrev pub restored : Topology → ℕ → Head → Segment
restored t epoch head = record {
  header = record { site = head.header.site; world = t.world; epoch = epoch; before = 0 };
  base = head.base;
  entries = [];
}

-- ---- the journals of all sites

abbrev pub restored_all : Topology → ℕ → List Head → List Segment
restored_all t epoch heads = map (restored t epoch) heads

-- the world of the first segment
abbrev pub world_in : List Head → List ℕ
world_in [] = []
world_in (head ∷ heads) = head.header.world

-- the segments are of one world, and that is not this one
pub record AreOfOther (world : List ℕ) (heads : List Head) : Type 0 where
  pub one : All (λ (head : Head). head.header.world ≡ world_in heads) heads
  pub other : All (λ (head : Head). head.header.world ≢ world) heads

-- each segment begins with a state of the rules
abbrev pub BeginLawfully : Topology → List Segment → Type 0
BeginLawfully t segments = All (λ (g : Segment). IsBaseOf t g.header.site g.header.epoch g.base) segments

-- The sites can begin with these segments: each site of the world has just one, all are of one epoch, each begins with a
-- state of the rules, and they agree on what is under way.
pub record CanBegin (t : Topology) (segments : List Segment) : Type 0 where
  pub set : IsEpochSet t segments
  pub states : BeginLawfully t segments
  pub agreed : AreAgreed (sites_of t) segments

-- The world can be restored where these segments stand: they are those of another world, each stands for the epoch, and the
-- sites can begin with what is made of them.
pub record CanBeRestored (t : Topology) (epoch : ℕ) (heads : List Head) : Type 0 where
  pub world : AreOfOther t.world heads
  pub stand : All (StandsFor epoch) heads
  pub begin : CanBegin t (restored_all t epoch heads)

-- ---- why it can't

-- the site's segment begins with no state of the rules
pub record HasNoState (t : Topology) (segments : List Segment) (site : ℕ) : Type 0 where
  pub segment : Segment
  pub there : Contains segments segment
  pub of_site : segment.header.site ≡ site
  pub no_state : ¬ IsBaseOf t site segment.header.epoch segment.base

-- one of the segments does, or memory ran out
abbrev pub IsFaultOfBase : Topology → List Segment → NotRestored → Type 0
IsFaultOfBase t segments (Base site) = HasNoState t segments site
IsFaultOfBase t segments Memory = ⊤
IsFaultOfBase t segments OtherWorld = ⊥
IsFaultOfBase t segments NotBegun = ⊥
IsFaultOfBase t segments (Set fault) = ⊥
IsFaultOfBase t segments (Link link) = ⊥

-- What is wrong, in the words of an audit. Each of these contradicts that the world can be restored, but for memory.
abbrev pub IsWhyNot : Topology → ℕ → List Head → NotRestored → Type 0
IsWhyNot t epoch heads OtherWorld = ¬ AreOfOther t.world heads
IsWhyNot t epoch heads NotBegun = ¬ All (StandsFor epoch) heads
IsWhyNot t epoch heads (Set fault) = fault_or t (restored_all t epoch heads) None ≡ Some fault
IsWhyNot t epoch heads (Base site) = HasNoState t (restored_all t epoch heads) site
IsWhyNot t epoch heads (Link link) = IsDisagreement (sites_of t) (restored_all t epoch heads) link
IsWhyNot t epoch heads Memory = ⊤

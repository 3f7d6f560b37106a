-- What an audit of epochs in their order finds.
use Rattle.std.specs.Prelude.{◌≡◌, ℕ, ◌+◌, List, take, slice_get, Some}
use Rattle.std.specs.List.{All}
use Rattle.cmh_controller3.specs.Controller.{Controller}
use Rattle.cmh_merge.specs.Queues.{Queues, waiting}
use Rattle.cmh_model3.specs.declared.frame.Message.{Message}
use Rattle.cmh_topology3.specs.Topology.{Topology, sites_of}
use Rattle.cmh_segment3.specs.declared.segment.Segment.{Segment}
use Rattle.cmh_bases3.specs.Bases.{IsBaseOf}
use Rattle.cmh_history3.specs.Between.{AreAgreed}
use Rattle.cmh_history3.specs.Worlds.{ComeFromRun}
use Rattle.cmh_history3.specs.Chains.{AreOneRun, epoch_of}
use Rattle.cmh_history3.specs.Follows.{IsEndOf}
use Rattle.cmh_history3.specs.Says.{SayEnd}
use Rattle.cmh_history3.specs.declared.chain.ChainVerdict.{ChainVerdict}
use Rattle.cmh_history3.specs.declared.chain.ChainVerdict.TheVariants.{Accepted, Refused, Apart}

-- ---- one epoch

-- each site can begin with its base
abbrev pub CanBegin : Topology → List Segment → Type 0
CanBegin t segments = All (λ (g : Segment). IsBaseOf t g.header.site g.header.epoch g.base) segments

-- The segments are an epoch from their bases: each site can begin with its own, they agree on all links, and the entries come
-- from a run from them.
pub record IsEpochFrom (t : Topology) (segments : List Segment) : Type 0 where
  pub begin : CanBegin t segments
  pub links : AreAgreed (sites_of t) segments
  pub run : ComeFromRun t segments

-- ---- epochs

-- The epochs before this place are one run, and the one at this place is no epoch from its bases.
pub record IsRefused (t : Topology) (epochs : List (List Segment)) (place : ℕ) : Type 0 where
  pub segments : List Segment
  pub there : slice_get epochs place ≡ Some segments
  pub before : AreOneRun t (take place epochs)
  pub none : ¬ IsEpochFrom t segments

-- The epochs before this place are one run. Its last epoch ends where these controllers stand, with this under way, and the
-- bases of the epoch at this place do not say that.
pub record IsApart (t : Topology) (epochs : List (List Segment)) (place : ℕ) : Type 0 where
  pub front : ℕ
  pub is_next : place ≡ front + 1
  pub segments : List Segment
  pub last : slice_get epochs front ≡ Some segments
  pub next : List Segment
  pub there : slice_get epochs place ≡ Some next
  pub before : AreOneRun t (take place epochs)
  pub controllers : List Controller
  pub queues : Queues Message
  pub end : IsEndOf t segments controllers queues
  pub unsaid : ¬ SayEnd (sites_of t) controllers (waiting queues) (epoch_of next) next

-- what the verdict says of the epochs
abbrev pub Finds : Topology → List (List Segment) → ChainVerdict → Type 0
Finds t epochs Accepted = AreOneRun t epochs
Finds t epochs (Refused place) = IsRefused t epochs place
Finds t epochs (Apart place) = IsApart t epochs place

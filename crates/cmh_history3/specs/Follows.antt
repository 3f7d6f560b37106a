-- What the end of an epoch is, of which the next bases say that they follow.
use Rattle.std.specs.Prelude.{◌≡◌, ℕ, true, List}
use Rattle.cmh_controller3.specs.Controller.{Controller}
use Rattle.cmh_merge.specs.Queues.{Queues, waiting}
use Rattle.cmh_model3.specs.declared.frame.Message.{Message}
use Rattle.cmh_topology3.specs.Topology.{Topology, is_site, site_of}
use Rattle.cmh_segment3.specs.declared.segment.Segment.{Segment}
use Rattle.cmh_segment3.specs.WholeEntries.{IsWithin}
use Rattle.cmh_history3.specs.EpochSet.{IsEpochSet}
use Rattle.cmh_history3.specs.Turns.{Follow}
use Rattle.cmh_history3.specs.Verdicts.{IsEnd}
use Rattle.cmh_history3.specs.Worlds.{end_of, state_at}

-- each site begins in a state of the rules, as each does of whose base there is a controller
abbrev pub BeginWithin : Topology → List Segment → Type 0
BeginWithin t segments = (s : ℕ) → is_site t s ≡ true → IsWithin (site_of t) s (state_at segments s)

-- An epoch with these segments, which begin in states of the rules, ends where the controllers stand, with this under way.
pub record IsEndOf (t : Topology) (segments : List Segment) (controllers : List Controller) (queues : Queues Message) : Type 0 where
  pub set : IsEpochSet t segments
  pub within : BeginWithin t segments
  pub order : List ℕ
  pub end : IsEnd t segments order controllers queues

-- the next segments follow each epoch that ends there
abbrev pub FollowAll : Topology → List Controller → Queues Message → ℕ → List Segment → Type 0
FollowAll t controllers queues epoch next =
    (segments : List Segment) → IsEndOf t segments controllers queues
    → Follow t (end_of t segments (waiting queues)) epoch next

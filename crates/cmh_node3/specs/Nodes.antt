-- A site with its links: what contracts see of it, and what holds of it between two calls.
use Rattle.std.specs.Prelude.{◌≡◌, ◌≢◌, ℕ, ◌<◌, Bool, false, List, [], ◌++◌, length, map, slice_index_or, Option, None, Some}
use Rattle.std.specs.List.Sorted.{IsStrictlyIncreasing}
use Rattle.cmh_journaled.specs.Keepers.{Unsent, unsent}
use Rattle.cmh_journaled.specs.Stories.{IsStory, Journaled}
use Rattle.cmh_model3.specs.Entries.{Entry as Step}
use Rattle.cmh_model3.specs.Journals.{sendings_of}
use Rattle.cmh_model3.specs.declared.event.Event.{Event}
use Rattle.cmh_model3.specs.declared.frame.Message.{Message}
use Rattle.cmh_runs.specs.Runs.{IsBeginningOf}
use Rattle.cmh_segment3.specs.declared.links.LinkState.{LinkState}
use Rattle.cmh_segment3.specs.declared.links.Outgoing.{Outgoing}
use Rattle.cmh_station3.specs.Machines.{Machine, site_of_machine}
use Rattle.cmh_station3.specs.Sites.{meaning_of}
use Rattle.cmh_station3.specs.declared.beginning.Beginning.{Beginning}
use Rattle.cmh_station3.specs.Files.{Held}
use Rattle.cmh_station3.specs.Logs.{SegmentLog, log_meaning}
use Rattle.cmh_resume3.specs.Sender.{Sender, StandsSince}
use Rattle.cmh_node3.specs.Links.{got_since, link_at}
use Rattle.cmh_node3.specs.declared.peer.Peer.{Peer}
use Rattle.cmh_node3.specs.declared.sealed.Sealed.{Sealed}
use Rattle.cmh_node3.specs.declared.sealed.Sealed.TheVariants.{Memory}

-- The number of its world and its own; its station; the other sites, ascending, each with the two ends here of its links;
-- why it has stopped for good; and the entries that the last call added that took events.
pub record Node (File : Type 0) : Type 0 where
  pub world : List ℕ
  pub site : ℕ
  pub station : Journaled Beginning Machine (Unsent Event Message) (SegmentLog File)
  pub peers : List Peer
  pub others : List ℕ
  pub sealed : Option Sealed
  pub last : List Step

-- the epoch in which it is
abbrev pub epoch_of : {File : Type 0} → Node File → ℕ
epoch_of n = n.station.base.epoch

-- the links of the base with which its journal begins
abbrev pub base_links : {File : Type 0} → Node File → List LinkState
base_links n = n.station.base.base.links

-- none before any call took events
abbrev pub kept_last : Option (List Step) → List Step
kept_last None = []
kept_last (Some steps) = steps

-- the peer at a place
abbrev pub AtPlace : {File : Type 0} → Node File → ℕ → (Peer → Type 0) → Type 0
AtPlace n place P = (d : Peer) → P (slice_index_or n.peers place d)

-- the messages that a sender's end was given, behind what a base says was sent
abbrev pub StandsBehind : Outgoing → Sender → List Message → Type 0
StandsBehind out s given = StandsSince out.acked out.mark s (out.kept ++ given)

-- What a peer's ends have is what the base with these links says, and then what the journal of these steps has. Its sender's
-- end was given what was sent to it, all of it unless the site was sealed for memory; its receiver's end counts what was got
-- from it, all of it synced.
pub record Fits (links : List LinkState) (sealed : Option Sealed) (steps : List Step) (p : Peer) : Type 0 where
  pub given : List Message
  pub stands : StandsBehind (link_at links p.site).out p.out given
  pub begins : IsBeginningOf given (sendings_of p.site steps)
  pub all : sealed ≢ Some Memory → given ≡ sendings_of p.site steps
  pub counted : p.into.got ≡ (got_since links steps p.site).got
  pub marked : p.into.mark ≡ (got_since links steps p.site).mark
  pub synced : p.into.unsynced ≡ 0

module _ {File : Type 0} (told : File → Option Held) (has_failed : File → Bool) where
  abbrev pub HasStory : Journaled Beginning Machine (Unsent Event Message) (SegmentLog File) → List Step → Type 0
  HasStory station steps = IsStory (meaning_of site_of_machine) unsent (log_meaning told has_failed) station steps

  -- The journal has these steps, all of it is given to the ends, and the ends have just that, behind what its base says.
  pub record IsExact (n : Node File) (steps : List Step) : Type 0 where
    pub story : HasStory n.station steps
    pub none_waits : n.station.kept.waiting ≡ []
    pub ascending : IsStrictlyIncreasing n.others
    pub sites : map (λ (p : Peer). p.site) n.peers ≡ n.others
    pub fits : (k : ℕ) → k < length n.peers → AtPlace n k (Fits (base_links n) n.sealed steps)
    pub is_open : n.sealed ≡ None → n.station.sealed ≡ false

  -- whatever its journal had, it has, and the ends still have just that
  abbrev pub StaysExact : Node File → Node File → Type 0
  StaysExact a b = (steps : List Step) → IsExact a steps → IsExact b steps

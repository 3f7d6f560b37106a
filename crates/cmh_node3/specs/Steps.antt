-- How a site takes events, those of its own processes and the messages that come to it.
use Rattle.std.specs.Prelude.{◌≡◌, ◌≢◌, ℕ, ◌+◌, ◌&&◌, Bool, true, false, if◌then◌else◌, List, [], ◌∷◌, ◌++◌, length, map, take, slice_index_or, Option, None, Some, Result, Ok, Err}
use Rattle.std.specs.List.{list_any}
use Rattle.cmh_journaled.specs.Batches.{AreUntilRefused, SealedAll, SteppedAll, made}
use Rattle.cmh_journaled.specs.Keepers.{Unsent, unsent}
use Rattle.cmh_journaled.specs.Steps as journaled
use Rattle.cmh_journaled.specs.Steps.{HandedOver}
use Rattle.cmh_journaled.specs.Stories.{Journaled}
use Rattle.cmh_journaled.specs.declared.refusal.Refusal.{Refusal as Reason}
use Rattle.cmh_journaled.specs.declared.refusal.Refusal.TheVariants as reason
use Rattle.cmh_journaled.specs.declared.refusal.Refusal.TheVariants.{Rule}
use Rattle.cmh_controller3.specs.declared.outcome.Outcome.{Outcome}
use Rattle.cmh_controller3.specs.declared.refusal.Refusal.{Refusal}
use Rattle.cmh_model3.specs.Entries.{Entry as Step}
use Rattle.cmh_model3.specs.declared.event.Event.{Event}
use Rattle.cmh_model3.specs.declared.event.Event.TheVariants.{Ask, Got}
use Rattle.cmh_model3.specs.declared.frame.Message.{Message}
use Rattle.cmh_station3.specs.Machines.{Machine, site_of_machine}
use Rattle.cmh_station3.specs.Sites.{meaning_of}
use Rattle.cmh_station3.specs.declared.beginning.Beginning.{Beginning}
use Rattle.cmh_station3.specs.Files.{Held}
use Rattle.cmh_station3.specs.Logs.{SegmentLog, log_meaning}
use Rattle.cmh_topology3.specs.Topology.{Topology, sites_of}
use Rattle.cmh_node3.specs.Peers.{AtEach, IsGiven, IsGivenPart, keeps_many, others}
use Rattle.cmh_node3.specs.Links.{met_from}
use Rattle.cmh_node3.specs.PeerChanges.{ChangesInto, IsReceived}
use Rattle.cmh_node3.specs.declared.peer.Peer.{Peer}
use Rattle.cmh_node3.specs.Nodes.{IsExact, Node, StaysExact}
use Rattle.cmh_node3.specs.declared.receiving.NotTaken.{NotTaken}
use Rattle.cmh_node3.specs.declared.receiving.NotTaken.TheVariants as taking
use Rattle.cmh_node3.specs.declared.receiving.Taken.{Taken}
use Rattle.cmh_node3.specs.declared.sealed.Sealed.{Sealed}
use Rattle.cmh_node3.specs.declared.sealed.Sealed.TheVariants.{Disk, Memory, Mismatch}
use Rattle.cmh_node3.specs.declared.settling.StepFault.{StepFault}
use Rattle.cmh_node3.specs.declared.settling.StepFault.TheVariants as fault
use Rattle.cmh_node3.specs.declared.stepping.NotStepped.{NotStepped}
use Rattle.cmh_node3.specs.declared.stepping.NotStepped.TheVariants as stepping

-- an event of the site's own processes: no message that came
abbrev pub IsOwn : Event → Type 0
IsOwn (Got from clock frame) = ⊥
IsOwn event = Unit {0}

-- an ask, or a start, which is one that names nobody
abbrev pub is_ask : Event → Bool
is_ask (Ask asker targets) = true
is_ask event = false

-- a message that came from a site, as an event
abbrev pub got_event : ℕ → Message → Event
got_event from message = Got from message.clock message.frame

-- the site of the peer at a place, where the connection has the claim of the link from it
abbrev pub IsClaimant : List Peer → ℕ → ℕ → Option ℕ → Type 0
IsClaimant peers place line (Some site) = (d : Peer)
    → ((slice_index_or peers place d).site ≡ site) × ((slice_index_or peers place d).into.claim ≡ Some line)
IsClaimant peers place line None = (d : Peer) → (slice_index_or peers place d).into.claim ≢ Some line

-- The sender's ends were given what these steps sent; or, where memory for it was refused, each a beginning of it.
abbrev pub GivenSo : Option Sealed → List Step → List Peer → List Peer → Type 0
GivenSo None steps a b = AtEach (IsGiven steps) a b
GivenSo (Some Memory) steps a b = AtEach (IsGivenPart steps) a b
GivenSo (Some Disk) steps a b = ⊥
GivenSo (Some (Mismatch peer mismatch)) steps a b = ⊥

-- how many of some answers say that their event was accepted, and whether one says that the rules refuse it
abbrev pub is_accepted : Result Outcome (Reason Refusal) → Bool
is_accepted (Ok outcome) = true
is_accepted (Err reason) = false

abbrev pub accepted : List (Result Outcome (Reason Refusal)) → ℕ
accepted [] = 0
accepted (answer ∷ answers) = if is_accepted answer then accepted answers + 1 else accepted answers

abbrev pub is_unlawful : Result Outcome (Reason Refusal) → Bool
is_unlawful (Err (Rule refusal)) = true
is_unlawful answer = false

-- the fault of a refusal of a whole call, and how the site is sealed by it
abbrev pub fault_of : Reason Refusal → StepFault
fault_of reason.Memory = fault.Memory
fault_of other = fault.Disk

abbrev pub sealed_by_fault : StepFault → Option Sealed
sealed_by_fault fault.Memory = None
sealed_by_fault fault.Disk = Some Disk

module _ {File : Type 0} (told : File → Option Held) (has_failed : File → Bool) where
  abbrev pub Station : Type 0
  Station = Journaled Beginning Machine (Unsent Event Message) (SegmentLog File)

  abbrev pub entries_made : List Event → List (Result Outcome (Reason Refusal)) → List Step
  entries_made events answers = made (meaning_of site_of_machine) events answers

  -- The station took events, and what it sent was handed over, all of it synced.
  pub record StationSteps (a : Station) (events : List Event) (answers : List (Result Outcome (Reason Refusal)))
      (b : Station) : Type 0 where
    pub between : Station
    pub stepped : SteppedAll (meaning_of site_of_machine) unsent (log_meaning told has_failed) a events answers between
    pub handed : HandedOver unsent between between.kept.waiting b

  -- A site begins with the journal of its station, whose frames all waited: its peers are the other sites of the topology,
  -- met by the links of the base and by the journal, and their sender's ends were given what it sent.
  pub record BeginsAs (t : Topology) (s : ℕ) (station : Station) (n : Node File) : Type 0 where
    pub world : n.world ≡ t.world
    pub site : n.site ≡ s
    pub others_are : n.others ≡ others s (sites_of t)
    pub handed : HandedOver unsent station station.kept.waiting n.station
    pub none_last : n.last ≡ []
    pub given : GivenSo n.sealed station.kept.waiting (map (met_from station.base.base.links station.kept.waiting) n.others) n.peers
    pub exact : IsExact told has_failed n station.kept.waiting

  -- The site took events of its own processes: each was answered, what was accepted stands in the journal, behind what was
  -- there, and what it sent was given to the sender's ends.
  pub record StepsAll (a : Node File) (events : List Event) (answers : List (Result Outcome (Reason Refusal)))
      (b : Node File) : Type 0 where
    pub was_open : a.sealed ≡ None
    pub allowed : (list_any is_ask events && list_any keeps_many a.peers) ≡ false
    pub station : StationSteps a.station events answers b.station
    pub given : GivenSo b.sealed (entries_made events answers) a.peers b.peers
    pub last : b.last ≡ entries_made events answers
    pub rest : b ≡ record a { station = b.station; peers = b.peers; sealed = b.sealed; last = b.last }
    pub exact : (steps : List Step) → IsExact told has_failed a steps
        → IsExact told has_failed b (steps ++ entries_made events answers)

  -- nothing but memory has changed
  pub record IsSame (a b : Node File) : Type 0 where
    pub station : journaled.IsSame (meaning_of site_of_machine) unsent (log_meaning told has_failed) a.station b.station
    pub rest : b ≡ record a { station = b.station }
    pub exact : StaysExact told has_failed a b

  -- The journal failed at the entries of events: the site is sealed, and but for the journal's file nothing has changed.
  pub record Fails (a : Node File) (events : List Event) (b : Node File) : Type 0 where
    pub station : SealedAll (meaning_of site_of_machine) unsent (log_meaning told has_failed) a.station events b.station
    pub rest : b ≡ record a { station = b.station; sealed = Some Disk }
    pub exact : StaysExact told has_failed a b

  -- what a fault leaves
  abbrev pub FailsSo : Node File → List Event → StepFault → Node File → Type 0
  FailsSo a events fault.Memory b = IsSame a b
  FailsSo a events fault.Disk b = Fails a events b

  -- why none of the events was taken
  abbrev pub NotSteps : Node File → List Event → NotStepped → Node File → Type 0
  NotSteps a events stepping.Sealed b = (a.sealed ≢ None) × (b ≡ a)
  NotSteps a events stepping.Behind b =
      (a.sealed ≡ None) × (list_any is_ask events ≡ true) × (list_any keeps_many a.peers ≡ true) × (b ≡ a)
  NotSteps a events (stepping.Failed why) b = (a.sealed ≡ None) × FailsSo a events why b

  -- ---- messages that came

  -- The site took messages that came on the claimed connection, each in its turn, up to the first that is refused. Those that
  -- were accepted stand in the journal and count as got; where the rules refused one, the link is closed for good.
  pub record Takes (place line : ℕ) (messages : List Message) (now : ℕ) (a : Node File) (taken : Taken) (b : Node File)
      : Type 0 where
    pub was_open : a.sealed ≡ None
    pub between : List Peer
    pub at_end : ChangesInto place (IsReceived (take taken.count messages) now taken.closed) a.peers between
    pub claimed : at_end.peer.into.claim ≡ Some line
    pub answers : List (Result Outcome (Reason Refusal))
    pub station : StationSteps a.station (take (length answers) (map (got_event at_end.peer.site) messages)) answers b.station
    pub until : AreUntilRefused (map (got_event at_end.peer.site) messages) answers
    pub count : taken.count ≡ accepted answers
    pub closed : taken.closed ≡ list_any is_unlawful answers
    pub given : GivenSo b.sealed (entries_made (take (length answers) (map (got_event at_end.peer.site) messages)) answers)
        between b.peers
    pub last : b.last ≡ entries_made (take (length answers) (map (got_event at_end.peer.site) messages)) answers
    pub rest : b ≡ record a { station = b.station; peers = b.peers; sealed = b.sealed; last = b.last }
    pub exact : (steps : List Step) → IsExact told has_failed a steps → IsExact told has_failed b
        (steps ++ entries_made (take (length answers) (map (got_event at_end.peer.site) messages)) answers)

  -- They came on the claimed connection, and their entries were not kept.
  pub record FailsToTake (place line : ℕ) (messages : List Message) (a : Node File) (why : StepFault) (b : Node File)
      : Type 0 where
    pub was_open : a.sealed ≡ None
    pub from : ℕ
    pub claimed : IsClaimant a.peers place line (Some from)
    pub fails : FailsSo a (map (got_event from) messages) why b

  -- why none of them was taken
  abbrev pub NotTakes : ℕ → ℕ → List Message → Node File → NotTaken → Node File → Type 0
  NotTakes place line messages a taking.Sealed b = (a.sealed ≢ None) × (b ≡ a)
  NotTakes place line messages a taking.Stale b = (a.sealed ≡ None) × IsClaimant a.peers place line None × (b ≡ a)
  NotTakes place line messages a (taking.Failed why) b = FailsToTake place line messages a why b

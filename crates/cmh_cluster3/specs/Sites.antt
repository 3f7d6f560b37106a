-- The sites of a cluster, ascending, each of which runs or is down, and what becomes of them.
use Rattle.std.specs.Prelude.{◌≡◌, ◌≢◌, ◌⊎◌, ℕ, Bool, List, [], ◌∷◌, slice_get, slice_set, Option, None, Some, Result, ⊤}
use Rattle.std.specs.List.{AllZip}
use Rattle.cmh_controller3.specs.Controller.{state_of}
use Rattle.cmh_controller3.specs.declared.outcome.Outcome.{Outcome}
use Rattle.cmh_controller3.specs.declared.refusal.Refusal.{Refusal}
use Rattle.cmh_journaled.specs.Keepers.{Unsent}
use Rattle.cmh_journaled.specs.Stories.{Journaled}
use Rattle.cmh_journaled.specs.declared.refusal.Refusal.{Refusal as Reason}
use Rattle.cmh_links3.specs.Growing.{Grows}
use Rattle.cmh_station3.specs.Files.{Held}
use Rattle.cmh_station3.specs.Logs.{SegmentLog}
use Rattle.cmh_station3.specs.Machines.{Machine}
use Rattle.cmh_station3.specs.declared.beginning.Beginning.{Beginning}
use Rattle.cmh_model3.specs.declared.event.Event.{Event as TheEvent}
use Rattle.cmh_model3.specs.declared.event.Event.TheVariants as events
use Rattle.cmh_model3.specs.declared.frame.Message.{Message}
use Rattle.cmh_node3.specs.Nodes.{Node}
use Rattle.cmh_node3.specs.Steps.{BeginsAs, IsOwn, NotSteps, StepsAll}
use Rattle.cmh_node3.specs.declared.stepping.NotStepped.{NotStepped}
use Rattle.cmh_station3.specs.Opening.{Opened}
use Rattle.cmh_talk3.specs.Answers.{Answers, standing_of}
use Rattle.cmh_talk3.specs.Numbers.{reply_of, reply_of_none}
use Rattle.cmh_talk3.specs.declared.deed.Deed.{Deed}
use Rattle.cmh_talk3.specs.declared.deed.Deed.TheVariants.{Event, WithdrawAll}
use Rattle.cmh_talk3.specs.declared.deed.Question.{Question}
use Rattle.cmh_talk3.specs.declared.reply.EventReply.{EventReply}
use Rattle.cmh_talk3.specs.declared.reply.Reply.{Reply}
use Rattle.cmh_topology3.specs.Topology.{Topology, sites_of}

-- ---- events

-- the process whose site an event is for; none of a message that came, which no line says
abbrev pub process_of : Deed → Option ℕ
process_of (WithdrawAll process) = Some process
process_of (Event (events.Ask asker targets)) = Some asker
process_of (Event (events.Withdraw asker targets)) = Some asker
process_of (Event (events.Reply holder asker)) = Some holder
process_of (Event other) = None

abbrev pub IsOwnDeed : Deed → Type 0
IsOwnDeed (WithdrawAll process) = ⊤
IsOwnDeed (Event event) = IsOwn event

-- ---- places

-- no site runs at the place
abbrev pub IsDown : {Site : Type 0} → List (Option Site) → ℕ → Type 0
IsDown {Site} sites place = (site : Site) → slice_get sites place ≢ Some (Some site)

-- one does
abbrev pub IsUp : {Site : Type 0} → List (Option Site) → ℕ → Type 0
IsUp {Site} sites place = (site : Site) × (slice_get sites place ≡ Some (Some site))

module _ {File : Type 0} (told : File → Option Held) (has_failed : File → Bool) where
  -- ---- one site

  -- the site took the event, and replied so; or it took none, and replied why
  abbrev pub Steps : Node File → TheEvent → EventReply → Node File → Type 0
  Steps a event reply b =
      ((answer : Result Outcome (Reason Refusal)) × StepsAll told has_failed a (event ∷ []) (answer ∷ []) b × (reply ≡ reply_of answer))
      ⊎ ((why : NotStepped) × NotSteps told has_failed a (event ∷ []) why b × (reply ≡ reply_of_none why))

  -- who gives up all waits gives up those that it has then
  abbrev pub Acts : Node File → Deed → EventReply → Node File → Type 0
  Acts a (Event event) reply b = Steps a event reply b
  Acts a (WithdrawAll process) reply b =
      Steps a (events.Withdraw process ((state_of a.station.machine.controller).waits process)) reply b

  -- it stands on the journal of the site, as it was opened
  pub record Starts (t : Topology) (site : ℕ) (n : Node File) : Type 0 where
    pub before : Option Held
    pub station : Journaled Beginning Machine (Unsent TheEvent Message) (SegmentLog File)
    pub opened : Opened told has_failed t site before station
    pub begins : BeginsAs told has_failed t site station n

  -- ---- all sites

  -- a site that runs goes on, and its journal has what it had; one that is down stays so
  abbrev pub GoesOn : Option (Node File) → Option (Node File) → Type 0
  GoesOn None b = b ≡ None
  GoesOn (Some a) None = ⊥
  GoesOn (Some a) (Some b) = Grows told has_failed a b

  pub record AllGoOn (xs ys : List (Option (Node File))) : Type 0 where
    pub each : AllZip GoesOn xs ys

  -- the site at a place took an event
  pub record ActsAt (place : ℕ) (deed : Deed) (reply : EventReply) (a b : List (Option (Node File))) : Type 0 where
    pub before : Node File
    pub after : Node File
    pub there : slice_get a place ≡ Some (Some before)
    pub acts : Acts before deed reply after
    pub leaves : b ≡ slice_set a place (Some after)

  -- it answered a question
  pub record TellsAt (place : ℕ) (question : Question) (reply : Reply) (a : List (Option (Node File))) : Type 0 where
    pub site : Node File
    pub there : slice_get a place ≡ Some (Some site)
    pub answers : Answers (standing_of site (record { clients = 0 })) question reply

  -- it was killed: its connections ended, which others noticed
  pub record Killed (place : ℕ) (a b : List (Option (Node File))) : Type 0 where
    pub between : List (Option (Node File))
    pub noticed : AllGoOn a between
    pub leaves : b ≡ slice_set between place None

  -- it was started on its journal
  pub record Started (t : Topology) (place site : ℕ) (a b : List (Option (Node File))) : Type 0 where
    pub new : Node File
    pub starts : Starts t site new
    pub leaves : b ≡ slice_set a place (Some new)

  -- all run, each as it was opened
  abbrev pub AllStart : Topology → List (Option (Node File)) → Type 0
  AllStart t nodes = AllZip (λ site node. (new : Node File) × (node ≡ Some new) × Starts t site new) (sites_of t) nodes

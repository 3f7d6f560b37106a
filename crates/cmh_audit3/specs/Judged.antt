-- What the entries of segments come to, where each site begins in some state and messages are under way.
use Rattle.std.specs.Prelude.{◌≡◌, ℕ, ◌≤◌, List, [], ◌++◌, length, map}
use Rattle.std.specs.List.{AllByRecursion}
use Rattle.std.specs.List.Sorted.{IsStrictlyIncreasing}
use Rattle.cmh_merge.specs.Merges.{IsInOrderFrom}
use Rattle.cmh_merge.specs.Queues.{waiting}
use Rattle.cmh_model3.specs.Entries.{WorldEvent}
use Rattle.cmh_model3.specs.Journals.{LawfulFrom, message_from}
use Rattle.cmh_model3.specs.Runs.{IsBeginningOf, entries_of, receipts, sendings}
use Rattle.cmh_model3.specs.State.{State}
use Rattle.cmh_model3.specs.declared.frame.Message.{Message}
use Rattle.cmh_topology3.specs.Topology.{Topology, site_of}
use Rattle.cmh_segment3.specs.declared.segment.Segment.{Segment}
use Rattle.cmh_segment3.specs.Steps.{entries_from}
use Rattle.cmh_audit3.specs.declared.judgement.Judged.{Judged}
use Rattle.cmh_audit3.specs.declared.stops.Stop.{Stop}
use Rattle.cmh_audit3.specs.Journals.{journal_of}
use Rattle.cmh_audit3.specs.Standing.{StandBehind}
use Rattle.cmh_audit3.specs.Stops.{IsStopFrom, before_stop}

-- Each site's entries are lawful from its state, and at every moment what came on a link is a beginning of what was under
-- way on it at first and was sent since.
pub record AreInOrder (t : Topology) (states : ℕ → State) (first : ℕ → ℕ → List Message) (events : List WorldEvent) : Type 0 where
  pub lawful : (s : ℕ) → LawfulFrom (site_of t) s (states s) (entries_of s events)
  pub in_order : IsInOrderFrom message_from first events

-- The entries before the stops stand in this order, and no such order has more. Where there is no stop, these are all entries.
pub record IsJudgement (t : Topology) (states : ℕ → State) (first : ℕ → ℕ → List Message) (segments : List Segment) (judged : Judged) : Type 0 where
  pub events : List WorldEvent
  pub in_turn : map (λ (e : WorldEvent). e.site) events ≡ judged.order
  pub run : AreInOrder t states first events
  pub kept : (s : ℕ) → entries_from (states s).clock (entries_of s events) ≡ before_stop judged.stops s (journal_of segments s)
  pub under_way : (a b : ℕ) → receipts a b events ++ waiting judged.queues a b ≡ first a b ++ sendings a b events
  pub ascending : IsStrictlyIncreasing (map (λ (stop : Stop). stop.site) judged.stops)
  pub each : AllByRecursion (IsStopFrom t states segments) judged.stops
  pub most : (others : List WorldEvent) → AreInOrder t states first others
      → ((s : ℕ) → IsBeginningOf (entries_from (states s).clock (entries_of s others)) (journal_of segments s))
      → (s : ℕ) → length (entries_of s others) ≤ length (before_stop judged.stops s (journal_of segments s))
  pub stand : judged.stops ≡ [] → StandBehind t states segments judged.controllers.items

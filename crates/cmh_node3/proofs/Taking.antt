-- Events that a site takes, or does not.
use Rattle.std.proofs.Common.{◌≡◌, ◌≢◌, ℕ, ◌+◌, ◌^◌, ◌<◌, ◌&&◌, Bool, false, List, ◌++◌, length, map, take, get_or, Option, None, Some, refl, sym, ap, ◌∙◌, subst, arith}
use Rattle.std.specs.Prelude.{slice_set}
use Rattle.std.specs.List.{AllByRecursion, list_any}
use Rattle.cmh_journaled.specs.Batches.{AreUntilRefused, NotSteppedAll, SteppedAll}
use Rattle.cmh_journaled.specs.Keepers.{unsent}
use Rattle.cmh_journaled.specs.Steps.{HandedOver}
use Rattle.cmh_journaled.specs.declared.refusal.Refusal.{Refusal as Reason}
use Rattle.cmh_journaled.specs.declared.refusal.Refusal.TheVariants.{Sealed, Full, Rule, Memory as Memory_refused, Disk as Disk_failed}
use Rattle.cmh_controller3.specs.declared.refusal.Refusal.{Refusal}
use Rattle.cmh_model3.specs.Entries.{Entry as Step}
use Rattle.cmh_model3.specs.declared.event.Event.{Event}
use Rattle.cmh_model3.specs.declared.frame.Message.{Message}
use Rattle.cmh_station3.specs.Machines.{site_of_machine}
use Rattle.cmh_station3.specs.Sites.{meaning_of}
use Rattle.cmh_station3.specs.Files.{Held}
use Rattle.cmh_station3.specs.Logs.{log_meaning}
use Rattle.std.proofs.lemmas.List.{get_or_default}
use Rattle.std.proofs.lemmas.Option.{get_or_from_slice_get}
use Rattle.cmh_runs.proofs.Beginnings.{beginning_take, length-beginning}
use Rattle.cmh_resume3.specs.Receiver.{Receiver}
use Rattle.cmh_node3.specs.PeerChanges.{ChangesInto, IsReceived}
use Rattle.cmh_node3.specs.Peers.{keeps_many, received}
use Rattle.cmh_node3.specs.declared.peer.Peer.{Peer}
use Rattle.cmh_node3.specs.Nodes.{HasStory, IsExact, Node}
use Rattle.cmh_node3.specs.Steps.{FailsSo, GivenSo, IsOwn, Station, StepsAll, IsClaimant, Takes, accepted, entries_made, fault_of, got_event, is_ask, is_unlawful, sealed_by_fault}
use Rattle.cmh_node3.specs.declared.receiving.Taken.{Taken}
use Rattle.cmh_node3.specs.declared.settling.StepFault.{StepFault}
use Rattle.cmh_node3.specs.declared.settling.StepFault.TheVariants as fault
use Rattle.cmh_node3.specs.declared.sealed.Sealed.{Sealed as Why}
use Rattle.cmh_node3.specs.declared.sealed.Sealed.TheVariants.{Disk, Memory}
use Rattle.cmh_node3.proofs.Answered.{Answers, handed_based, handed_open, own_receipts, receipts_elsewhere, receipts_here, still_based, still_open, until, waits}
use Rattle.cmh_node3.proofs.Growing.{AreCounted, counted_at, counted_own, exact_after, exact_still}

-- what is taken of messages that can be counted
pub can_count : (peers : List Peer) (place : ℕ) (p d : Peer) (messages first : List Message) (count : ℕ) → place < length peers → p ≡ get_or peers place p → p.into.got + length messages < 2 ^ 64
    → first ≡ take count messages → (get_or peers place d).into.got + length first < 2 ^ 64
can_count peers place p d messages first count inside is few front =
    let got = ap (λ (x : Peer). x.into.got) (get_or_default peers place d p inside ∙ sym is) in
    let less = length-beginning (take count messages) messages (beginning_take count messages) in
    let long = ap (λ (l : List Message). length l) front in
    omega (arith, few, got, less, long)

module _ {File : Type 0} (told : File → Option Held) (has_failed : File → Bool) where
  -- ---- where the call fails

  abbrev unsealed : Option Why
  unsealed = None

  abbrev by_disk : Option Why
  by_disk = Some Disk

  none_is_no_reason : (why : Why) → unsealed ≢ Some why
  none_is_no_reason why e = absurd (cc e)

  disk_is_no_memory : by_disk ≢ Some Memory
  disk_is_no_memory e = absurd (cc e)

  failed : (n : Node File) (steps : List Step) (events : List Event) (refusal : Reason Refusal) (station : Station told has_failed) → IsExact told has_failed n steps → n.sealed ≡ None
      → NotSteppedAll (meaning_of site_of_machine) unsent (log_meaning told has_failed) n.station events refusal station → ((es : List Step) → HasStory told has_failed n.station es → HasStory told has_failed station es)
      → FailsSo told has_failed n events (fault_of refusal) (record n { station = station; sealed = sealed_by_fault (fault_of refusal) })
  failed n steps events Sealed station e open_is not story = absurd (cc (sym not.0 ∙ e.is_open open_is))
  failed n steps events Full station e open_is not story = absurd not
  failed n steps events (Rule refusal) station e open_is not story = absurd not
  failed n steps events Memory_refused station e open_is not story = record {
    station = not.1;
    rest = ap (λ (s : Option Why). record n { station = station; sealed = s }) (sym open_is);
    exact = λ es x. exact_still told has_failed n es station None x open_is (story es x.story) not.1.kept.1 (none_is_no_reason Memory) (λ _. not.1.sealed) not.1.base;
  }
  failed n steps events Disk_failed station e open_is not story = record {
    station = not;
    rest = refl;
    exact = λ es x. exact_still told has_failed n es station (Some Disk) x open_is (story es x.story) not.was_sealed.kept.1 disk_is_no_memory (λ none. absurd (cc none)) not.was_sealed.base;
  }

  pub failed_by : (n : Node File) (steps : List Step) (events : List Event) (refusal : Reason Refusal) (station : Station told has_failed) (why : StepFault) (t : Option Why) → IsExact told has_failed n steps → n.sealed ≡ None
      → NotSteppedAll (meaning_of site_of_machine) unsent (log_meaning told has_failed) n.station events refusal station → ((es : List Step) → HasStory told has_failed n.station es → HasStory told has_failed station es)
      → why ≡ fault_of refusal → t ≡ sealed_by_fault why → FailsSo told has_failed n events why (record n { station = station; sealed = t })
  failed_by n steps events refusal station why t e open_is not story is seals =
      subst (λ (f : StepFault). FailsSo told has_failed n events f (record n { station = station; sealed = t })) (sym is)
      (subst (λ (x : Option Why). FailsSo told has_failed n events (fault_of refusal) (record n { station = station; sealed = x })) (sym (seals ∙ ap sealed_by_fault is))
      (failed n steps events refusal station e open_is not story))

  exact_so : (n b : Node File) (steps : List Step) (events : List Event) (why : StepFault) → FailsSo told has_failed n events why b → IsExact told has_failed n steps → IsExact told has_failed b steps
  exact_so n b steps events fault.Memory fails e = fails.exact steps e
  exact_so n b steps events fault.Disk fails e = fails.exact steps e

  -- what is exact before is exact after
  pub exact_failed : (n : Node File) (steps : List Step) (events : List Event) (refusal : Reason Refusal) (station : Station told has_failed) (why : StepFault) (t : Option Why) → IsExact told has_failed n steps → n.sealed ≡ None
      → NotSteppedAll (meaning_of site_of_machine) unsent (log_meaning told has_failed) n.station events refusal station → ((es : List Step) → HasStory told has_failed n.station es → HasStory told has_failed station es)
      → why ≡ fault_of refusal → t ≡ sealed_by_fault why → IsExact told has_failed (record n { station = station; sealed = t }) steps
  exact_failed n steps events refusal station why t e open_is not story is seals =
      exact_so n (record n { station = station; sealed = t }) steps events why (failed_by n steps events refusal station why t e open_is not story is seals) e

  -- ---- where it does not

  module _ (n : Node File) (events : List Event) (answers : Answers) (between after : Station told has_failed) (mid peers : List Peer) (t : Option Why) (l : List Step)
      (open_is : n.sealed ≡ None) (stepped : SteppedAll (meaning_of site_of_machine) unsent (log_meaning told has_failed) n.station events answers between)
      (story : (es : List Step) → HasStory told has_failed n.station es → HasStory told has_failed between (es ++ entries_made told has_failed events answers))
      (last : l ≡ between.kept.waiting) (handed : HandedOver unsent between between.kept.waiting after) (later : (es : List Step) → HasStory told has_failed between es → HasStory told has_failed after es)
      (given : GivenSo t between.kept.waiting mid peers) where
    abbrev more : List Step
    more = entries_made told has_failed events answers

    pub waits_now : (steps : List Step) → IsExact told has_failed n steps → between.kept.waiting ≡ more
    waits_now steps e = waits told has_failed n.station between more e.none_waits stepped.grew

    pub given_now : (steps : List Step) → IsExact told has_failed n steps → GivenSo t more mid peers
    given_now steps e = subst (λ (l : List Step). GivenSo t l mid peers) (waits_now steps e) given

    pub exact_now : (steps : List Step) → IsExact told has_failed n steps → AreCounted more n.peers mid → IsExact told has_failed (record n { station = after; peers = peers; sealed = t; last = l }) (steps ++ more)
    exact_now steps e counted =
        exact_after told has_failed n steps more mid peers after e open_is counted (later (steps ++ more) (story steps e.story)) handed.kept.1
        (handed_open told has_failed between after handed ∙ still_open told has_failed n.station between more (e.is_open open_is) stepped.grew)
        (handed_based told has_failed between after handed ∙ still_based told has_failed n.station between more stepped.grew) t l (given_now steps e)

    pub last_now : (steps : List Step) → IsExact told has_failed n steps → l ≡ more
    last_now steps e = last ∙ waits_now steps e

    synced_in : (steps : List Step) → IsExact told has_failed n steps → (k : ℕ) (d : Peer) → k < length n.peers → (get_or n.peers k d).into.unsynced ≡ 0
    synced_in steps e k d inside = (e.fits k inside d).synced

  -- events of the site's own processes
  pub steps_all : (n : Node File) (steps : List Step) (events : List Event) (answers : Answers) (between after : Station told has_failed) (peers : List Peer) (t : Option Why) (l : List Step)
      → n.sealed ≡ None → SteppedAll (meaning_of site_of_machine) unsent (log_meaning told has_failed) n.station events answers between
      → ((es : List Step) → HasStory told has_failed n.station es → HasStory told has_failed between (es ++ entries_made told has_failed events answers))
      → l ≡ between.kept.waiting → HandedOver unsent between between.kept.waiting after → ((es : List Step) → HasStory told has_failed between es → HasStory told has_failed after es)
      → GivenSo t between.kept.waiting n.peers peers
      → IsExact told has_failed n steps → AllByRecursion IsOwn events → (list_any is_ask events && list_any keeps_many n.peers) ≡ false
      → StepsAll told has_failed n events answers (record n { station = after; peers = peers; sealed = t; last = l })
  steps_all n steps events answers between after peers t l open_is stepped story last handed later given e own allowed = record {
    was_open = open_is;
    allowed = allowed;
    station = record { between = between; stepped = stepped; handed = handed };
    given = given_now n events answers between after n.peers peers t l open_is stepped story last handed later given steps e;
    last = last_now n events answers between after n.peers peers t l open_is stepped story last handed later given steps e;
    rest = refl;
    exact = λ es x. exact_now n events answers between after n.peers peers t l open_is stepped story last handed later given es x
        (counted_own (entries_made told has_failed events answers) n.peers (synced_in n events answers between after n.peers peers t l open_is stepped story last handed later given es x) (λ a. own_receipts told has_failed a events answers own));
  }

  -- messages that came
  pub takes : (n : Node File) (steps : List Step) (place line : ℕ) (messages : List Message) (now : ℕ) (taken : Taken) (answers : Answers) (between after : Station told has_failed) (mid peers : List Peer) (t : Option Why) (l : List Step)
      → n.sealed ≡ None → (c : ChangesInto place (IsReceived (take taken.count messages) now taken.closed) n.peers mid)
      → SteppedAll (meaning_of site_of_machine) unsent (log_meaning told has_failed) n.station (take (length answers) (map (got_event c.peer.site) messages)) answers between
      → AreUntilRefused (map (got_event c.peer.site) messages) answers
      → ((es : List Step) → HasStory told has_failed n.station es → HasStory told has_failed between (es ++ entries_made told has_failed (take (length answers) (map (got_event c.peer.site) messages)) answers))
      → l ≡ between.kept.waiting → HandedOver unsent between between.kept.waiting after → ((es : List Step) → HasStory told has_failed between es → HasStory told has_failed after es)
      → GivenSo t between.kept.waiting mid peers
      → IsExact told has_failed n steps → c.peer.into.claim ≡ Some line → taken.count ≡ accepted answers → taken.closed ≡ list_any is_unlawful answers
      → Takes told has_failed place line messages now n taken (record n { station = after; peers = peers; sealed = t; last = l })
  takes n steps place line messages now taken answers between after mid peers t l open_is c stepped refused story last handed later given e claimed count closed =
      let from = c.peer.site in
      let events : List Event = take (length answers) (map (got_event from) messages) in
      let more : List Step = entries_made told has_failed events answers in
      record {
        was_open = open_is;
        between = mid;
        at_end = c;
        claimed = claimed;
        answers = answers;
        station = record { between = between; stepped = stepped; handed = handed };
        until = refused;
        count = count;
        closed = closed;
        given = given_now n events answers between after mid peers t l open_is stepped story last handed later given steps e;
        last = last_now n events answers between after mid peers t l open_is stepped story last handed later given steps e;
        rest = refl;
        exact = λ es x. exact_now n events answers between after mid peers t l open_is stepped story last handed later given es x
            (subst (λ (l : List Peer). AreCounted more n.peers l) (sym (c.after ∙ ap (λ (r : Receiver). slice_set n.peers place (record c.peer { into = r })) c.changes))
            (counted_at more n.peers n.others place c.peer (take taken.count messages) now taken.closed x.ascending x.sites c.there
            (synced_in n events answers between after mid peers t l open_is stepped story last handed later given es x)
            (receipts_here told has_failed from messages answers (until told has_failed (map (got_event from) messages) answers refused) ∙ ap (λ (k : ℕ). take k messages) (sym count))
            (λ a far. receipts_elsewhere told has_failed a from messages (length answers) answers far)));
      }

  -- the same of events that are these messages
  pub takes_by : (n : Node File) (steps : List Step) (place line : ℕ) (messages first : List Message) (now : ℕ) (taken : Taken) (events : List Event) (from : ℕ) (answers : Answers) (between after : Station told has_failed)
      (mid peers : List Peer) (t : Option Why) (l : List Step)
      → n.sealed ≡ None → (c : ChangesInto place (IsReceived first now taken.closed) n.peers mid)
      → SteppedAll (meaning_of site_of_machine) unsent (log_meaning told has_failed) n.station (take (length answers) events) answers between
      → AreUntilRefused events answers
      → ((es : List Step) → HasStory told has_failed n.station es → HasStory told has_failed between (es ++ entries_made told has_failed (take (length answers) events) answers))
      → l ≡ between.kept.waiting → HandedOver unsent between between.kept.waiting after → ((es : List Step) → HasStory told has_failed between es → HasStory told has_failed after es)
      → GivenSo t between.kept.waiting mid peers
      → IsExact told has_failed n steps → IsClaimant n.peers place line (Some from) → taken.count ≡ accepted answers → taken.closed ≡ list_any is_unlawful answers
      → events ≡ map (got_event from) messages → first ≡ take taken.count messages
      → Takes told has_failed place line messages now n taken (record n { station = after; peers = peers; sealed = t; last = l })
  takes_by n steps place line messages first now taken events from answers between after mid peers t l open_is c stepped refused story last handed later given e claimed count closed are front =
      let here = get_or_from_slice_get n.peers place c.peer c.peer c.there in
      let whose = claimed c.peer in
      let site : c.peer.site ≡ from = ap (λ (p : Peer). p.site) (sym here) ∙ whose.0 in
      let has : c.peer.into.claim ≡ Some line = ap (λ (p : Peer). p.into.claim) (sym here) ∙ whose.1 in
      let all : events ≡ map (got_event c.peer.site) messages = are ∙ ap (λ (a : ℕ). map (got_event a) messages) (sym site) in
      let d : ChangesInto place (IsReceived (take taken.count messages) now taken.closed) n.peers mid = record {
        peer = c.peer;
        there = c.there;
        into = c.into;
        changes = c.changes ∙ ap (λ (ms : List Message). received ms now taken.closed c.peer.into) front;
        after = c.after;
      } in
      takes n steps place line messages now taken answers between after mid peers t l open_is d
      (subst (λ (l : List Event). SteppedAll (meaning_of site_of_machine) unsent (log_meaning told has_failed) n.station (take (length answers) l) answers between) all stepped)
      (subst (λ (l : List Event). AreUntilRefused l answers) all refused)
      (subst (λ (l : List Event). (es : List Step) → HasStory told has_failed n.station es → HasStory told has_failed between (es ++ entries_made told has_failed (take (length answers) l) answers)) all story)
      last handed later given e has count closed

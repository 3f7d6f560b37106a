-- Worked scripts over small topologies: the lists of events that come of them.
use Rattle.std.specs.Prelude.{ℕ, List, [], ◌∷◌, ◌++◌, Option, None, Some, take}
use Rattle.std.specs.FinSet as set
use Rattle.std.specs.List.{range_with_len}
use Rattle.cmh_frames.specs.declared.edition.Edition.{Edition}
use Rattle.cmh_frames.specs.declared.edition.Edition.TheVariants.{One}
use Rattle.cmh_frames.specs.declared.frame.Frame.{Frame}
use Rattle.cmh_frames.specs.declared.frame.Frame.TheVariants.{Request, Reply as Reply_frame, Probe}
use Rattle.cmh_frames.specs.Topology.{Topology}
use Rattle.cmh_frames.specs.declared.event.Event.{Event}
use Rattle.cmh_frames.specs.declared.event.Event.TheVariants.{Ask, Reply, Start, Got}
use Rattle.cmh_frames.specs.Entries.{Entry, WorldEvent}
use Rattle.cmh_frames.specs.State.{State}
use Rattle.cmh_frames.specs.Runs.{under_way}

-- processes 1 and 2 at one site
abbrev pub one_site : Edition → Topology
one_site edition = record { edition = edition; rows = (1, 1 ∷ 2 ∷ []) ∷ [] }

-- process 1 at site 1, and process 2 at site 2
abbrev pub two_sites : Edition → Topology
two_sites edition = record { edition = edition; rows = (1, 1 ∷ []) ∷ (2, 2 ∷ []) ∷ [] }

-- process 1 at site 1, and the processes 2 and 3 at site 2
abbrev pub three_processes : Topology
three_processes = record { edition = One; rows = (1, 1 ∷ []) ∷ (2, 2 ∷ 3 ∷ []) ∷ [] }

-- one process at each of three sites
abbrev pub three_sites : Topology
three_sites = record { edition = One; rows = (1, 1 ∷ []) ∷ (2, 2 ∷ []) ∷ (3, 3 ∷ []) ∷ [] }

-- a lone process
abbrev pub lone_process : Topology
lone_process = record { edition = One; rows = (1, 1 ∷ []) ∷ [] }

-- the processes 1 and 3 at site 1, and process 2 at site 2
abbrev pub beside_in : Edition → Topology
beside_in edition = record { edition = edition; rows = (1, 1 ∷ 3 ∷ []) ∷ (2, 2 ∷ []) ∷ [] }

abbrev pub two_beside_one : Topology
two_beside_one = beside_in One

-- the processes 1 and 5 at site 1, and 11 and 12 at site 2
abbrev pub two_beside_two : Topology
two_beside_two = record { edition = One; rows = (1, 1 ∷ 5 ∷ []) ∷ (2, 11 ∷ 12 ∷ []) ∷ [] }

-- process 1 at site 1, and the processes 2 to 6 at site 2
abbrev pub six_processes : Topology
six_processes = record { edition = One; rows = (1, 1 ∷ []) ∷ (2, 2 ∷ 3 ∷ 4 ∷ 5 ∷ 6 ∷ []) ∷ [] }

-- the processes 1 to 40 at one site
abbrev pub crowded_site : Edition → Topology
crowded_site edition = record { edition = edition; rows = (1, range_with_len 1 40) ∷ [] }

-- an entry that sends these frames and declares this process, and one that does neither
abbrev pub outcome : Event → List (ℕ × Frame) → Option ℕ → Entry
outcome event sent declared = record { event = event; sent = sent; declared = declared }

abbrev pub silent : Event → Entry
silent event = outcome event [] None

abbrev pub at_site : ℕ → Entry → WorldEvent
at_site s entry = record { site = s; entry = entry }

-- the state with these waits, owed replies, dependents and declared processes
abbrev pub state_with : List (ℕ × ℕ) → List (ℕ × ℕ) → List (ℕ × ℕ) → List ℕ → State
state_with waits owed dependents declared =
    record {
      waits = set.from_list waits;
      owed = set.from_list owed;
      dependents = set.from_list dependents;
      declared = set.from_list declared;
    }

-- what is under way on the links from 1 to 2 and from 2 to 1 after the first n events
abbrev pub between : List WorldEvent → ℕ → List Frame × List Frame
between events n = (under_way 1 2 (take n events), under_way 2 1 (take n events))

-- One site: `ask 1 2 / ask 2 1 / start 1`. The start declares 1.
abbrev pub wait_for_each_other : List WorldEvent
wait_for_each_other =
    at_site 1 (silent (Ask 1 (2 ∷ []))) ∷ at_site 1 (silent (Ask 2 (1 ∷ [])))
    ∷ at_site 1 (outcome (Start 1) [] (Some 1)) ∷ []

-- One site in edition 2: `ask 1 2 / ask 2 1`. The second ask declares 2.
abbrev pub declared_at_ask : List WorldEvent
declared_at_ask = at_site 1 (silent (Ask 1 (2 ∷ []))) ∷ at_site 1 (outcome (Ask 2 (1 ∷ [])) [] (Some 2)) ∷ []

-- Two sites: `ask 1 2 / ask 2 1 / deliver 1 2 / deliver 2 1`. Each process waits for the other, and
-- both requests have come.
abbrev pub ask_each_other : List WorldEvent
ask_each_other =
    at_site 1 (outcome (Ask 1 (2 ∷ [])) ((2, Request (1, 2)) ∷ []) None)
    ∷ at_site 2 (outcome (Ask 2 (1 ∷ [])) ((1, Request (2, 1)) ∷ []) None)
    ∷ at_site 2 (silent (Got 1 (Request (1, 2))))
    ∷ at_site 1 (silent (Got 2 (Request (2, 1)))) ∷ []

-- And then `start 1 / deliver 1 2 / deliver 2 1`. The probe goes round, and declares 1.
abbrev pub probe_goes_round : List WorldEvent
probe_goes_round =
    ask_each_other
    ++ (
    at_site 1 (outcome (Start 1) ((2, Probe (1, 1, 2)) ∷ []) None)
    ∷ at_site 2 (outcome (Got 1 (Probe (1, 1, 2))) ((1, Probe (1, 2, 1)) ∷ []) None)
    ∷ at_site 1 (outcome (Got 2 (Probe (1, 2, 1))) [] (Some 1)) ∷ []
    )

-- One site: `ask 1 2 / reply 2 1`. The wait has ended.
abbrev pub ask_and_reply : List WorldEvent
ask_and_reply = at_site 1 (silent (Ask 1 (2 ∷ []))) ∷ at_site 1 (silent (Reply 2 1)) ∷ []

-- The journal of site 2 where 1 asked 2 and 3, and 2 granted and then asked 1 itself. A probe of 1 along its old
-- wait for 2 may come next.
abbrev pub granted_before_the_probe : List Entry
granted_before_the_probe =
    silent (Got 1 (Request (1, 2)))
    ∷ silent (Got 1 (Request (1, 3)))
    ∷ outcome (Reply 2 1) ((1, Reply_frame (2, 1)) ∷ []) None
    ∷ outcome (Ask 2 (1 ∷ [])) ((1, Request (2, 1)) ∷ []) None ∷ []

-- The journal of site 2 where 2 waits for 3 and owes 1, and a probe of 1 has come to 2.
abbrev pub marked_by_the_probe : List Entry
marked_by_the_probe = silent (Ask 2 (3 ∷ [])) ∷ silent (Got 1 (Request (1, 2))) ∷ silent (Got 1 (Probe (1, 1, 2))) ∷ []

-- 1 asks 2 and 3, and the later request comes first.
abbrev pub overtaken : List WorldEvent
overtaken =
    at_site 1 (outcome (Ask 1 (2 ∷ 3 ∷ [])) ((2, Request (1, 2)) ∷ (2, Request (1, 3)) ∷ []) None)
    ∷ at_site 2 (silent (Got 1 (Request (1, 3)))) ∷ []

-- A site that gets a frame before it was sent.
abbrev pub got_before_sent : List WorldEvent
got_before_sent =
    at_site 2 (silent (Got 1 (Request (1, 2))))
    ∷ at_site 1 (outcome (Ask 1 (2 ∷ [])) ((2, Request (1, 2)) ∷ []) None) ∷ []

-- Two sites: `ask 1 2 / deliver 1 2 / reply 2 1 / deliver 2 1`. The wait has ended on both sites.
abbrev pub asked_and_answered : List WorldEvent
asked_and_answered =
    at_site 1 (outcome (Ask 1 (2 ∷ [])) ((2, Request (1, 2)) ∷ []) None)
    ∷ at_site 2 (silent (Got 1 (Request (1, 2))))
    ∷ at_site 2 (outcome (Reply 2 1) ((1, Reply_frame (2, 1)) ∷ []) None)
    ∷ at_site 1 (silent (Got 2 (Reply_frame (2, 1)))) ∷ []

-- Two processes beside one: `ask 1 2 / ask 3 1 / ask 2 3 / deliver 1 2 / deliver 2 1 / start 1 /
-- deliver 1 2 / deliver 2 1`.
-- The probe of 1 comes to 3, which waits for 1 at its own site, and declares 1.
abbrev pub found_beside_it : List WorldEvent
found_beside_it =
    at_site 1 (outcome (Ask 1 (2 ∷ [])) ((2, Request (1, 2)) ∷ []) None)
    ∷ at_site 1 (silent (Ask 3 (1 ∷ [])))
    ∷ at_site 2 (outcome (Ask 2 (3 ∷ [])) ((1, Request (2, 3)) ∷ []) None)
    ∷ at_site 2 (silent (Got 1 (Request (1, 2))))
    ∷ at_site 1 (silent (Got 2 (Request (2, 3))))
    ∷ at_site 1 (outcome (Start 1) ((2, Probe (1, 1, 2)) ∷ []) None)
    ∷ at_site 2 (outcome (Got 1 (Probe (1, 1, 2))) ((1, Probe (1, 2, 3)) ∷ []) None)
    ∷ at_site 1 (outcome (Got 2 (Probe (1, 2, 3))) [] (Some 1)) ∷ []

-- One site: `ask 3 1 / ask 1 2 / ask 2 1`. 3 waits for a cycle and is on none.
abbrev pub waits_for_a_cycle : List WorldEvent
waits_for_a_cycle =
    at_site 1 (silent (Ask 3 (1 ∷ []))) ∷ at_site 1 (silent (Ask 1 (2 ∷ [])))
    ∷ at_site 1 (silent (Ask 2 (1 ∷ []))) ∷ []

-- Two sites in edition 2: `ask 1 2 / ask 2 1`, and each frame in turn: both requests, both probes,
-- and the probes that they send.
abbrev pub probes_cross : List WorldEvent
probes_cross =
    at_site 1 (outcome (Ask 1 (2 ∷ [])) ((2, Request (1, 2)) ∷ (2, Probe (1, 1, 2)) ∷ []) None)
    ∷ at_site 2 (outcome (Ask 2 (1 ∷ [])) ((1, Request (2, 1)) ∷ (1, Probe (2, 2, 1)) ∷ []) None)
    ∷ at_site 2 (silent (Got 1 (Request (1, 2))))
    ∷ at_site 1 (silent (Got 2 (Request (2, 1))))
    ∷ at_site 2 (outcome (Got 1 (Probe (1, 1, 2))) ((1, Probe (1, 2, 1)) ∷ []) None)
    ∷ at_site 1 (outcome (Got 2 (Probe (2, 2, 1))) ((2, Probe (2, 1, 2)) ∷ []) None)
    ∷ at_site 1 (outcome (Got 2 (Probe (1, 2, 1))) [] (Some 1))
    ∷ at_site 2 (outcome (Got 1 (Probe (2, 1, 2))) [] (Some 2)) ∷ []

-- Two sites: `ask 1 2 / cut 1 2 / ask 2 1 / deliver 2 1`. The request of 1 never comes.
abbrev pub lost_request : List WorldEvent
lost_request =
    at_site 1 (outcome (Ask 1 (2 ∷ [])) ((2, Request (1, 2)) ∷ []) None)
    ∷ at_site 2 (outcome (Ask 2 (1 ∷ [])) ((1, Request (2, 1)) ∷ []) None)
    ∷ at_site 1 (silent (Got 2 (Request (2, 1)))) ∷ []

-- A wait that has ended over a link, and the same ask again.
abbrev pub asked_again : List WorldEvent
asked_again = asked_and_answered ++ at_site 1 (outcome (Ask 1 (2 ∷ [])) ((2, Request (1, 2)) ∷ []) None) ∷ []

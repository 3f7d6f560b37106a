-- How many messages are under way.
use Rattle.std.specs.Prelude.{ℕ, ◌+◌, ◌-◌, ◌^◌, min, List, [], ◌∷◌, length}
use Rattle.cmh_model3.specs.declared.event.Event.{Event}
use Rattle.cmh_model3.specs.declared.event.Event.TheVariants.{Got}
use Rattle.cmh_model3.specs.Entries.{WorldEvent}

-- how many messages an event got
abbrev pub got_by : Event → ℕ
got_by (Got from clock frame) = 1
got_by event = 0

-- how many the events sent, and how many they got
abbrev pub sent_in : List WorldEvent → ℕ
sent_in [] = 0
sent_in (e ∷ es) = length e.entry.sent + sent_in es

abbrev pub got_in : List WorldEvent → ℕ
got_in [] = 0
got_in (e ∷ es) = got_by e.entry.event + got_in es

-- a count as it is kept: no further than its type goes
abbrev pub kept : ℕ → ℕ
kept n = min n (2 ^ 64 - 1)

-- how many were sent and not got
abbrev pub in_transit : List WorldEvent → ℕ
in_transit events = kept (sent_in events) - kept (got_in events)

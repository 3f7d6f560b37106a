-- Stops by stamps. The stamp of an entry is its site's clock after it. Stop n has of each site the entries with a stamp
-- below n, and the ask with stamp n.
use Rattle.std.specs.Prelude.{ℕ, ◌+◌, Bool, false, not, ◌&&◌, ◌||◌, List, [], ◌∷◌, ◌==◌, if◌then◌else◌, ltb}
use Rattle.cmh_model3.specs.declared.frame.Frame.TheVariants.{Probe}
use Rattle.cmh_model3.specs.declared.event.Event.{Event}
use Rattle.cmh_model3.specs.declared.event.Event.TheVariants.{Ask, Got}
use Rattle.cmh_model3.specs.Entries.{Entry, WorldEvent}
use Rattle.cmh_model3.specs.Lists.{set_at}
use Rattle.cmh_model3.specs.Rules.{clock_after}
use Rattle.cmh_model3.specs.Runs.{entries_of}
use Rattle.cmh_model3.specs.Waits.{is_ask, leaves}

-- an entry of this event and this stamp is within stop n
abbrev pub is_within : ℕ → ℕ → Event → Bool
is_within n stamp event = ltb stamp n || (is_ask event && (stamp == n))

-- of the entries of a site with this clock, those within stop n
abbrev pub entries_within : ℕ → ℕ → List Entry → List Entry
entries_within n c [] = []
entries_within n c (e ∷ es) =
    if is_within n (clock_after c e.event) e.event then e ∷ entries_within n (clock_after c e.event) es else []

-- the entries of a site within stop n
abbrev pub stopped : ℕ → List WorldEvent → ℕ → List Entry
stopped n events s = entries_within n 0 (entries_of s events)

-- of the events of sites with these clocks, those within stop n, in their order
abbrev pub events_within : ℕ → (ℕ → ℕ) → List WorldEvent → List WorldEvent
events_within n clocks [] = []
events_within n clocks (e ∷ es) =
    if is_within n (clock_after (clocks e.site) e.entry.event) e.entry.event
    then e ∷ events_within n (set_at clocks e.site (clock_after (clocks e.site) e.entry.event)) es
    else events_within n (set_at clocks e.site (clock_after (clocks e.site) e.entry.event)) es

-- the events of a run that are within stop n, in its order
abbrev pub stop : ℕ → List WorldEvent → List WorldEvent
stop n events = events_within n (λ s. 0) events

-- The stop at which the cycle of a declaration stood, told from the event that declares and the site's clock before it:
-- the stamp of the ask, or that of the probe.
abbrev pub declared_at : ℕ → Event → ℕ
declared_at c (Ask asker targets) = c + 1
declared_at c (Got from clock (Probe origin stamp holder to)) = stamp
declared_at c event = 0

-- past stop n of sites with these clocks j withdraws from k
abbrev pub withdrawn_past : ℕ → ℕ → ℕ → (ℕ → ℕ) → List WorldEvent → Bool
withdrawn_past n j k clocks [] = false
withdrawn_past n j k clocks (e ∷ es) =
    (not (is_within n (clock_after (clocks e.site) e.entry.event) e.entry.event) && leaves j k e.entry.event)
    || withdrawn_past n j k (set_at clocks e.site (clock_after (clocks e.site) e.entry.event)) es

-- some event is a withdrawal of j from k
abbrev pub withdrawn : ℕ → ℕ → List WorldEvent → Bool
withdrawn j k [] = false
withdrawn j k (e ∷ es) = leaves j k e.entry.event || withdrawn j k es

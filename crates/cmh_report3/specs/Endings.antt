-- The waits of a stop, and which of them have ended since.
use Rattle.std.specs.Prelude.{ℕ, Bool, false, true, not, ◌&&◌, ◌||◌, ◌≡◌, List, [], ◌∷◌}
use Rattle.cmh_model3.specs.Entries.{WorldEvent}
use Rattle.cmh_model3.specs.Lists.{set_at}
use Rattle.cmh_model3.specs.Rules.{clock_after}
use Rattle.cmh_model3.specs.Stops.{is_within, stop}
use Rattle.cmh_model3.specs.Waits.{ends, wait_after}

-- past stop n of sites with these clocks k replies to j, or j withdraws from k
abbrev pub ended_past : ℕ → ℕ → ℕ → (ℕ → ℕ) → List WorldEvent → Bool
ended_past n j k clocks [] = false
ended_past n j k clocks (e ∷ es) =
    (not (is_within n (clock_after (clocks e.site) e.entry.event) e.entry.event) && ends j k e.entry.event)
    || ended_past n j k (set_at clocks e.site (clock_after (clocks e.site) e.entry.event)) es

-- the wait of j for k stood at stop n, and no event past the stop has ended it
abbrev pub StandsSince : ℕ → List WorldEvent → ℕ → ℕ → Type 0
StandsSince n events j k =
    (wait_after false j k (stop n events) && not (ended_past n j k (λ s. 0) events)) ≡ true

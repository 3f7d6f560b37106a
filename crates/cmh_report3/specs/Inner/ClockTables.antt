-- Clocks of sites, each at its site's number.
use Rattle.std.specs.Prelude.{◌≡◌, ℕ, ◌+◌, ◌^◌, ◌<◌, List, [], ◌∷◌, slice_index_or, ⊤}
use Rattle.cmh_model3.specs.declared.event.Event.{Event}
use Rattle.cmh_model3.specs.declared.event.Event.TheVariants.{Ask}
use Rattle.cmh_model3.specs.Entries.{WorldEvent}
use Rattle.cmh_model3.specs.Lists.{set_at}
use Rattle.cmh_model3.specs.Rules.{clock_after}

abbrev pub clock_at : List ℕ → ℕ → ℕ
clock_at clocks s = slice_index_or clocks s 0

abbrev pub SameClocks : List ℕ → List ℕ → Type 0
SameClocks old new = (s : ℕ) → clock_at new s ≡ clock_at old s

-- the clock leaves room for the event's tick
abbrev pub HasRoom : ℕ → Event → Type 0
HasRoom c (Ask asker targets) = c + 1 < 2 ^ 64
HasRoom c event = ⊤

-- so do the clocks of sites for each of their entries, from these clocks on
abbrev pub FitClocks : (ℕ → ℕ) → List WorldEvent → Type 0
FitClocks clocks [] = ⊤
FitClocks clocks (e ∷ es) =
    HasRoom (clocks e.site) e.entry.event
    × FitClocks (set_at clocks e.site (clock_after (clocks e.site) e.entry.event)) es

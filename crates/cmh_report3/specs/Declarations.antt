-- The declarations of a run, and the stop of the newest one of a process.
use Rattle.std.specs.Prelude.{ℕ, Bool, false, ◌==◌, List, [], ◌∷◌, ◌++◌, if◌then◌else◌, Option, None, Some}
use Rattle.cmh_model3.specs.Entries.{WorldEvent}
use Rattle.cmh_model3.specs.Lists.{set_at}
use Rattle.cmh_model3.specs.Rules.{clock_after}
use Rattle.cmh_model3.specs.Stops.{declared_at}

abbrev pub is_process : Option ℕ → ℕ → Bool
is_process None i = false
is_process (Some p) i = p == i

-- Of events of sites with these clocks, the stop of the last one that declares i; n where none does.
abbrev pub newest_stop : ℕ → ℕ → (ℕ → ℕ) → List WorldEvent → ℕ
newest_stop i n clocks [] = n
newest_stop i n clocks (e ∷ es) =
    newest_stop i (if is_process e.entry.declared i then declared_at (clocks e.site) e.entry.event else n)
    (set_at clocks e.site (clock_after (clocks e.site) e.entry.event)) es

-- who is declared at a stop, if anyone is
abbrev pub at_stop : Option ℕ → ℕ → List (ℕ × ℕ)
at_stop None n = []
at_stop (Some i) n = (i, n) ∷ []

-- Of events of sites with these clocks, in their order: whom each one declares, with the stop at which the cycle stood.
abbrev pub declarations : (ℕ → ℕ) → List WorldEvent → List (ℕ × ℕ)
declarations clocks [] = []
declarations clocks (e ∷ es) =
    at_stop e.entry.declared (declared_at (clocks e.site) e.entry.event)
    ++ declarations (set_at clocks e.site (clock_after (clocks e.site) e.entry.event)) es

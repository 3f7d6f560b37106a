-- The journals of sites that stop, and those that a run has.
use Rattle.std.proofs.Common.{◌≡◌, ℕ, ◌-◌, ◌==◌, min, Bool, true, false, List, [], ◌∷◌, length, take, if◌then◌else◌, refl, ap, ◌∙◌, arith}
use Rattle.std.proofs.lemmas.List.{length-take}
use Rattle.cmh_runs.proofs.Beginnings.{beginning_refl, beginning_take}
use Rattle.cmh_model3.specs.Entries as model
use Rattle.cmh_model3.specs.Rules.{clock_after}
use Rattle.cmh_model3.specs.Runs.{IsBeginningOf}
use Rattle.cmh_segment3.specs.declared.entry.Entry.{Entry}
use Rattle.cmh_segment3.specs.Steps.{entries_from}
use Rattle.cmh_audit3.specs.Stops.{before_stop}
use Rattle.cmh_audit3.specs.declared.stops.Stop.{Stop}

-- there are as many entries as steps
pub length-entries : (c : ℕ) (steps : List model.Entry) → length (entries_from c steps) ≡ length steps
length-entries c [] = refl
length-entries c (step ∷ steps) = let later = length-entries (clock_after c step.event) steps in omega (arith, later)

-- what stands before a stop begins the journal
pub before_begins : (stops : List Stop) (s : ℕ) (entries : List Entry) → IsBeginningOf (before_stop stops s entries) entries
before_begins [] s entries = beginning_refl entries
before_begins (stop ∷ stops) s entries = go (before_begins stops s entries) (stop.site == s)
  where
    go : IsBeginningOf (before_stop stops s entries) entries → (b : Bool) → IsBeginningOf (if b then take (stop.entry - 1) entries else before_stop stops s entries) entries
    go later true = beginning_take (stop.entry - 1) entries
    go later false = later

-- the first stop of the site, or one further on
pub stops_here : (stop : Stop) (stops : List Stop) (s : ℕ) (entries : List Entry) → (stop.site == s) ≡ true → length (before_stop (stop ∷ stops) s entries) ≡ min (stop.entry - 1) (length entries)
stops_here stop stops s entries here =
    ap (λ z. length (if z then take (stop.entry - 1) entries else before_stop stops s entries)) here ∙ length-take (stop.entry - 1) entries

pub stops_later : (stop : Stop) (stops : List Stop) (s : ℕ) (entries : List Entry) → (stop.site == s) ≡ false → before_stop (stop ∷ stops) s entries ≡ before_stop stops s entries
stops_later stop stops s entries far = ap (λ z. if z then take (stop.entry - 1) entries else before_stop stops s entries) far

-- A report as it is made of totals.
use Rattle.std.specs.Prelude.{◌≡◌, ℕ, ◌↔◌, true, List, ◌==◌, Contains, Option, option_map}
use Rattle.std.specs.List.{find, zip}
use Rattle.cmh_audit.specs.Inner.FoundCycles.{AreFoundCycles}
use Rattle.cmh_audit.specs.Reports.{Report, IsInOrder}
use Rattle.cmh_audit.specs.Turns.{is_open}

-- The report of these open waits and these declared processes, with these counts.
pub record IsReportWith (waits : List (List ℕ)) (declared : List ℕ) (events in_transit tries : ℕ)
    (report : Report) : Type 0 where
  pub waits_are : (j k : ℕ) → Contains report.waits (j, k) ↔ (is_open waits j k ≡ true)
  pub declared_are : report.declared ≡ declared
  pub cycles_are : AreFoundCycles report.waits report.declared report.cycles
  pub order : IsInOrder report
  pub events_are : report.events ≡ events
  pub in_transit_is : report.in_transit ≡ in_transit
  pub tries_are : report.tries ≡ tries

-- what stands in the second list where i stands in the first
abbrev pub beside : List ℕ → List (List ℕ) → ℕ → Option (List ℕ)
beside declared cycles i =
    option_map (λ (row : ℕ × List ℕ). row.1) (find (λ (row : ℕ × List ℕ). row.0 == i) (zip declared cycles))

-- Whatever a report says of events does not look at what they sent.
use Rattle.std.proofs.Common.{◌≡◌, ℕ, ◌&&◌, not, Bool, true, false, List, [], ◌∷◌, ◌||◌, length, map, if◌then◌else◌, refl, sym, ap, subst, ◌∙◌, arith}
use Rattle.std.proofs.Math.Path.{fun_ext}
use Rattle.std.specs.List.{AllByRecursion}
use Rattle.cmh_model3.specs.Entries.{WorldEvent}
use Rattle.cmh_model3.specs.Lists.{set_at}
use Rattle.cmh_model3.specs.Rules.{clock_after}
use Rattle.cmh_model3.specs.Stops.{declared_at, events_within, is_within, stop, withdrawn_past}
use Rattle.cmh_model3.specs.Waits.{begins, ends, leaves, wait_after}
use Rattle.cmh_report3.specs.declared.cycle.Deadlock.{Deadlock}
use Rattle.cmh_report3.specs.Declarations.{is_process, newest_stop}
use Rattle.cmh_report3.specs.Endings.{ended_past}
use Rattle.cmh_report3.specs.Inner.ClockTables.{FitClocks}
use Rattle.cmh_report3.specs.Inner.Stopped.{IsCycleOfStop}
use Rattle.cmh_report3.specs.Kept.{without_sent}
use Rattle.cmh_report3.specs.Reports.{IsTold}
use Rattle.cmh_report3.specs.Transit.{got_in}

abbrev bare : List WorldEvent → List WorldEvent
bare events = map without_sent events

-- ---- with what they sent taken away

length_bare : (es : List WorldEvent) → length (bare es) ≡ length es
length_bare [] = refl
length_bare (e ∷ es) = let rest = length_bare es in omega (arith, rest)

got_bare : (es : List WorldEvent) → got_in (bare es) ≡ got_in es
got_bare [] = refl
got_bare (e ∷ es) = let rest = got_bare es in omega (arith, rest)

wait_bare : (b : Bool) (j k : ℕ) (es : List WorldEvent) → wait_after b j k (bare es) ≡ wait_after b j k es
wait_bare b j k [] = refl
wait_bare b j k (e ∷ es) = wait_bare (begins j k e.entry.event || (not (ends j k e.entry.event) && b)) j k es

abbrev later : (ℕ → ℕ) → WorldEvent → ℕ → ℕ
later clocks e = set_at clocks e.site (clock_after (clocks e.site) e.entry.event)

within_bare : (n : ℕ) (clocks : ℕ → ℕ) (es : List WorldEvent) → events_within n clocks (bare es) ≡ bare (events_within n clocks es)
within_bare n clocks [] = refl
within_bare n clocks (e ∷ es) =
    by (is_within n (clock_after (clocks e.site) e.entry.event) e.entry.event) (events_within n (later clocks e) (bare es))
    (events_within n (later clocks e) es) (within_bare n (later clocks e) es)
  where
    by : (b : Bool) (xs ys : List WorldEvent) → xs ≡ bare ys → (if b then without_sent e ∷ xs else xs) ≡ bare (if b then e ∷ ys else ys)
    by true xs ys same = ap (λ zs. without_sent e ∷ zs) same
    by false xs ys same = same

stop_bare : (n j k : ℕ) (es : List WorldEvent) → wait_after false j k (stop n (bare es)) ≡ wait_after false j k (stop n es)
stop_bare n j k es = ap (λ (xs : List WorldEvent). wait_after false j k xs) (within_bare n (λ s. 0) es) ∙ wait_bare false j k (stop n es)

ended_bare : (n j k : ℕ) (clocks : ℕ → ℕ) (es : List WorldEvent) → ended_past n j k clocks (bare es) ≡ ended_past n j k clocks es
ended_bare n j k clocks [] = refl
ended_bare n j k clocks (e ∷ es) =
    ap (λ b. (not (is_within n (clock_after (clocks e.site) e.entry.event) e.entry.event) && ends j k e.entry.event) || b)
    (ended_bare n j k (later clocks e) es)

left_bare : (n j k : ℕ) (clocks : ℕ → ℕ) (es : List WorldEvent) → withdrawn_past n j k clocks (bare es) ≡ withdrawn_past n j k clocks es
left_bare n j k clocks [] = refl
left_bare n j k clocks (e ∷ es) =
    ap (λ b. (not (is_within n (clock_after (clocks e.site) e.entry.event) e.entry.event) && leaves j k e.entry.event) || b)
    (left_bare n j k (later clocks e) es)

newest_bare : (i n : ℕ) (clocks : ℕ → ℕ) (es : List WorldEvent) → newest_stop i n clocks (bare es) ≡ newest_stop i n clocks es
newest_bare i n clocks [] = refl
newest_bare i n clocks (e ∷ es) =
    newest_bare i (if is_process e.entry.declared i then declared_at (clocks e.site) e.entry.event else n) (later clocks e) es

fit_bare : (clocks : ℕ → ℕ) (es : List WorldEvent) → FitClocks clocks es → FitClocks clocks (bare es)
fit_bare clocks [] fit = tt
fit_bare clocks (e ∷ es) fit = (fit.0, fit_bare (later clocks e) es fit.1)

fit_whole : (clocks : ℕ → ℕ) (es : List WorldEvent) → FitClocks clocks (bare es) → FitClocks clocks es
fit_whole clocks [] fit = tt
fit_whole clocks (e ∷ es) fit = (fit.0, fit_whole (later clocks e) es fit.1)

-- ---- events that are the same but for what they sent

module _ (events run : List WorldEvent) (same : bare events ≡ bare run) where
  pub same_length : length events ≡ length run
  same_length = sym (length_bare events) ∙ ap (λ (es : List WorldEvent). length es) same ∙ length_bare run

  pub same_got : got_in events ≡ got_in run
  same_got = sym (got_bare events) ∙ ap got_in same ∙ got_bare run

  pub same_waits : (j k : ℕ) → wait_after false j k events ≡ wait_after false j k run
  same_waits j k = sym (wait_bare false j k events) ∙ ap (λ (es : List WorldEvent). wait_after false j k es) same ∙ wait_bare false j k run

  pub same_fit : FitClocks (λ s. 0) run → FitClocks (λ s. 0) events
  same_fit fit = fit_whole (λ s. 0) events (subst (λ (es : List WorldEvent). FitClocks (λ s. 0) es) (sym same) (fit_bare (λ s. 0) run fit))

  same_stop : (n j k : ℕ) → wait_after false j k (stop n events) ≡ wait_after false j k (stop n run)
  same_stop n j k = sym (stop_bare n j k events) ∙ ap (λ (es : List WorldEvent). wait_after false j k (stop n es)) same ∙ stop_bare n j k run

  same_ended : (n j k : ℕ) → ended_past n j k (λ s. 0) events ≡ ended_past n j k (λ s. 0) run
  same_ended n j k = sym (ended_bare n j k (λ s. 0) events) ∙ ap (λ (es : List WorldEvent). ended_past n j k (λ s. 0) es) same ∙ ended_bare n j k (λ s. 0) run

  same_left : (n j k : ℕ) → withdrawn_past n j k (λ s. 0) events ≡ withdrawn_past n j k (λ s. 0) run
  same_left n j k = sym (left_bare n j k (λ s. 0) events) ∙ ap (λ (es : List WorldEvent). withdrawn_past n j k (λ s. 0) es) same ∙ left_bare n j k (λ s. 0) run

  same_newest : (i : ℕ) → newest_stop i 0 (λ s. 0) events ≡ newest_stop i 0 (λ s. 0) run
  same_newest i = sym (newest_bare i 0 (λ s. 0) events) ∙ ap (λ (es : List WorldEvent). newest_stop i 0 (λ s. 0) es) same ∙ newest_bare i 0 (λ s. 0) run

  one_told : (d : Deadlock) → IsTold events d → IsTold run d
  one_told d told = record {
    stop_is = told.stop_is ∙ same_newest d.process;
    cycle_is =
        subst (λ (w : ℕ → ℕ → Bool). IsCycleOfStop w (ended run) (left run) d.process d.cycle) (fun_ext (λ j. fun_ext (λ k. same_stop d.stop j k)))
        (subst (λ (x : ℕ → ℕ → Bool). IsCycleOfStop (waits events) x (left run) d.process d.cycle) (fun_ext (λ j. fun_ext (λ k. same_ended d.stop j k)))
        (subst (λ (l : ℕ → ℕ → Bool). IsCycleOfStop (waits events) (ended events) l d.process d.cycle) (fun_ext (λ j. fun_ext (λ k. same_left d.stop j k))) told.cycle_is));
  }
    where
      waits : List WorldEvent → ℕ → ℕ → Bool
      waits es j k = wait_after false j k (stop d.stop es)

      ended : List WorldEvent → ℕ → ℕ → Bool
      ended es j k = ended_past d.stop j k (λ s. 0) es

      left : List WorldEvent → ℕ → ℕ → Bool
      left es j k = withdrawn_past d.stop j k (λ s. 0) es

  pub same_told : (all : List Deadlock) → AllByRecursion (IsTold events) all → AllByRecursion (IsTold run) all
  same_told [] told = tt
  same_told (d ∷ all) told = (one_told d told.0, same_told all told.1)

-- The declarations of a run, one by one.
use Rattle.std.proofs.Common.{◌≡◌, ◌≢◌, ℕ, ◌+◌, ◌<◌, ◌≤◌, List, [], ◌∷◌, ◌++◌, length, map, get_or, drop, Option, None, Some, refl, sym, ap, subst, ◌∙◌, append_assoc, append-nil}
use Rattle.std.specs.List.{AllByRecursion}
use Rattle.std.proofs.lemmas.List.{drop_all}
use Rattle.cmh_frames.proofs.Each.{all_append}
use Rattle.cmh_model3.specs.Entries.{WorldEvent}
use Rattle.cmh_model3.specs.Lists.{set_at}
use Rattle.cmh_model3.specs.Rules.{clock_after}
use Rattle.cmh_model3.specs.Runs.{IsRun}
use Rattle.cmh_model3.specs.State.{empty_state}
use Rattle.cmh_model3.specs.Stops.{declared_at, stop}
use Rattle.cmh_model3.specs.Waits.{OnCycle}
use Rattle.cmh_model3.proofs.Runs.{clocks_after, clocks_are}
use Rattle.cmh_report3.specs.declared.cycle.CycleNow.TheVariants as cycle
use Rattle.cmh_report3.specs.declared.cycle.Deadlock.{Deadlock}
use Rattle.cmh_report3.specs.Declarations.{at_stop, declarations}
use Rattle.cmh_report3.specs.Inner.ClockTables.{FitClocks, clock_at}
use Rattle.cmh_report3.specs.Laws.{Declares, EachHasCycle, EachHasLeaver, EachIsDeclaredThere, NamesLeaver, OfEachDeclaration}
use Rattle.cmh_report3.specs.Reports.{AreTold, TellsCycle}
use Rattle.cmh_report3.proofs.Stopping.{all_zero, clocks_of, fits_on, next_is, next_here}
use Rattle.cmh_report3.proofs.Told.{has_cycle, leaver_of, on_cycle}

-- a process with its stop
abbrev pub at_of : Deadlock → ℕ × ℕ
at_of d = (d.process, d.stop)

-- ---- what was told so far, with what the entries ahead declare, is all

pub record AreToldSoFar (events : List WorldEvent) (i : ℕ) (clocks : List ℕ) (told : List Deadlock) : Type 0 where
  pub fit : FitClocks (clocks_of clocks) (drop i events)
  pub each : map at_of told ++ declarations (clocks_of clocks) (drop i events) ≡ declarations (λ s. 0) events
  pub cycles : AllByRecursion (TellsCycle events) told

pub told_begun : (events : List WorldEvent) (clocks : List ℕ) → FitClocks (λ s. 0) events → ((s : ℕ) → clock_at clocks s ≡ 0) → AreToldSoFar events 0 clocks []
told_begun events clocks fit zero =
    let at : clocks_of clocks ≡ (λ s. 0) = all_zero clocks zero in
    record {
      fit = subst (λ cs. FitClocks cs events) (sym at) fit;
      each = ap (λ cs. declarations cs events) at;
      cycles = tt;
    }

module _ (events : List WorldEvent) (i : ℕ) (e : WorldEvent) (inside : i < length events) (is : e ≡ get_or events i e)
    (clocks next : List ℕ) (moved : (s : ℕ) → clock_at next s ≡ set_at (clocks_of clocks) e.site (clock_after (clock_at clocks e.site) e.entry.event) s)
    (told : List Deadlock) (so_far : AreToldSoFar events i clocks told) where
  abbrev pub here : List (ℕ × ℕ)
  here = at_stop e.entry.declared (declared_at (clock_at clocks e.site) e.entry.event)

  pub told_on : (more : List Deadlock) → map at_of more ≡ map at_of told ++ here → (AllByRecursion (TellsCycle events) told → AllByRecursion (TellsCycle events) more)
      → AreToldSoFar events (i + 1) next more
  told_on more added cycles = record {
    fit = fits_on events i e inside is clocks next moved so_far.fit;
    each =
        ap (λ l. l ++ declarations (clocks_of next) (drop (i + 1) events)) added
        ∙ append_assoc (map at_of told) here (declarations (clocks_of next) (drop (i + 1) events))
        ∙ ap (λ cs. map at_of told ++ (here ++ declarations cs (drop (i + 1) events))) (next_is events i e inside is clocks next moved)
        ∙ sym (ap (λ es. map at_of told ++ declarations (clocks_of clocks) es) (next_here events i e inside is clocks next moved))
        ∙ so_far.each;
    cycles = cycles so_far.cycles;
  }

pub all_told : (events : List WorldEvent) (i : ℕ) (clocks : List ℕ) (told : List Deadlock) → length events ≤ i → AreToldSoFar events i clocks told → AreTold events told
all_told events i clocks told end so_far = record {
  each =
      sym (append-nil (map at_of told)) ∙ sym (ap (λ es. map at_of told ++ declarations (clocks_of clocks) es) (drop_all i events end)) ∙ so_far.each;
  cycles = so_far.cycles;
}

-- ---- each of them is the declaration of an entry

record DeclaresAfter (clocks : ℕ → ℕ) (es : List WorldEvent) (at : ℕ × ℕ) : Type 0 where
  before : List WorldEvent
  entry : WorldEvent
  behind : List WorldEvent
  are : es ≡ before ++ entry ∷ behind
  declares : entry.entry.declared ≡ Some at.0
  stop_is : at.1 ≡ declared_at (clocks_after clocks before entry.site) entry.entry.event

abbrev ticked : (ℕ → ℕ) → WorldEvent → ℕ → ℕ
ticked clocks e = set_at clocks e.site (clock_after (clocks e.site) e.entry.event)

declares_here : (clocks : ℕ → ℕ) (e : WorldEvent) (es : List WorldEvent) (d : Option ℕ) → e.entry.declared ≡ d
    → AllByRecursion (DeclaresAfter clocks (e ∷ es)) (at_stop d (declared_at (clocks e.site) e.entry.event))
declares_here clocks e es None is = tt
declares_here clocks e es (Some p) is = (record { before = []; entry = e; behind = es; are = refl; declares = is; stop_is = refl }, tt)

declares_later : (clocks : ℕ → ℕ) (e : WorldEvent) (es : List WorldEvent) (ats : List (ℕ × ℕ)) → AllByRecursion (DeclaresAfter (ticked clocks e) es) ats
    → AllByRecursion (DeclaresAfter clocks (e ∷ es)) ats
declares_later clocks e es [] all = tt
declares_later clocks e es (at ∷ ats) all = (
  record {
    before = e ∷ all.0.before;
    entry = all.0.entry;
    behind = all.0.behind;
    are = ap (λ l. e ∷ l) all.0.are;
    declares = all.0.declares;
    stop_is = all.0.stop_is;
  },
  declares_later clocks e es ats all.1,
)

each_declares : (clocks : ℕ → ℕ) (es : List WorldEvent) → AllByRecursion (DeclaresAfter clocks es) (declarations clocks es)
each_declares clocks [] = tt
each_declares clocks (e ∷ es) =
    all_append (DeclaresAfter clocks (e ∷ es)) (at_stop e.entry.declared (declared_at (clocks e.site) e.entry.event)) (declarations (ticked clocks e) es)
    (declares_here clocks e es e.entry.declared refl) (declares_later clocks e es (declarations (ticked clocks e) es) (each_declares (ticked clocks e) es))

-- ---- what holds of each that is told

each_of : (Holds : (ℕ → ℕ) → List WorldEvent → Deadlock → Type 0)
    → ((home : ℕ → ℕ) (events : List WorldEvent) → IsRun home events → (d : Deadlock) → Declares home events d.process d.stop → TellsCycle events d → Holds home events d)
    → OfEachDeclaration Holds
each_of Holds holds home events told run are =
    go told (subst (λ l. AllByRecursion (DeclaresAfter (λ s. 0) events) l) (sym are.each) (each_declares (λ s. 0) events)) are.cycles
  where
    there : (d : Deadlock) → DeclaresAfter (λ s. 0) events (at_of d) → Declares home events d.process d.stop
    there d at = record {
      before = at.before;
      entry = at.entry;
      behind = at.behind;
      events_are = at.are;
      declares = at.declares;
      stop_is = at.stop_is ∙ ap (λ c. declared_at c at.entry.entry.event) (clocks_are home (λ s. 0) at.entry.site empty_state at.before refl);
    }

    go : (ds : List Deadlock) → AllByRecursion (DeclaresAfter (λ s. 0) events) (map at_of ds) → AllByRecursion (TellsCycle events) ds
        → AllByRecursion (Holds home events) ds
    go [] all cycles = tt
    go (d ∷ ds) all cycles = (holds home events run d (there d all.0) cycles.0, go ds all.1 cycles.1)

pub each_is_declared_there : EachIsDeclaredThere
each_is_declared_there = each_of (λ home events told. Declares home events told.process told.stop) (λ home events run d declares tells. declares)

pub each_has_cycle : EachHasCycle
each_has_cycle =
    each_of (λ home events told. OnCycle (stop told.stop events) told.process × (told.cycle ≢ cycle.None))
    (λ home events run d declares tells.
    let on = on_cycle home events run d.process d.stop declares in
    (on, has_cycle home events run d.process d.stop d.cycle on tells))

pub each_has_leaver : EachHasLeaver
each_has_leaver =
    each_of (λ home events told. NamesLeaver events told.stop told.cycle)
    (λ home events run d declares tells. leaver_of home events run d.process d.stop d.cycle tells)

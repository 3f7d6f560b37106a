-- A stop, entry by entry.
use Rattle.std.proofs.Common.{◌≡◌, ℕ, ◌+◌, ◌<◌, ◌≤◌, ◌&&◌, ◌||◌, not, Bool, true, false, List, [], ◌∷◌, length, get_or, drop, if◌then◌else◌, Option, None, Some, refl, sym, ap, subst, ◌∙◌}
use Rattle.std.specs.Option.{option_eq}
use Rattle.std.specs.Prelude.{nat_eq}
use Rattle.std.proofs.Math.Path.{fun_ext}
use Rattle.std.proofs.lemmas.List.{drop_all}
use Rattle.cmh_model3.specs.Entries.{WorldEvent}
use Rattle.cmh_model3.specs.Lists.{set_at}
use Rattle.cmh_model3.specs.Rules.{clock_after}
use Rattle.cmh_model3.specs.Stops.{events_within, is_within, stop, withdrawn_past}
use Rattle.cmh_model3.specs.Waits.{begins, ends, leaves, wait_after}
use Rattle.cmh_report3.specs.Declarations.{is_process, newest_stop}
use Rattle.cmh_report3.specs.Endings.{ended_past}
use Rattle.cmh_report3.specs.Inner.ClockTables.{FitClocks, HasRoom, clock_at}
use Rattle.cmh_report3.specs.Inner.Pairs.{has_pair}
use Rattle.cmh_report3.proofs.Steps.{ahead, or_middle}
use Rattle.cmh_model3.specs.Stops.{declared_at}

-- the clocks of a table, as a function
abbrev pub clocks_of : List ℕ → ℕ → ℕ
clocks_of clocks = λ s. clock_at clocks s

-- the clocks after an entry
abbrev pub ticked : (ℕ → ℕ) → WorldEvent → ℕ → ℕ
ticked clocks e = set_at clocks e.site (clock_after (clocks e.site) e.entry.event)

-- the test of the code
pub is_eq : (o : Option ℕ) (p : ℕ) → option_eq nat_eq o (Some p) ≡ is_process o p
is_eq None p = refl
is_eq (Some q) p = refl

-- what was found so far, with what the entries ahead add, is the stop
pub record IsStopSoFar (n : ℕ) (events : List WorldEvent) (i : ℕ) (clocks : List ℕ) (waits ended left : List (List ℕ)) : Type 0 where
  pub fit : FitClocks (clocks_of clocks) (drop i events)
  pub stood : (j k : ℕ) → wait_after (has_pair waits j k) j k (events_within n (clocks_of clocks) (drop i events))
      ≡ wait_after false j k (stop n events)
  pub over : (j k : ℕ) → (has_pair ended j k || ended_past n j k (clocks_of clocks) (drop i events)) ≡ ended_past n j k (λ s. 0) events
  pub given_up : (j k : ℕ) → (has_pair left j k || withdrawn_past n j k (clocks_of clocks) (drop i events))
      ≡ withdrawn_past n j k (λ s. 0) events

-- no table yet
pub all_zero : (clocks : List ℕ) → ((s : ℕ) → clock_at clocks s ≡ 0) → clocks_of clocks ≡ (λ s. 0)
all_zero clocks zero = fun_ext zero

pub stop_begun : (n : ℕ) (events : List WorldEvent) (clocks : List ℕ) (waits ended left : List (List ℕ))
    → FitClocks (λ s. 0) events → ((s : ℕ) → clock_at clocks s ≡ 0)
    → ((j k : ℕ) → has_pair waits j k ≡ false) → ((j k : ℕ) → has_pair ended j k ≡ false) → ((j k : ℕ) → has_pair left j k ≡ false)
    → IsStopSoFar n events 0 clocks waits ended left
stop_begun n events clocks waits ended left fit zero none no_ended no_left =
    let at : clocks_of clocks ≡ (λ s. 0) = all_zero clocks zero in
    record {
      fit = subst (λ cs. FitClocks cs events) (sym at) fit;
      stood = λ j k. ap (λ b. wait_after b j k (events_within n (clocks_of clocks) events)) (none j k) ∙ ap (λ cs. wait_after false j k (events_within n cs events)) at;
      over = λ j k. ap (λ b. b || ended_past n j k (clocks_of clocks) events) (no_ended j k) ∙ ap (λ cs. ended_past n j k cs events) at;
      given_up = λ j k. ap (λ b. b || withdrawn_past n j k (clocks_of clocks) events) (no_left j k) ∙ ap (λ cs. withdrawn_past n j k cs events) at;
    }

module _ (events : List WorldEvent) (i : ℕ) (e : WorldEvent) (inside : i < length events) (is : e ≡ get_or events i e)
    (clocks next : List ℕ) (moved : (s : ℕ) → clock_at next s ≡ ticked (clocks_of clocks) e s) where
  rest : List WorldEvent
  rest = drop (i + 1) events

  pub next_is : clocks_of next ≡ ticked (clocks_of clocks) e
  next_is = fun_ext moved

  pub next_here : drop i events ≡ e ∷ drop (i + 1) events
  next_here = ahead events i e inside is

  pub room_here : FitClocks (clocks_of clocks) (drop i events) → HasRoom (clock_at clocks e.site) e.entry.event
  room_here fit = (subst (FitClocks (clocks_of clocks)) next_here fit).0

  pub fits_on : FitClocks (clocks_of clocks) (drop i events) → FitClocks (clocks_of next) (drop (i + 1) events)
  fits_on fit = subst (λ cs. FitClocks cs (drop (i + 1) events)) (sym next_is) (subst (FitClocks (clocks_of clocks)) next_here fit).1

  -- the newest stop
  pub newest_on : (p n m all : ℕ) → m ≡ (if is_process e.entry.declared p then declared_at (clock_at clocks e.site) e.entry.event else n)
      → newest_stop p n (clocks_of clocks) (drop i events) ≡ all → newest_stop p m (clocks_of next) (drop (i + 1) events) ≡ all
  newest_on p n m all chosen so_far =
      ap (λ q. newest_stop p q (clocks_of next) (drop (i + 1) events)) chosen
      ∙ ap (λ cs. newest_stop p (if is_process e.entry.declared p then declared_at (clock_at clocks e.site) e.entry.event else n) cs (drop (i + 1) events)) next_is
      ∙ sym (ap (newest_stop p n (clocks_of clocks)) next_here) ∙ so_far

  -- an entry within the stop, and one past it
  module _ (n : ℕ) (waits ended left : List (List ℕ)) (so_far : IsStopSoFar n events i clocks waits ended left) where
    stamp : ℕ
    stamp = clock_after (clock_at clocks e.site) e.entry.event

    within_here : (b : Bool) → is_within n (clock_after (clock_at clocks e.site) e.entry.event) e.entry.event ≡ b
        → events_within n (clocks_of clocks) (drop i events)
        ≡ (if b then e ∷ events_within n (clocks_of next) (drop (i + 1) events) else events_within n (clocks_of next) (drop (i + 1) events))
    within_here b is_b =
        ap (events_within n (clocks_of clocks)) next_here
        ∙ ap (λ z. if z then e ∷ events_within n (ticked (clocks_of clocks) e) (drop (i + 1) events) else events_within n (ticked (clocks_of clocks) e) (drop (i + 1) events)) is_b
        ∙ sym (ap (λ cs. if b then e ∷ events_within n cs (drop (i + 1) events) else events_within n cs (drop (i + 1) events)) next_is)

    ended_here : (j k : ℕ) (b : Bool) → is_within n (clock_after (clock_at clocks e.site) e.entry.event) e.entry.event ≡ b
        → ended_past n j k (clocks_of clocks) (drop i events)
        ≡ ((not b && ends j k e.entry.event) || ended_past n j k (clocks_of next) (drop (i + 1) events))
    ended_here j k b is_b =
        ap (ended_past n j k (clocks_of clocks)) next_here
        ∙ ap (λ z. (not z && ends j k e.entry.event) || ended_past n j k (ticked (clocks_of clocks) e) (drop (i + 1) events)) is_b
        ∙ sym (ap (λ cs. (not b && ends j k e.entry.event) || ended_past n j k cs (drop (i + 1) events)) next_is)

    left_here : (j k : ℕ) (b : Bool) → is_within n (clock_after (clock_at clocks e.site) e.entry.event) e.entry.event ≡ b
        → withdrawn_past n j k (clocks_of clocks) (drop i events)
        ≡ ((not b && leaves j k e.entry.event) || withdrawn_past n j k (clocks_of next) (drop (i + 1) events))
    left_here j k b is_b =
        ap (withdrawn_past n j k (clocks_of clocks)) next_here
        ∙ ap (λ z. (not z && leaves j k e.entry.event) || withdrawn_past n j k (ticked (clocks_of clocks) e) (drop (i + 1) events)) is_b
        ∙ sym (ap (λ cs. (not b && leaves j k e.entry.event) || withdrawn_past n j k cs (drop (i + 1) events)) next_is)

    pub stop_within : is_within n (clock_after (clock_at clocks e.site) e.entry.event) e.entry.event ≡ true → (more : List (List ℕ))
        → ((j k : ℕ) → has_pair more j k ≡ (begins j k e.entry.event || (not (ends j k e.entry.event) && has_pair waits j k)))
        → IsStopSoFar n events (i + 1) next more ended left
    stop_within yes_it more takes = record {
      fit = fits_on so_far.fit;
      stood = λ j k.
          ap (λ b. wait_after b j k (events_within n (clocks_of next) (drop (i + 1) events))) (takes j k)
          ∙ sym (ap (wait_after (has_pair waits j k) j k) (within_here true yes_it)) ∙ so_far.stood j k;
      over = λ j k. sym (ap (λ b. has_pair ended j k || b) (ended_here j k true yes_it)) ∙ so_far.over j k;
      given_up = λ j k. sym (ap (λ b. has_pair left j k || b) (left_here j k true yes_it)) ∙ so_far.given_up j k;
    }

    pub stop_past : is_within n (clock_after (clock_at clocks e.site) e.entry.event) e.entry.event ≡ false → (more gone : List (List ℕ))
        → ((j k : ℕ) → has_pair more j k ≡ (ends j k e.entry.event || has_pair ended j k))
        → ((j k : ℕ) → has_pair gone j k ≡ (leaves j k e.entry.event || has_pair left j k))
        → IsStopSoFar n events (i + 1) next waits more gone
    stop_past no_it more gone ended_more left_more = record {
      fit = fits_on so_far.fit;
      stood = λ j k. sym (ap (wait_after (has_pair waits j k) j k) (within_here false no_it)) ∙ so_far.stood j k;
      over = λ j k.
          ap (λ b. b || ended_past n j k (clocks_of next) (drop (i + 1) events)) (ended_more j k)
          ∙ or_middle (ends j k e.entry.event) (has_pair ended j k) (ended_past n j k (clocks_of next) (drop (i + 1) events))
          ∙ sym (ap (λ b. has_pair ended j k || b) (ended_here j k false no_it)) ∙ so_far.over j k;
      given_up = λ j k.
          ap (λ b. b || withdrawn_past n j k (clocks_of next) (drop (i + 1) events)) (left_more j k)
          ∙ or_middle (leaves j k e.entry.event) (has_pair left j k) (withdrawn_past n j k (clocks_of next) (drop (i + 1) events))
          ∙ sym (ap (λ b. has_pair left j k || b) (left_here j k false no_it)) ∙ so_far.given_up j k;
    }

-- all entries are behind
module _ (n : ℕ) (events : List WorldEvent) (i : ℕ) (clocks : List ℕ) (waits ended left : List (List ℕ))
    (end : length events ≤ i) (so_far : IsStopSoFar n events i clocks waits ended left) where
  none_left : drop i events ≡ []
  none_left = drop_all i events end

  pub stood_all : (j k : ℕ) → has_pair waits j k ≡ wait_after false j k (stop n events)
  stood_all j k = sym (ap (λ es. wait_after (has_pair waits j k) j k (events_within n (clocks_of clocks) es)) none_left) ∙ so_far.stood j k

  pub ended_all : (j k : ℕ) → has_pair ended j k ≡ ended_past n j k (λ s. 0) events
  ended_all j k = sym (or_none (has_pair ended j k)) ∙ sym (ap (λ es. has_pair ended j k || ended_past n j k (clocks_of clocks) es) none_left) ∙ so_far.over j k
    where
      or_none : (b : Bool) → (b || false) ≡ b
      or_none true = refl
      or_none false = refl

  pub left_all : (j k : ℕ) → has_pair left j k ≡ withdrawn_past n j k (λ s. 0) events
  left_all j k = sym (or_none (has_pair left j k)) ∙ sym (ap (λ es. has_pair left j k || withdrawn_past n j k (clocks_of clocks) es) none_left) ∙ so_far.given_up j k
    where
      or_none : (b : Bool) → (b || false) ≡ b
      or_none true = refl
      or_none false = refl

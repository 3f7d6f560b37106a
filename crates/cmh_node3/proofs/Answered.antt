-- What answered events make, and what became of the station.
use Rattle.std.proofs.Common.{◌≡◌, ◌≢◌, ℕ, ◌+◌, Bool, false, if◌then◌else◌, List, [], ◌∷◌, ◌++◌, length, map, take, Option, Result, Ok, Err, zero, suc, refl, sym, ap, ◌∙◌, subst, inl, inr, add-one}
use Rattle.std.specs.Prelude.{IsOk}
use Rattle.std.specs.List.{AllByRecursion}
use Rattle.std.proofs.lemmas.Bool.{eq-eqb, ne_eqb}
use Rattle.cmh_journaled.specs.Batches.{AreUntilRefused, GrewByAny}
use Rattle.cmh_journaled.specs.Keepers.{unsent}
use Rattle.cmh_journaled.specs.Steps.{HandedOver}
use Rattle.cmh_journaled.specs.declared.refusal.Refusal.{Refusal as Reason}
use Rattle.cmh_controller3.specs.declared.outcome.Outcome.{Outcome}
use Rattle.cmh_controller3.specs.declared.refusal.Refusal.{Refusal}
use Rattle.cmh_model3.specs.Entries.{Entry as Step}
use Rattle.cmh_model3.specs.Journals.{message_from, receipts_of}
use Rattle.cmh_model3.specs.declared.event.Event.{Event}
use Rattle.cmh_model3.specs.declared.event.Event.TheVariants.{Ask, Reply, Withdraw, Got, Turn}
use Rattle.cmh_model3.specs.declared.frame.Message.{Message}
use Rattle.cmh_station3.specs.Machines.{site_of_machine}
use Rattle.cmh_station3.specs.Sites.{meaning_of}
use Rattle.cmh_station3.specs.Files.{Held}
use Rattle.cmh_station3.specs.Logs.{log_meaning}
use Rattle.cmh_node3.specs.Steps.{IsOwn, Station, accepted, entries_made, got_event}

abbrev nothing : List Message
nothing = []

abbrev pub Answers : Type 0
Answers = List (Result Outcome (Reason Refusal))

module _ {File : Type 0} (told : File → Option Held) (has_failed : File → Bool) where
  abbrev made_of : List Event → Answers → List Step
  made_of = entries_made told has_failed

  -- ---- what is got

  no_message : (a : ℕ) (event : Event) → IsOwn event → message_from a event ≡ []
  no_message a (Ask asker targets) own = refl
  no_message a (Reply holder asker) own = refl
  no_message a (Withdraw asker targets) own = refl
  no_message a (Turn clock) own = refl
  no_message a (Got from clock frame) own = absurd own

  -- events of the site's own processes got nothing
  pub own_receipts : (a : ℕ) (events : List Event) (answers : Answers) → AllByRecursion IsOwn events → receipts_of a (made_of events answers) ≡ []
  own_receipts a [] answers own = refl
  own_receipts a (e ∷ es) [] own = refl
  own_receipts a (e ∷ es) (Ok o ∷ rs) own = ap (λ (l : List Message). l ++ receipts_of a (made_of es rs)) (no_message a e own.0) ∙ own_receipts a es rs own.1
  own_receipts a (e ∷ es) (Err r ∷ rs) own = own_receipts a es rs own.1

  -- messages that came from one site are no receipts from another
  pub receipts_elsewhere : (a from : ℕ) (ms : List Message) (n : ℕ) (answers : Answers) → a ≢ from → receipts_of a (made_of (take n (map (got_event from) ms)) answers) ≡ []
  receipts_elsewhere a from ms zero answers far = refl
  receipts_elsewhere a from [] (suc n) answers far = refl
  receipts_elsewhere a from (m ∷ ms) (suc n) [] far = refl
  receipts_elsewhere a from (m ∷ ms) (suc n) (Ok o ∷ rs) far =
      ap (λ (z : Bool). (if z then m ∷ [] else []) ++ receipts_of a (made_of (take n (map (got_event from) ms)) rs)) (ne_eqb from a (λ e. far (sym e)))
      ∙ receipts_elsewhere a from ms n rs far
  receipts_elsewhere a from (m ∷ ms) (suc n) (Err r ∷ rs) far = receipts_elsewhere a from ms n rs far

  -- the answers are accepted ones, and at most one refusal behind them
  abbrev UntilRefused : Answers → Type 0
  UntilRefused [] = Unit {0}
  UntilRefused (Ok o ∷ rs) = UntilRefused rs
  UntilRefused (Err r ∷ rs) = rs ≡ []

  all_until : (rs : Answers) → AllByRecursion IsOk rs → UntilRefused rs
  all_until [] h = tt
  all_until (Ok o ∷ rs) h = all_until rs h.1
  all_until (Err r ∷ rs) h = absurd (cc h.0)

  before_until : (before : Answers) (r : Reason Refusal) → AllByRecursion IsOk before → UntilRefused (before ++ Err r ∷ [])
  before_until [] r h = refl
  before_until (Ok o ∷ rs) r h = before_until rs r h.1
  before_until (Err x ∷ rs) r h = absurd (cc h.0)

  pub until : (events : List Event) (rs : Answers) → AreUntilRefused events rs → UntilRefused rs
  until events rs (inl all) = all_until rs all.0
  until events rs (inr some) = subst UntilRefused (sym some.3) (before_until some.0 some.1 some.2)

  -- from the site itself they are the accepted ones
  pub receipts_here : (from : ℕ) (ms : List Message) (answers : Answers) → UntilRefused answers
      → receipts_of from (made_of (take (length answers) (map (got_event from) ms)) answers) ≡ take (accepted answers) ms
  receipts_here from ms [] until = refl
  receipts_here from [] (Ok o ∷ rs) until = rw (add-one (accepted rs)) refl
  receipts_here from [] (Err r ∷ rs) until = take_none (accepted rs)
    where
      take_none : (n : ℕ) → nothing ≡ take n nothing
      take_none zero = refl
      take_none (suc n) = refl
  receipts_here from (m ∷ ms) (Ok o ∷ rs) until =
      let rest : List Message = receipts_of from (made_of (take (length rs) (map (got_event from) ms)) rs) in
      ap (λ (z : Bool). (if z then m ∷ [] else []) ++ rest) (eq-eqb from from refl)
      ∙ ap (λ (l : List Message). m ∷ l) (receipts_here from ms rs until)
      ∙ sym (ap (λ (n : ℕ). take n (m ∷ ms)) (add-one (accepted rs)))
  receipts_here from (m ∷ ms) (Err r ∷ rs) until =
      subst (λ (l : Answers). receipts_of from (made_of (take (length (Err r ∷ l)) (map (got_event from) (m ∷ ms))) (Err r ∷ l)) ≡ take (accepted (Err r ∷ l)) (m ∷ ms)) (sym until) refl

  -- ---- the station

  -- what waits is what was made
  pub waits : (a b : Station told has_failed) (more : List Step) → a.kept.waiting ≡ [] → GrewByAny (meaning_of site_of_machine) unsent (log_meaning told has_failed) a more b → b.kept.waiting ≡ more
  waits a b [] none grew = grew.1.kept.1 ∙ none
  waits a b (e ∷ es) none grew = grew.kept.1 ∙ ap (λ (l : List Step). l ++ e ∷ es) none

  pub still_open : (a b : Station told has_failed) (more : List Step) → a.sealed ≡ false → GrewByAny (meaning_of site_of_machine) unsent (log_meaning told has_failed) a more b → b.sealed ≡ false
  still_open a b [] works grew = grew.1.sealed ∙ works
  still_open a b (e ∷ es) works grew = grew.is_open

  pub handed_open : (a b : Station told has_failed) → HandedOver unsent a a.kept.waiting b → b.sealed ≡ a.sealed
  handed_open a b handed = ap (λ (x : Station told has_failed). x.sealed) handed.is

  -- its base is the one with which its journal begins
  pub still_based : (a b : Station told has_failed) (more : List Step) → GrewByAny (meaning_of site_of_machine) unsent (log_meaning told has_failed) a more b → b.base ≡ a.base
  still_based a b [] grew = grew.1.base
  still_based a b (e ∷ es) grew = grew.base

  pub handed_based : (a b : Station told has_failed) → HandedOver unsent a a.kept.waiting b → b.base ≡ a.base
  handed_based a b handed = ap (λ (x : Station told has_failed). x.base) handed.is

-- The base of a controller begins an epoch with its state.
use Rattle.std.proofs.Common.{◌≡◌, ◌≢◌, ℕ, true, refl, sym, ◌∙◌, inl, inr}
use Rattle.std.proofs.lemmas.Bool.{cases_Bool, true≢false}
use Rattle.cmh_controller3.specs.Controller.{Controller, home_of, state_of}
use Rattle.cmh_controller3.specs.Readings.{HasFacts}
use Rattle.cmh_runs.specs.Number.{IsNumber}
use Rattle.cmh_model3.specs.State.{is_blocked}
use Rattle.cmh_model3.proofs.Marks.{some_in}
use Rattle.cmh_segment3.specs.States.{BeginsEpoch, turned_to}

module _ (c : Controller) (known : HasFacts c) where
  number_here : (p : ℕ) → home_of c p ≡ c.site → IsNumber p
  number_here p here = known.numbers p (λ none. known.site (sym here ∙ none))

  -- a blocked process is one of the site
  blocked_number : (k : ℕ) → is_blocked (state_of c) k ≡ true → IsNumber k
  blocked_number k blocked = let some = some_in ((state_of c).waits k) blocked in number_here k (known.facts.waits_home k some.0 some.1).0

  pub begins : ((j k : ℕ) → (state_of c).leaving j k ≡ true → IsNumber k) → ((k i : ℕ) → (state_of c).marks k i ≢ 0 → IsNumber i) → (epoch : ℕ)
      → BeginsEpoch epoch (turned_to epoch (state_of c))
  begins left origins epoch = record {
    clock = refl;
    waits = λ j k h. number_here j (known.facts.waits_home j k h).0;
    no_stamp = known.facts.no_stamp;
    leaving = λ j k h. (number_here j (known.facts.leaving_away j k h).0, left j k h);
    owed = λ k j h. (number_here k (known.facts.owed_home k j h), known.numbers j (known.askers k j h));
    marks = λ k i h. elim (cases_Bool (is_blocked (state_of c) k)) [
      | inl blocked ↦ (blocked_number k blocked, origins k i h)
      | inr active ↦ absurd (h (known.facts.no_marks k i active))
    ];
    declared = λ i h. elim (cases_Bool (is_blocked (state_of c) i)) [
      | inl blocked ↦ blocked_number i blocked
      | inr active ↦ absurd (true≢false (sym h ∙ known.facts.undeclared i active))
    ];
    stamps = λ j h. number_here j (known.asked j h);
  }

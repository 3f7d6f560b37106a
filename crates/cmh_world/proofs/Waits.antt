-- The two ways to say that a process waits for another.
use Rattle.std.proofs.Common.{◌≡◌, ◌⊎◌, ℕ, Bool, true, false, not, ◌&&◌, ◌||◌, List, [], ◌∷◌, refl, sym, ap, ◌∙◌, inl, inr, true≢false, ◌↔◌}
use Rattle.std.specs.List.{AllByRecursion}
use Rattle.std.proofs.lemmas.Bool.{or_cases, and_parts, not-true}
use Rattle.cmh_frames.specs.Entries.{WorldEvent}
use Rattle.cmh_frames.specs.Waits.{wait_after, asks_for, grants, Waits}
use Rattle.cmh_frames.specs.Laws.{StandsUnanswered}
use Rattle.cmh_frames.proofs.Journals.{wait_after-append}

-- a wait at the end stood at the start and was not answered, or an ask began it
from_start : (b : Bool) (events : List WorldEvent) (j k : ℕ) → wait_after b j k events ≡ true → ((b ≡ true) × AllByRecursion (λ (e : WorldEvent). grants k j e.entry.event ≡ false) events) ⊎ StandsUnanswered events j k
from_start b [] j k h = inl (h, tt)
from_start b (e ∷ es) j k h = go (from_start (asks_for j k e.entry.event || (not (grants k j e.entry.event) && b)) es j k h)
  where
    go : (((asks_for j k e.entry.event || (not (grants k j e.entry.event) && b)) ≡ true) × AllByRecursion (λ (e : WorldEvent). grants k j e.entry.event ≡ false) es) ⊎ StandsUnanswered es j k
        → ((b ≡ true) × AllByRecursion (λ (e : WorldEvent). grants k j e.entry.event ≡ false) (e ∷ es)) ⊎ StandsUnanswered (e ∷ es) j k
    go (inl x) = elim (or_cases (asks_for j k e.entry.event) (not (grants k j e.entry.event) && b) x.0) [
      | inl asks ↦ inr ([], e, es, refl, asks, x.1)
      | inr both ↦ let parts = and_parts (not (grants k j e.entry.event)) b both in inl (parts.1, (not-true (grants k j e.entry.event) parts.0, x.1))
    ]
    go (inr x) = inr (e ∷ x.0, x.1, x.2, ap (λ z. e ∷ z) x.3, x.4, x.5)

-- what is not answered stays
stays : (events : List WorldEvent) (j k : ℕ) → AllByRecursion (λ (e : WorldEvent). grants k j e.entry.event ≡ false) events → wait_after true j k events ≡ true
stays [] j k none = refl
stays (e ∷ es) j k none = ap (λ b. wait_after b j k es) (ap (λ g. asks_for j k e.entry.event || (not g && true)) none.0 ∙ or_true (asks_for j k e.entry.event)) ∙ stays es j k none.1
  where
    or_true : (x : Bool) → (x || true) ≡ true
    or_true true = refl
    or_true false = refl

-- an ask with no reply after it leaves a wait
to_end : (events : List WorldEvent) (j k : ℕ) → StandsUnanswered events j k → Waits events j k
to_end events j k x =
    ap (λ z. wait_after false j k z) x.3 ∙ wait_after-append false j k x.0 (x.1 ∷ x.2)
    ∙ ap (λ q. wait_after (q || (not (grants k j x.1.entry.event) && wait_after false j k x.0)) j k x.2) x.4 ∙ stays x.2 j k x.5

-- the two wordings of a wait agree
pub waits_stand : (events : List WorldEvent) (j k : ℕ) → Waits events j k ↔ StandsUnanswered events j k
waits_stand events j k = ((λ h. elim (from_start false events j k h) [ inl x ↦ absurd (true≢false (sym x.0)) | inr x ↦ x ]), to_end events j k)

-- No process waits for more than an ask may name.
use Rattle.std.proofs.Common.{◌≡◌, ◌⊎◌, ℕ, true, false, [], ◌==◌, sym, ◌∙◌, subst, inl, inr, true≢false, arith}
use Rattle.std.specs.FinSet as set
use Rattle.std.specs.List.{list_any}
use Rattle.std.proofs.lemmas.Bool.{eqb-true, and_parts, cases_eq}
use Rattle.cmh_frames.specs.Edition.{target_limit}
use Rattle.cmh_frames.specs.Topology.{Topology}
use Rattle.cmh_frames.specs.declared.event.Event.{Event}
use Rattle.cmh_frames.specs.declared.event.Event.TheVariants.{Ask, Reply, Start, Got}
use Rattle.cmh_frames.specs.Relation.{Relation, IsNarrow, RelatesToFew, has, has_some}
use Rattle.cmh_frames.specs.State.{State}
use Rattle.cmh_frames.specs.Rules.{Accepts}
use Rattle.cmh_frames.specs.Waits.{asks_for}
use Rattle.cmh_frames.proofs.Pairs.{has-empty, has-none}

-- nothing is related to anything
pub narrow_first : (limit : ℕ) → IsNarrow limit set.empty
narrow_first limit = λ a. record { others = []; few = omega arith; all = λ b h. absurd (true≢false (sym h ∙ has-empty a b)) }

-- fewer are related to no more
fewer : (limit : ℕ) (old new : Relation) (j : ℕ) → ((k : ℕ) → has new j k ≡ true → has old j k ≡ true) → RelatesToFew limit old j → RelatesToFew limit new j
fewer limit old new j was few = record { others = few.others; few = few.few; all = λ k h. few.all k (was k h) }

-- it stays so where each wait was there before or is one of an accepted ask
pub narrow_after :
    (t : Topology) (s : ℕ) (v : State) (ev : Event) (waits : Relation) → Accepts t s v ev → ((j k : ℕ) → has waits j k ≡ true → (has v.waits j k ≡ true) ⊎ (asks_for j k ev ≡ true))
    → IsNarrow (target_limit t.edition) v.waits → IsNarrow (target_limit t.edition) waits
narrow_after t s v (Ask asker targets) waits acc new old j = elim (cases_eq asker j) [
  | inl e ↦ record {
    others = targets;
    few = acc.2.within;
    all = λ k h. elim (new j k h) [
      | inl was ↦ absurd (true≢false (sym was ∙ has-none v.waits j k (subst (λ i. has_some v.waits i ≡ false) e acc.1)))
      | inr asks ↦ (and_parts (asker == j) (list_any (λ q. q == k) targets) asks).1
    ];
  }
  | inr n ↦ fewer (target_limit t.edition) v.waits waits j (λ k h. elim (new j k h) [
    | inl was ↦ was
    | inr asks ↦ absurd (n (eqb-true asker j (and_parts (asker == j) (list_any (λ q. q == k) targets) asks).0))
  ]) (old j)
]
narrow_after t s v (Reply holder asker) waits acc new old j = fewer (target_limit t.edition) v.waits waits j (λ k h. elim (new j k h) [ inl was ↦ was | inr asks ↦ absurd (true≢false (sym asks)) ]) (old j)
narrow_after t s v (Start i) waits acc new old j = fewer (target_limit t.edition) v.waits waits j (λ k h. elim (new j k h) [ inl was ↦ was | inr asks ↦ absurd (true≢false (sym asks)) ]) (old j)
narrow_after t s v (Got a f) waits acc new old j = fewer (target_limit t.edition) v.waits waits j (λ k h. elim (new j k h) [ inl was ↦ was | inr asks ↦ absurd (true≢false (sym asks)) ]) (old j)

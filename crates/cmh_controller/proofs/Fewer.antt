-- What a removed wait leaves of the other sets.
use Rattle.std.proofs.Common.{inl, inr, ◌≡◌, ◌≢◌, ℕ, Bool, true, false, not, ◌&&◌, ◌==◌, refl, sym, ap, ◌∙◌}
use Rattle.std.proofs.lemmas.Bool.{cases_eq, and_parts, eq-eqb, ne_eqb, not-true}
use Rattle.cmh_frames.specs.Relation.{Relation, has_some, without_pair, only_firsts}
use Rattle.cmh_frames.proofs.Pairs.{only-same, only-all, others_wait}

stays : (b : Bool) → not (b && not b) ≡ true
stays true = refl
stays false = refl

-- whether a process keeps its dependents where the wait of a for h is gone
abbrev pub keeps : Relation → ℕ → ℕ → ℕ → Bool
keeps waits a h k = not (has_some waits k && not (has_some (without_pair waits a h) k))

keeps_other : (waits : Relation) (a h p : ℕ) → p ≢ a → keeps waits a h p ≡ true
keeps_other waits a h p other = ap (λ b. not (has_some waits p && not b)) (others_wait waits a h p other) ∙ stays (has_some waits p)

-- it became active
pub dependents_gone : (deps waits : Relation) (a h : ℕ) → has_some waits a ≡ true → has_some (without_pair waits a h) a ≡ false → only_firsts deps (λ p. not (p == a)) ≡ only_firsts deps (keeps waits a h)
dependents_gone deps waits a h was is = only-same deps _ _ (λ p. elim (cases_eq p a) as (λ _. not (p == a) ≡ keeps waits a h p) [
  | inl e ↦ ap not (eq-eqb p a e) ∙ sym (ap (keeps waits a h) e ∙ ap (λ b. not (b && not (has_some (without_pair waits a h) a))) was ∙ ap (λ b. not (true && not b)) is)
  | inr e ↦ ap not (ne_eqb p a e) ∙ sym (keeps_other waits a h p e)
])

-- it was active, or still waits
pub dependents_kept : (deps waits : Relation) (a h : ℕ) → keeps waits a h a ≡ true → deps ≡ only_firsts deps (keeps waits a h)
dependents_kept deps waits a h here = only-all deps _ (λ p. elim (cases_eq p a) as (λ _. keeps waits a h p ≡ true) [
  | inl e ↦ ap (keeps waits a h) e ∙ here
  | inr e ↦ keeps_other waits a h p e
])

pub was_active : (a b : Bool) → a ≡ false → not (a && not b) ≡ true
was_active a b e = ap (λ x. not (x && not b)) e

-- ---- the state after a wait for h of a ended

-- where what depends on a is forgotten if and only if a was blocked and is active now
pub forgets : (deps waits : Relation) (a h : ℕ) → (has_some waits a && not (has_some (without_pair waits a h) a)) ≡ true → only_firsts deps (λ p. not (p == a)) ≡ only_firsts deps (keeps waits a h)
forgets deps waits a h woke =
    let both = and_parts (has_some waits a) (not (has_some (without_pair waits a h) a)) woke in
    dependents_gone deps waits a h both.0 (not-true (has_some (without_pair waits a h) a) both.1)

pub remembers : (deps waits : Relation) (a h : ℕ) → (has_some waits a && not (has_some (without_pair waits a h) a)) ≡ false → deps ≡ only_firsts deps (keeps waits a h)
remembers deps waits a h not_woke = dependents_kept deps waits a h (ap not not_woke)

-- What is read of words, number by number.
use Rattle.std.proofs.Common.{◌≢◌, ℕ, List, [], ◌∷◌, ◌++◌, None, Some, refl, subst}
use Rattle.std.proofs.lemmas.List.{append-nil}
use Rattle.cmh_console.specs.Front.{BeginsNone}
use Rattle.cmh_console.specs.Forms.{SpellNumbers, SpellsOne, ReadsAll}
use Rattle.cmh_console.proofs.Spellings.{SpellSoFar, spelled_on, spell_both}

module _ {X : Type 0} {IsOf : List ℕ → X → Type 0} {words left : List (List ℕ)} {numbers : List ℕ} (so_far : SpellSoFar words left numbers) where
  -- the words that are left spell the rest
  pub reads : {x : X} (more : List ℕ) → SpellNumbers left more → IsOf (numbers ++ more) x → ReadsAll IsOf words (Some x)
  reads more spell is_of = record { numbers = numbers ++ more; spell = spell_both so_far more spell; is_of = is_of }

  -- and nothing is made of what they spell
  pub reads_none : ((more : List ℕ) (x : X) → SpellNumbers left more → IsOf (numbers ++ more) x → ⊥) → ReadsAll IsOf words None
  reads_none none = λ x one.
      let on = spelled_on so_far one.numbers one.spell in
      none on.more x on.spell (subst (λ (ns : List ℕ). IsOf ns x) on.numbers_are one.is_of)

  -- a number is wanted, and there is none
  pub stops : BeginsNone left → ((x : X) → IsOf numbers x → ⊥) → ReadsAll IsOf words None
  stops none wants = reads_none (go left none)
    where
      go : (ws : List (List ℕ)) → BeginsNone ws → (more : List ℕ) (x : X) → SpellNumbers ws more → IsOf (numbers ++ more) x → ⊥
      go [] none [] x spell is_of = wants x (subst (λ (ns : List ℕ). IsOf ns x) (append-nil numbers) is_of)
      go [] none (m ∷ more) x spell is_of = spell
      go (w ∷ ws) none [] x spell is_of = spell
      go (w ∷ ws) none (m ∷ more) x spell is_of = none m ws (record { word = w; words_are = refl; numeral = spell.0.0; value = spell.0.1 })

  -- a word is left, and none is wanted
  pub goes_on : left ≢ [] → ((m : ℕ) (more : List ℕ) (x : X) → IsOf (numbers ++ m ∷ more) x → ⊥) → ReadsAll IsOf words None
  goes_on some wants = reads_none (go left some)
    where
      go : (ws : List (List ℕ)) → ws ≢ [] → (more : List ℕ) (x : X) → SpellNumbers ws more → IsOf (numbers ++ more) x → ⊥
      go [] some more x spell is_of = some refl
      go (w ∷ ws) some [] x spell is_of = spell
      go (w ∷ ws) some (m ∷ more) x spell is_of = wants m more x is_of

-- nothing is made of the words that they would be made of too
pub reads_neither : {X Y : Type 0} {IsOf : List ℕ → X → Type 0} {IsMore : List ℕ → Y → Type 0} {words : List (List ℕ)}
    → ((ns : List ℕ) (y : Y) → IsMore ns y → (x : X) × IsOf ns x) → ((x : X) → SpellsOne IsOf words x → ⊥) → ReadsAll IsMore words None
reads_neither made none = λ y one.
    let x = made one.numbers y one.is_of in
    none x.0 (record { numbers = one.numbers; spell = one.spell; is_of = x.1 })

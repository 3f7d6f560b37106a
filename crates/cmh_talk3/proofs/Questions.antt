-- Lines that ask something that no script says, or nothing.
use Rattle.std.proofs.Common.{◌≡◌, ◌≢◌, ℕ, List, [], ◌∷◌, sym, ap, subst, ◌∙◌}
use Rattle.std.specs.Prelude.{codes}
use Rattle.cmh_console.specs.Front.{Begins, BeginsNone}
use Rattle.cmh_talk3.specs.Said.{AsksNothing, NamesNumber, word_of}
use Rattle.cmh_talk3.specs.declared.deed.Question.TheVariants as asks
use Rattle.cmh_talk3.specs.declared.said.Said.TheVariants.{Silent, Deed, Question, Quit}
use Rattle.cmh_talk3.specs.declared.said.Word.{Word}
use Rattle.cmh_talk3.specs.declared.said.Word.TheVariants as word

abbrev rest : List (List ℕ) → List (List ℕ)
rest [] = []
rest (a ∷ words) = words

-- no number is behind the first word
pub no_number : (name first : List ℕ) (behind words : List (List ℕ)) (number : ℕ) → words ≡ first ∷ behind → BeginsNone behind
    → NamesNumber name words number → ⊥
no_number name first behind words number is none names =
    none number [] (subst (λ ws. Begins ws number []) (ap rest (sym names.words_are ∙ is)) names.begins)

pub asks_nothing : (words : List (List ℕ)) → ((name : Word) → words ≢ word_of name ∷ [])
    → ((process : ℕ) → NamesNumber (codes "waits") words process → ⊥)
    → ((process : ℕ) → NamesNumber (codes "owed") words process → ⊥)
    → ((process : ℕ) → NamesNumber (codes "leaving") words process → ⊥)
    → ((count : ℕ) → NamesNumber (codes "tail") words count → ⊥) → AsksNothing words
asks_nothing words no_word no_waits no_owed no_leaving no_tail (Question asks.Declared) asks = no_word word.Declared asks
asks_nothing words no_word no_waits no_owed no_leaving no_tail (Question asks.Links) asks = no_word word.Links asks
asks_nothing words no_word no_waits no_owed no_leaving no_tail (Question asks.Status) asks = no_word word.Status asks
asks_nothing words no_word no_waits no_owed no_leaving no_tail (Question asks.Watch) asks = no_word word.Watch asks
asks_nothing words no_word no_waits no_owed no_leaving no_tail (Question asks.Turn) asks = no_word word.Turn asks
asks_nothing words no_word no_waits no_owed no_leaving no_tail Quit asks = no_word word.Quit asks
asks_nothing words no_word no_waits no_owed no_leaving no_tail (Question (asks.Waits process)) asks = no_waits process asks
asks_nothing words no_word no_waits no_owed no_leaving no_tail (Question (asks.Owed process)) asks = no_owed process asks
asks_nothing words no_word no_waits no_owed no_leaving no_tail (Question (asks.Leaving process)) asks = no_leaving process asks
asks_nothing words no_word no_waits no_owed no_leaving no_tail (Question (asks.Tail count)) asks = no_tail count asks
asks_nothing words no_word no_waits no_owed no_leaving no_tail (Question asks.Bad) asks = absurd asks
asks_nothing words no_word no_waits no_owed no_leaving no_tail Silent asks = absurd asks
asks_nothing words no_word no_waits no_owed no_leaving no_tail (Deed deed) asks = absurd asks

-- Lines that ask something of a service alone, or nothing.
use Rattle.std.proofs.Common.{◌≡◌, ◌≢◌, ℕ, List, [], ◌∷◌, sym, ap, subst, ◌∙◌}
use Rattle.std.specs.Prelude.{codes}
use Rattle.cmh_console.specs.Front.{Begins, BeginsNone}
use Rattle.cmh_talk.specs.Said.{AsksNoService, NamesProcess}
use Rattle.cmh_talk.specs.declared.said.Said.TheVariants.{Event, Declared, Links, Waits, Owed, Watch, Status, Quit}

abbrev rest : List (List ℕ) → List (List ℕ)
rest [] = []
rest (a ∷ words) = words

-- no number is after the first word
pub no_number : (name word : List ℕ) (behind words : List (List ℕ)) (process : ℕ) → words ≡ word ∷ behind → BeginsNone behind
    → NamesProcess name words process → ⊥
no_number name word behind words process is none names =
    none process [] (subst (λ ws. Begins ws process []) (ap rest (sym names.words_are ∙ is)) names.begins)

pub asks_nothing : (words : List (List ℕ)) → (words ≢ codes "watch" ∷ []) → (words ≢ codes "status" ∷ [])
    → ((process : ℕ) → NamesProcess (codes "waits") words process → ⊥)
    → ((process : ℕ) → NamesProcess (codes "owed") words process → ⊥) → AsksNoService words
asks_nothing words no_watch no_status no_waits no_owed (Waits process) asks = no_waits process asks
asks_nothing words no_watch no_status no_waits no_owed (Owed process) asks = no_owed process asks
asks_nothing words no_watch no_status no_waits no_owed Watch asks = no_watch asks
asks_nothing words no_watch no_status no_waits no_owed Status asks = no_status asks
asks_nothing words no_watch no_status no_waits no_owed (Event event) asks = absurd asks
asks_nothing words no_watch no_status no_waits no_owed Declared asks = absurd asks
asks_nothing words no_watch no_status no_waits no_owed Links asks = absurd asks
asks_nothing words no_watch no_status no_waits no_owed Quit asks = absurd asks

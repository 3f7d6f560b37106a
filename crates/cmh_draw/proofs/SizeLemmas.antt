-- What holds of all members of a list so far, after one more turn of a loop.
use Rattle.std.proofs.Common.{ℕ, ◌≡◌, ◌+◌, ◌<◌, List, [], ◌∷◌, ◌++◌, length, take, get_or, sym, ap, subst, ◌∙◌}
use Rattle.std.proofs.lemmas.List.{take_more}
use Rattle.std.specs.List.{AllByRecursion}

pub all_weaker : {X : Type 0} → (P Q : X → Type 0) → ((x : X) → P x → Q x) → (xs : List X) → AllByRecursion P xs → AllByRecursion Q xs
all_weaker P Q weaker [] all = tt
all_weaker P Q weaker (x ∷ xs) all = (weaker x all.0, all_weaker P Q weaker xs all.1)

all_behind : {X : Type 0} → (Q : X → Type 0) (xs : List X) (x : X) → AllByRecursion Q xs → Q x → AllByRecursion Q (xs ++ x ∷ [])
all_behind Q [] x all holds = (holds, tt)
all_behind Q (y ∷ xs) x all holds = (all.0, all_behind Q xs x all.1 holds)

-- each member so far has P, and so Q, and the next one has Q too
pub all_more : {X : Type 0} → (P Q : X → Type 0) (xs : List X) (i : ℕ) (x : X) → i < length xs → x ≡ get_or xs i x
    → ((y : X) → P y → Q y) → Q x → AllByRecursion P (take i xs) → AllByRecursion Q (take (i + 1) xs)
all_more P Q xs i x within is weaker holds all =
    subst (AllByRecursion Q) (ap (λ y. take i xs ++ y ∷ []) is ∙ sym (take_more xs i x within))
    (all_behind Q (take i xs) x (all_weaker P Q weaker (take i xs) all) holds)

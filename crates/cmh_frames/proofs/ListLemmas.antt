-- Texts of lists, one after the other.
use Rattle.std.proofs.Common.{◌≡◌, ℕ, ◌+◌, ◌<◌, List, [], ◌∷◌, ◌++◌, length, take, get_or, sym, ap, ◌∙◌}
use Rattle.std.specs.List.{flat_map}
use Rattle.std.proofs.lemmas.List.{take_more, flat_map_more, append_assoc}

-- what a loop has written after one more turn
pub texts_written : {X : Type 0} → (text : X → List ℕ) (xs : List X) (i : ℕ) (x : X) → i < length xs → x ≡ get_or xs i x
    → flat_map text (take i xs) ++ text x ≡ flat_map text (take (i + 1) xs)
texts_written text xs i x within is =
    flat_map_more text [] (take i xs) x ∙ ap (flat_map text) (ap (λ y. take i xs ++ y ∷ []) is ∙ sym (take_more xs i x within))

-- four parts of a line
pub joined : (a b c d : List ℕ) → a ++ (b ++ (c ++ d)) ≡ a ++ b ++ c ++ d
joined a b c d = sym (append_assoc a b (c ++ d)) ∙ sym (append_assoc (a ++ b) c d)

-- and five
pub joined_five : (a b c d e : List ℕ) → a ++ (b ++ (c ++ (d ++ e))) ≡ a ++ b ++ c ++ d ++ e
joined_five a b c d e = joined a b c (d ++ e) ∙ sym (append_assoc (a ++ b ++ c) d e)

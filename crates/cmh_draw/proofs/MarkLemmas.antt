-- Marks that were added one list after the other.
use Rattle.std.proofs.Common.{◌≡◌, List, [], ◌++◌, ap, ◌∙◌, append_assoc}

pub three_added : {X : Type 0} (none one two three first second third : List X) → none ≡ [] → one ≡ none ++ first → two ≡ one ++ second
    → three ≡ two ++ third → three ≡ first ++ (second ++ third)
three_added none one two three first second third is_none is_one is_two is_three =
    is_three ∙ ap (λ l. l ++ third) (is_two ∙ ap (λ l. l ++ second) (is_one ∙ ap (λ l. l ++ first) is_none)) ∙ append_assoc first second third

-- Marks that were added one list after the other.
use Rattle.std.proofs.Common.{◌≡◌, List, [], ◌++◌, ap, ◌∙◌, append_assoc}
use Rattle.cmh_draw.proofs.MarkLemmas.{three_added}

pub four_added : {X : Type 0} (none one two three four first second third fourth : List X) → none ≡ [] → one ≡ none ++ first
    → two ≡ one ++ second → three ≡ two ++ third → four ≡ three ++ fourth → four ≡ first ++ (second ++ (third ++ fourth))
four_added none one two three four first second third fourth is_none is_one is_two is_three is_four =
    is_four ∙ ap (λ l. l ++ fourth) (three_added none one two three first second third is_none is_one is_two is_three)
    ∙ append_assoc first (second ++ third) fourth ∙ ap (λ l. first ++ l) (append_assoc second third fourth)

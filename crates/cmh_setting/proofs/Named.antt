-- The site whose declarations a line asks for.
use Rattle.std.proofs.Common.{◌≡◌, ℕ, List, [], ◌∷◌, Option, None, Some, sym, ap, subst, ◌∙◌}
use Rattle.std.specs.Prelude.{codes, MatchOption, SomeIff}
use Rattle.cmh_console.specs.Words.{IsNumeral, decimal}
use Rattle.cmh_setting.specs.SiteScript.{NamesSite}

abbrev second : List (List ℕ) → List ℕ
second [] = []
second (a ∷ []) = []
second (a ∷ b ∷ words) = b

-- the word after the name spells a number, or it doesn't
pub named : (words : List (List ℕ)) (word : List ℕ) (r : Option ℕ) → words ≡ codes "declared" ∷ word ∷ []
    → SomeIff r (IsNumeral word) (decimal word) → MatchOption r ((site : ℕ) → NamesSite words site → ⊥) (NamesSite words)
named words word None is not = λ site n. not (subst IsNumeral (ap second (sym n.1 ∙ is)) n.2)
named words word (Some n) is some = (word, is, some.0, sym some.1)

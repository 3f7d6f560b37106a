-- Lines of HTTP among those of clients.
use Rattle.std.specs.Prelude.{ℕ, Bool, List, [], ◌∷◌, codes, nat_eq}
use Rattle.std.specs.List.{list_any, starts_with}

-- the line begins with one of these words
abbrev pub begins_with_any : List ℕ → List (List ℕ) → Bool
begins_with_any line words = list_any (λ word. starts_with nat_eq line word) words

abbrev pub speaks_http : List ℕ → Bool
speaks_http line =
    begins_with_any line (codes "GET " ∷ codes "POST " ∷ codes "PUT " ∷ codes "HEAD " ∷ codes "OPTIONS " ∷ codes "DELETE "
    ∷ codes "PATCH " ∷ codes "CONNECT " ∷ codes "TRACE " ∷ codes "Host:" ∷ [])

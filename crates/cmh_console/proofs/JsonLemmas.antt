-- Reading the items of an array, one after the other.
use Rattle.std.proofs.Common.{◌≡◌, List, [], ◌∷◌, ◌++◌, Option, None, Some, ap, refl, append_assoc}
use Rattle.std.specs.Option.{option_map, option_zip}

-- what was read so far, and then the rest, if that can be read
abbrev pub with_rest : {X : Type 0} → List X → Option (List X) → Option (List X)
with_rest xs None = None
with_rest xs (Some ys) = Some (xs ++ ys)

pub with_rest-nothing : {X : Type 0} → (rest : Option (List X)) → with_rest [] rest ≡ rest
with_rest-nothing None = refl
with_rest-nothing (Some ys) = refl

-- one more is read
pub with_rest-more : {X : Type 0} → (xs : List X) (x : X) (rest : Option (List X)) → with_rest (xs ++ x ∷ []) rest ≡ with_rest xs (option_map (λ both. both.0 ∷ both.1) (option_zip (Some x) rest))
with_rest-more xs x None = refl
with_rest-more xs x (Some ys) = ap (λ l. Some l) (append_assoc xs (x ∷ []) ys)

-- the next can't be read
pub with_rest-fault : {X : Type 0} → (xs : List X) (rest : Option (List X)) → with_rest xs (option_map (λ both. both.0 ∷ both.1) (option_zip None rest)) ≡ None
with_rest-fault xs rest = refl

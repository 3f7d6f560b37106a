-- Columns of entries, pushed one after the other.
use Rattle.std.proofs.Common.{◌≡◌, ℕ, ◌+◌, ◌<◌, List, [], ◌∷◌, ◌++◌, length, map, take, get_or, sym, ap, subst, ◌∙◌, arith, refl}
use Rattle.std.proofs.lemmas.List.{take_more, map-append}
use Rattle.std.specs.List.{AllByRecursion}
use Rattle.cmh_frames.specs.Rules.{IsAscending}
use Rattle.cmh_draw.specs.Inner.Columns.{AreColumns}

all_push : (m n : ℕ) (xs : List ℕ) → m < n → AllByRecursion (λ y. m < y) xs → AllByRecursion (λ y. m < y) (xs ++ n ∷ [])
all_push m n [] less all = (less, tt)
all_push m n (x ∷ xs) less all = (all.0, all_push m n xs less all.1)

-- a number above all others is pushed
pub ascending_push : (n : ℕ) (xs : List ℕ) → AllByRecursion (λ y. y < n) xs → IsAscending xs → IsAscending (xs ++ n ∷ [])
ascending_push n [] below up = (tt, tt)
ascending_push n (x ∷ xs) below up = (all_push x n xs below.0 up.0, ascending_push n xs below.1 up.1)

pub below_push : (n : ℕ) (xs : List ℕ) → AllByRecursion (λ y. y < n) xs → AllByRecursion (λ y. y < n + 1) (xs ++ n ∷ [])
below_push n [] below = (omega arith, tt)
below_push n (x ∷ xs) below = (let less : x < n = below.0 in omega arith, below_push n xs below.1)

columns_push : (lengths : List ℕ) (n : ℕ) (all : List (List ℕ)) (site : List ℕ) → AreColumns lengths all
    → length site ≡ n → IsAscending site → AreColumns (lengths ++ n ∷ []) (all ++ site ∷ [])
columns_push [] n [] site are long up = (long, up, tt)
columns_push [] n (other ∷ all) site are long up = absurd are
columns_push (m ∷ lengths) n [] site are long up = absurd are
columns_push (m ∷ lengths) n (other ∷ all) site are long up = (are.0, are.1, columns_push lengths n all site are.2 long up)

-- the columns of one more site
pub columns_more : {X : Type 0} → (count : X → ℕ) (ys xs : List X) → ys ≡ xs → (i : ℕ) (x : X) (all : List (List ℕ)) (site : List ℕ)
    → i < length ys → x ≡ get_or ys i x → AreColumns (map count (take i xs)) all
    → length site ≡ count x → IsAscending site
    → AreColumns (map count (take (i + 1) xs)) (all ++ site ∷ [])
columns_more {X} count ys xs same i x all site within is are long up =
    let within_too : i < length xs = subst (λ (l : List X). i < length l) same within in
    let is_too : x ≡ get_or xs i x = subst (λ (l : List X). x ≡ get_or l i x) same is in
    let longer : map count (take i xs) ++ count x ∷ [] ≡ map count (take (i + 1) xs) =
    sym (map-append count (take i xs) (x ∷ [])) ∙ ap (map count) (ap (λ y. take i xs ++ y ∷ []) is_too ∙ sym (take_more xs i x within_too)) in
    subst (λ (ns : List ℕ). AreColumns ns (all ++ site ∷ [])) longer (columns_push (map count (take i xs)) (count x) all site are long up)

-- what a picture says of its columns
pub lengths_from : (lengths : List ℕ) (columns : List (List ℕ)) → AreColumns lengths columns → map (λ (of : List ℕ). length of) columns ≡ lengths
lengths_from [] [] are = refl
lengths_from [] (site ∷ columns) are = absurd are
lengths_from (n ∷ lengths) [] are = absurd are
lengths_from (n ∷ lengths) (site ∷ columns) are = ap (λ m. m ∷ map (λ (of : List ℕ). length of) columns) are.0 ∙ ap (λ ns. n ∷ ns) (lengths_from lengths columns are.2)

pub ascending_from : (lengths : List ℕ) (columns : List (List ℕ)) → AreColumns lengths columns → AllByRecursion IsAscending columns
ascending_from [] [] are = tt
ascending_from [] (site ∷ columns) are = absurd are
ascending_from (n ∷ lengths) [] are = absurd are
ascending_from (n ∷ lengths) (site ∷ columns) are = (are.1, ascending_from lengths columns are.2)

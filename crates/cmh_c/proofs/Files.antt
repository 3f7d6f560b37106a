-- Files that stand one after the other.
use Rattle.std.proofs.Common.{◌≡◌, ◌≢◌, ℕ, zero, suc, ◌+◌, ◌<◌, ◌≤◌, List, [], ◌∷◌, ◌++◌, length, drop, get_or, map, ◌==◌, false, true≢false, refl, sym, ap, ◌∙◌, arith, append_assoc, append-nil, length-append}
use Rattle.std.specs.List.{concat, sum}
use Rattle.std.proofs.lemmas.List.Sums.{sum_by-append, sum_by-cons}

-- the parts so far, and what is left of the bytes and of the lengths
pub record SplitSoFar (parts : List (List ℕ)) (rest files lens : List ℕ) (i : ℕ) : Type 0 where
  pub bytes_are : concat parts ++ rest ≡ files
  pub lens_are : map length parts ++ drop i lens ≡ lens

map_more : {X Y : Type 0} → (f : X → Y) (xs : List X) (x : X) → map f (xs ++ x ∷ []) ≡ map f xs ++ f x ∷ []
map_more f [] x = refl
map_more f (y ∷ ys) x = ap (λ l. f y ∷ l) (map_more f ys x)

concat_more : (parts : List (List ℕ)) (file : List ℕ) → concat (parts ++ file ∷ []) ≡ concat parts ++ file
concat_more [] file = append-nil file
concat_more (part ∷ parts) file = ap (λ l. part ++ l) (concat_more parts file) ∙ sym (append_assoc part (concat parts) file)

length_concat : (parts : List (List ℕ)) → length (concat parts) ≡ sum (map length parts)
length_concat [] = refl
length_concat (part ∷ parts) = length-append part (concat parts) ∙ ap (λ n. length part + n) (length_concat parts) ∙ sym (sum_by-cons (λ n. n) (length part) (map length parts))

front_of : (xs : List ℕ) (i d : ℕ) → i < length xs → drop i xs ≡ get_or xs i d ∷ drop (i + 1) xs
front_of [] i d h = absurd (omega (arith, h))
front_of (x ∷ xs) zero d h = refl
front_of (x ∷ xs) (suc i) d h =
    let below : i < length xs = omega (arith, h) in
    let next : suc (i + 1) ≡ suc i + 1 = omega arith in
    front_of xs i d below ∙ ap (λ n. get_or xs i d ∷ drop n (x ∷ xs)) next

none_after : (xs : List ℕ) (i : ℕ) → length xs ≤ i → drop i xs ≡ []
none_after [] zero h = refl
none_after [] (suc i) h = refl
none_after (x ∷ xs) zero h = absurd (omega (arith, h))
none_after (x ∷ xs) (suc i) h = none_after xs i (omega (arith, h))

-- one file more
pub split_more : {V : Type 0} → (items : V → List ℕ) (parts : List V) (file : V) (rest after files lens : List ℕ) (i d : ℕ)
    → SplitSoFar (map items parts) rest files lens i → i < length lens → rest ≡ items file ++ after → length (items file) ≡ get_or lens i d
    → SplitSoFar (map items (parts ++ file ∷ [])) after files lens (i + 1)
split_more items parts file rest after files lens i d so_far within is long = record {
  bytes_are =
      ap (λ ps. concat ps ++ after) (map_more items parts file)
      ∙ ap (λ l. l ++ after) (concat_more (map items parts) (items file))
      ∙ append_assoc (concat (map items parts)) (items file) after
      ∙ ap (λ l. concat (map items parts) ++ l) (sym is) ∙ so_far.bytes_are;
  lens_are =
      ap (λ ps. map length ps ++ drop (i + 1) lens) (map_more items parts file)
      ∙ ap (λ l. l ++ drop (i + 1) lens) (map_more length (map items parts) (items file))
      ∙ append_assoc (map length (map items parts)) (length (items file) ∷ []) (drop (i + 1) lens)
      ∙ ap (λ n. map length (map items parts) ++ n ∷ drop (i + 1) lens) long
      ∙ ap (λ l. map length (map items parts) ++ l) (sym (front_of lens i d within)) ∙ so_far.lens_are;
}

-- all files
pub whole_bytes : (parts : List (List ℕ)) (rest files lens : List ℕ) (i : ℕ) → SplitSoFar parts rest files lens i → rest ≡ [] → files ≡ concat parts
whole_bytes parts rest files lens i so_far none = sym so_far.bytes_are ∙ ap (λ l. concat parts ++ l) none ∙ append-nil (concat parts)

pub whole_lens : (parts : List (List ℕ)) (rest files lens : List ℕ) (i : ℕ) → SplitSoFar parts rest files lens i → length lens ≤ i → lens ≡ map length parts
whole_lens parts rest files lens i so_far past = sym so_far.lens_are ∙ ap (λ l. map length parts ++ l) (none_after lens i past) ∙ append-nil (map length parts)

-- how many bytes there are, and how many the lengths say
bytes_in : (parts : List (List ℕ)) (rest files lens : List ℕ) (i : ℕ) → SplitSoFar parts rest files lens i → length files + sum (drop i lens) ≡ sum lens + length rest
bytes_in parts rest files lens i so_far =
    let all : length files ≡ length (concat parts) + length rest = ap length (sym so_far.bytes_are) ∙ length-append (concat parts) rest in
    let said : sum lens ≡ sum (map length parts) + sum (drop i lens) = ap sum (sym so_far.lens_are) ∙ sum_by-append (λ n. n) (map length parts) (drop i lens) in
    let same = length_concat parts in
    omega arith

-- the next file is not all there
pub files_short : (parts : List (List ℕ)) (rest files lens : List ℕ) (i d : ℕ) → SplitSoFar parts rest files lens i → i < length lens → length rest < get_or lens i d → sum lens ≢ length files
files_short parts rest files lens i d so_far within short e =
    let all = bytes_in parts rest files lens i so_far in
    let next : sum (drop i lens) ≡ get_or lens i d + sum (drop (i + 1) lens) = ap sum (front_of lens i d within) ∙ sum_by-cons (λ n. n) (get_or lens i d) (drop (i + 1) lens) in
    omega arith

-- bytes are left after the last
pub files_long : (parts : List (List ℕ)) (rest files lens : List ℕ) (i : ℕ) → SplitSoFar parts rest files lens i → length lens ≤ i → 0 < length rest → sum lens ≢ length files
files_long parts rest files lens i so_far past left e =
    let all = bytes_in parts rest files lens i so_far in
    let none : sum (drop i lens) ≡ 0 = ap sum (none_after lens i past) in
    omega arith

pub some_left : (bytes : List ℕ) → (length bytes == 0) ≡ false → 0 < length bytes
some_left [] h = absurd (true≢false h)
some_left (b ∷ bytes) h = omega arith

-- Rows as words, files as pieces of bytes, and numbers that are written over others.
use Rattle.std.proofs.Common.{◌≡◌, ◌≢◌, ℕ, suc, zero, ◌+◌, ◌-◌, ◌<◌, ◌≤◌, List, [], ◌∷◌, ◌++◌, length, drop, get_or, map, set, take, refl, sym, ap, ◌∙◌, arith, length-append}
use Rattle.std.proofs.lemmas.List.{take-append-drop}
use Rattle.cmh_frames.specs.Rows.{Row}
use Rattle.cmh_c.specs.Opening.{words_of}

append-assoc : {X : Type 0} (xs ys zs : List X) → (xs ++ ys) ++ zs ≡ xs ++ (ys ++ zs)
append-assoc [] ys zs = refl
append-assoc (x ∷ xs) ys zs = ap (λ l. x ∷ l) (append-assoc xs ys zs)

append-nil : {X : Type 0} (xs : List X) → xs ++ [] ≡ xs
append-nil [] = refl
append-nil (x ∷ xs) = ap (λ l. x ∷ l) (append-nil xs)

-- ---- rows

words_of_more : (rows : List Row) (row : Row) → words_of (rows ++ row ∷ []) ≡ words_of rows ++ (row.0 ∷ length row.1 ∷ row.1)
words_of_more [] row = ap (λ l. row.0 ∷ length row.1 ∷ l) (append-nil row.1)
words_of_more (r ∷ rows) row =
    ap (λ l. r.0 ∷ length r.1 ∷ r.1 ++ l) (words_of_more rows row)
    ∙ ap (λ l. r.0 ∷ length r.1 ∷ l) (sym (append-assoc r.1 (words_of rows) (row.0 ∷ length row.1 ∷ row.1)))

-- one row more
pub words_on : (rows : List Row) (site count : ℕ) (ps after words rest : List ℕ) → words_of rows ++ rest ≡ words
    → rest ≡ site ∷ count ∷ ps ++ after → count ≡ length ps → words_of (rows ++ (site, ps) ∷ []) ++ after ≡ words
words_on rows site count ps after words rest so_far is len =
    ap (λ l. l ++ after) (words_of_more rows (site, ps))
    ∙ append-assoc (words_of rows) (site ∷ length ps ∷ ps) after
    ∙ ap (λ n. words_of rows ++ (site ∷ n ∷ ps ++ after)) (sym len)
    ∙ ap (λ l. words_of rows ++ l) (sym is) ∙ so_far

pub words_done : (rows : List Row) (rest words : List ℕ) → words_of rows ++ rest ≡ words → rest ≡ [] → words ≡ words_of rows
words_done rows rest words so_far none = sym so_far ∙ ap (λ l. words_of rows ++ l) none ∙ append-nil (words_of rows)

take_all_of : (xs : List ℕ) → take (length xs) xs ≡ xs
take_all_of [] = refl
take_all_of (x ∷ xs) = ap (λ l. x ∷ l) (take_all_of xs)

-- what a pattern of two words and the rest takes apart
pub two_words : (rest ps after : List ℕ) (n : ℕ) → 2 ≤ length rest → ps ≡ take n (take (length rest - 2) (drop 2 rest))
    → after ≡ drop n (take (length rest - 2) (drop 2 rest)) → rest ≡ get_or rest 0 0 ∷ get_or rest 1 0 ∷ ps ++ after
two_words [] ps after n h first later = absurd (omega (arith, h))
two_words (x ∷ []) ps after n h first later = absurd (omega (arith, h))
two_words (x ∷ y ∷ rest) ps after n h first later =
    let len : length (x ∷ y ∷ rest) - 2 ≡ length rest = omega arith in
    let all : take (length (x ∷ y ∷ rest) - 2) rest ≡ rest = ap (λ k. take k rest) len ∙ take_all_of rest in
    let front : ps ≡ take n rest = first ∙ ap (take n) all in
    let back : after ≡ drop n rest = later ∙ ap (drop n) all in
    ap (λ l. x ∷ y ∷ l) (sym (take-append-drop n rest)) ∙ ap (λ l. x ∷ y ∷ l ++ drop n rest) (sym front) ∙ ap (λ l. x ∷ y ∷ ps ++ l) (sym back)

-- ---- numbers, and what stands for them

-- one more of those that are written over the first
pub put_mapped : {X Y : Type 0} (f : X → Y) (ps : List X) (os : List Y) (d : X) (i : ℕ) → i < length ps → i < length os
    → set (map f (take i ps) ++ drop i os) i (f (get_or ps i d)) ≡ map f (take (i + 1) ps) ++ drop (i + 1) os
put_mapped f [] os d i a b = absurd (omega (arith, a))
put_mapped f (p ∷ ps) [] d i a b = absurd (omega (arith, b))
put_mapped f (p ∷ ps) (o ∷ os) d zero a b = refl
put_mapped f (p ∷ ps) (o ∷ os) d (suc i) a b =
    let below : i < length ps = omega (arith, a) in
    let room : i < length os = omega (arith, b) in
    let next : suc (i + 1) ≡ suc i + 1 = omega arith in
    ap (λ l. f p ∷ l) (put_mapped f ps os d i below room) ∙ ap (λ n. map f (take n (p ∷ ps)) ++ drop n (o ∷ os)) next

pub put_number : (ps os : List ℕ) (i : ℕ) → i < length ps → i < length os → set (take i ps ++ drop i os) i (get_or ps i 0) ≡ take (i + 1) ps ++ drop (i + 1) os
put_number [] os i a b = absurd (omega (arith, a))
put_number (p ∷ ps) [] i a b = absurd (omega (arith, b))
put_number (p ∷ ps) (o ∷ os) zero a b = refl
put_number (p ∷ ps) (o ∷ os) (suc i) a b =
    let below : i < length ps = omega (arith, a) in
    let room : i < length os = omega (arith, b) in
    let next : suc (i + 1) ≡ suc i + 1 = omega arith in
    ap (λ l. p ∷ l) (put_number ps os i below room) ∙ ap (λ n. take n (p ∷ ps) ++ drop n (o ∷ os)) next

-- ---- words that are not those of rows

same_front : (xs ys : List ℕ) (x y : List ℕ) → length xs ≡ length ys → xs ++ x ≡ ys ++ y → x ≡ y
same_front [] [] x y len e = e
same_front [] (b ∷ ys) x y len e = absurd (omega (arith, len))
same_front (a ∷ xs) [] x y len e = absurd (omega (arith, len))
same_front (a ∷ xs) (b ∷ ys) x y len e = same_front xs ys x y (let h : length (a ∷ xs) ≡ length (b ∷ ys) = len in omega (arith, h)) (ap (drop 1) e)

-- what stands after some rows is the words of others, if all of it is
rest_of_rows : (rows others : List Row) (rest : List ℕ) → words_of rows ++ rest ≡ words_of others → (left : List Row) × (rest ≡ words_of left)
rest_of_rows [] others rest e = (others, e)
rest_of_rows (row ∷ rows) [] rest e = absurd (let long : length (words_of (row ∷ rows) ++ rest) ≡ 0 = ap length e in omega (arith, long))
rest_of_rows (row ∷ rows) (other ∷ others) rest e =
    let count : length row.1 ≡ length other.1 = ap (λ l. get_or l 1 0) e in
    rest_of_rows rows others rest (same_front row.1 other.1 (words_of rows ++ rest) (words_of others) count (sym (append-assoc row.1 (words_of rows) rest) ∙ ap (drop 2) e))

-- words that begin no row
pub no_row : (rows : List Row) (rest words : List ℕ) → words_of rows ++ rest ≡ words → 0 < length rest → length rest < 2 → (others : List Row) → words ≢ words_of others
no_row rows rest words so_far some few others e = at (rest_of_rows rows others rest (so_far ∙ e))
  where
    at : (left : List Row) × (rest ≡ words_of left) → ⊥
    at ([], is) = let none : length rest ≡ 0 = ap length is in omega (arith, none, some)
    at (row ∷ left, is) = let long : length rest ≡ length (words_of (row ∷ left)) = ap length is in omega (arith, long, few)

-- a row that is cut off
pub cut_row : (rows : List Row) (rest words : List ℕ) → words_of rows ++ rest ≡ words → 2 ≤ length rest → length rest < 2 + get_or rest 1 0 → (others : List Row) → words ≢ words_of others
cut_row rows rest words so_far some cut others e = at (rest_of_rows rows others rest (so_far ∙ e))
  where
    at : (left : List Row) × (rest ≡ words_of left) → ⊥
    at ([], is) = let none : length rest ≡ 0 = ap length is in omega (arith, none, some)
    at (row ∷ left, is) =
        let count : get_or rest 1 0 ≡ length row.1 = ap (λ l. get_or l 1 0) is in
        let long : length rest ≡ length (words_of (row ∷ left)) = ap length is in
        let parts = length-append row.1 (words_of left) in
        omega (arith, count, long, parts, cut)

-- what a pattern of two words leaves
tail_long : (rest : List ℕ) → 2 ≤ length rest → length (take (length rest - 2) (drop 2 rest)) ≡ length rest - 2
tail_long [] h = absurd (omega (arith, h))
tail_long (x ∷ []) h = absurd (omega (arith, h))
tail_long (x ∷ y ∷ rest) h =
    let len : length (x ∷ y ∷ rest) - 2 ≡ length rest = omega arith in
    ap (λ k. length (take k rest)) len ∙ ap length (take_all_of rest) ∙ sym len

pub cut_after : (rows : List Row) (rest words : List ℕ) (count : ℕ) → words_of rows ++ rest ≡ words → 2 ≤ length rest → count ≡ get_or rest 1 0
    → length (take (length rest - 2) (drop 2 rest)) < count → (others : List Row) → words ≢ words_of others
cut_after rows rest words count so_far some count_is cut =
    let long = tail_long rest some in
    cut_row rows rest words so_far some (omega (arith, some, count_is, cut, long))

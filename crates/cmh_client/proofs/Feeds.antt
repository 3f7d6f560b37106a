-- Lines that stand first in bytes, and more bytes after them.
use Rattle.std.proofs.Common.{◌≡◌, ℕ, zero, suc, ◌+◌, ◌<◌, ◌≤◌, ◌==◌, Bool, true, false, true≢false, List, [], ◌∷◌, ◌++◌, length, take, drop, slice_index, Some, refl, sym, ap, subst, ◌∙◌, arith, eq-eqb}
use Rattle.std.specs.Prelude.{if◌then◌else◌}
use Rattle.std.specs.Io.BufRead.{drop_through, take_through}
use Rattle.std.proofs.lemmas.Bool.{eqb-true, ne_eqb}
use native.Mathlib.Numerals.{unary_clauses}
use Rattle.memchr.specs.Find.{IsFirstByte, Nowhere, Passes, is_byte}
use Rattle.cmh_client.specs.Lines.{BeginsWith, HasFeed, NoFeedIn, line, none, past}

within_more : (bytes more : List ℕ) (k : ℕ) → k < length bytes → k < length (bytes ++ more)
within_more [] more k few = absurd (omega arith)
within_more (x ∷ xs) more zero few = omega arith
within_more (x ∷ xs) more (suc k) few =
    let later : k < length (xs ++ more) = within_more xs more k (omega arith) in
    omega (arith, later)

index_more : (bytes more : List ℕ) (k : ℕ) → k < length bytes → slice_index (bytes ++ more) k ≡ slice_index bytes k
index_more [] more k few = absurd (omega arith)
index_more (x ∷ xs) more zero few = refl
index_more (x ∷ xs) more (suc k) few = index_more xs more k (omega arith)

pub feed_more : (bytes more : List ℕ) → HasFeed bytes → HasFeed (bytes ++ more)
feed_more bytes more (k, few, is) =
    (k, within_more bytes more k few, subst (λ (b : ℕ). b ≡ 10) (sym (index_more bytes more k few)) is)

dropped : (b : Bool) (xs more behind all : List ℕ) → all ≡ behind ++ more
    → (if b then xs ++ more else all) ≡ (if b then xs else behind) ++ more
dropped true xs more behind all is = refl
dropped false xs more behind all is = is

dropped_at : (b : Bool) (xs more behind all : List ℕ) → b ≡ true
    → (if b then xs ++ more else all) ≡ (if b then xs else behind) ++ more
dropped_at true xs more behind all is = refl
dropped_at false xs more behind all is = absurd (true≢false (sym is))

-- the bytes behind the first line feed
through : (bytes more : List ℕ) (k : ℕ) → k < length bytes → slice_index bytes k ≡ 10
    → drop_through 10 (bytes ++ more) ≡ drop_through 10 bytes ++ more
through [] more k few is = absurd (omega arith)
through (x ∷ xs) more zero few is = dropped_at (x == 10) xs more (drop_through 10 xs) (drop_through 10 (xs ++ more)) (eq-eqb x 10 is)
through (x ∷ xs) more (suc k) few is =
    dropped (x == 10) xs more (drop_through 10 xs) (drop_through 10 (xs ++ more)) (through xs more k (omega arith) is)

pub behind_more : (bytes more : List ℕ) → HasFeed bytes → drop_through 10 (bytes ++ more) ≡ drop_through 10 bytes ++ more
behind_more bytes more (k, few, is) = through bytes more k few is

taken : (b : Bool) (x : ℕ) (before all : List ℕ) → all ≡ before → (if b then x ∷ [] else x ∷ all) ≡ (if b then x ∷ [] else x ∷ before)
taken true x before all is = refl
taken false x before all is = ap (λ (l : List ℕ). x ∷ l) is

taken_at : (b : Bool) (x : ℕ) (before all : List ℕ) → b ≡ true → (if b then x ∷ [] else x ∷ all) ≡ (if b then x ∷ [] else x ∷ before)
taken_at true x before all is = refl
taken_at false x before all is = absurd (true≢false (sym is))

-- the bytes up to the first line feed
up_to : (bytes more : List ℕ) (k : ℕ) → k < length bytes → slice_index bytes k ≡ 10
    → take_through 10 (bytes ++ more) ≡ take_through 10 bytes
up_to [] more k few is = absurd (omega arith)
up_to (x ∷ xs) more zero few is = taken_at (x == 10) x (take_through 10 xs) (take_through 10 (xs ++ more)) (eq-eqb x 10 is)
up_to (x ∷ xs) more (suc k) few is =
    taken (x == 10) x (take_through 10 xs) (take_through 10 (xs ++ more)) (up_to xs more k (omega arith) is)

pub line_more : (bytes more : List ℕ) → HasFeed bytes → take_through 10 (bytes ++ more) ≡ take_through 10 bytes
line_more bytes more (k, few, is) = up_to bytes more k few is

-- more bytes come behind the rest
pub begins_more : (bytes more : List ℕ) (lines passed : List (List ℕ)) (rest : List ℕ) → BeginsWith bytes lines passed rest
    → BeginsWith (bytes ++ more) lines passed (rest ++ more)
begins_more bytes more _ _ _ (none _) = none (bytes ++ more)
begins_more bytes more _ passed rest (line _ _ lines _ feed others) =
    subst (λ (l : List ℕ). BeginsWith (bytes ++ more) (l ∷ lines) passed (rest ++ more)) (line_more bytes more feed)
    (line (bytes ++ more) (rest ++ more) lines passed (feed_more bytes more feed)
    (subst (λ (behind : List ℕ). BeginsWith behind lines passed (rest ++ more)) (sym (behind_more bytes more feed))
    (begins_more (drop_through 10 bytes) more lines passed rest others)))
begins_more bytes more lines _ rest (past _ _ _ passed feed others) =
    subst (λ (l : List ℕ). BeginsWith (bytes ++ more) lines (l ∷ passed) (rest ++ more)) (line_more bytes more feed)
    (past (bytes ++ more) (rest ++ more) lines passed (feed_more bytes more feed)
    (subst (λ (behind : List ℕ). BeginsWith behind lines passed (rest ++ more)) (sym (behind_more bytes more feed))
    (begins_more (drop_through 10 bytes) more lines passed rest others)))

-- one line more is taken
pub begins_one_more : (bytes : List ℕ) (lines passed : List (List ℕ)) (rest : List ℕ) → BeginsWith bytes lines passed rest → HasFeed rest
    → BeginsWith bytes (lines ++ take_through 10 rest ∷ []) passed (drop_through 10 rest)
begins_one_more bytes _ _ _ (none _) feed = line bytes (drop_through 10 bytes) [] [] feed (none (drop_through 10 bytes))
begins_one_more bytes _ passed rest (line _ _ lines _ first others) feed =
    line bytes (drop_through 10 rest) (lines ++ take_through 10 rest ∷ []) passed first
    (begins_one_more (drop_through 10 bytes) lines passed rest others feed)
begins_one_more bytes lines _ rest (past _ _ _ passed first others) feed =
    past bytes (drop_through 10 rest) (lines ++ take_through 10 rest ∷ []) passed first
    (begins_one_more (drop_through 10 bytes) lines passed rest others feed)

-- one line more is passed over
pub begins_past_one : (bytes : List ℕ) (lines passed : List (List ℕ)) (rest : List ℕ) → BeginsWith bytes lines passed rest → HasFeed rest
    → BeginsWith bytes lines (passed ++ take_through 10 rest ∷ []) (drop_through 10 rest)
begins_past_one bytes _ _ _ (none _) feed = past bytes (drop_through 10 bytes) [] [] feed (none (drop_through 10 bytes))
begins_past_one bytes _ passed rest (line _ _ lines _ first others) feed =
    line bytes (drop_through 10 rest) lines (passed ++ take_through 10 rest ∷ []) first
    (begins_past_one (drop_through 10 bytes) lines passed rest others feed)
begins_past_one bytes lines _ rest (past _ _ _ passed first others) feed =
    past bytes (drop_through 10 rest) lines (passed ++ take_through 10 rest ∷ []) first
    (begins_past_one (drop_through 10 bytes) lines passed rest others feed)

-- ---- the place of the first line feed

taken_to : (bytes : List ℕ) (end : ℕ) → end < length bytes → (slice_index bytes end == 10) ≡ true
    → Nowhere (Passes (is_byte 10) bytes) 0 end → take (suc end) bytes ≡ take_through 10 bytes
taken_to [] end within is before = absurd (omega arith)
taken_to (x ∷ xs) zero within is before = sym (ap (λ (b : Bool). if b then x ∷ [] else x ∷ take_through 10 xs) is)
taken_to (x ∷ xs) (suc n) within is before =
    ap (λ (l : List ℕ). x ∷ l) (taken_to xs n (omega arith) is (λ k low below. before (suc k) (omega arith) (omega arith)))
    ∙ sym (ap (λ (b : Bool). if b then x ∷ [] else x ∷ take_through 10 xs) (ne_eqb x 10 (λ e. before 0 (omega arith) (omega arith) (eq-eqb x 10 e))))

behind_feed : (bytes : List ℕ) (end : ℕ) → end < length bytes → (slice_index bytes end == 10) ≡ true
    → Nowhere (Passes (is_byte 10) bytes) 0 end → drop (suc end) bytes ≡ drop_through 10 bytes
behind_feed [] end within is before = absurd (omega arith)
behind_feed (x ∷ xs) zero within is before = sym (ap (λ (b : Bool). if b then xs else drop_through 10 xs) is)
behind_feed (x ∷ xs) (suc n) within is before =
    behind_feed xs n (omega arith) is (λ k low below. before (suc k) (omega arith) (omega arith))
    ∙ sym (ap (λ (b : Bool). if b then xs else drop_through 10 xs) (ne_eqb x 10 (λ e. before 0 (omega arith) (omega arith) (eq-eqb x 10 e))))

-- the first line and what is behind it, where its line feed was found
pub found_line : (bytes : List ℕ) (end : ℕ) → IsFirstByte (is_byte 10) bytes (Some end) → take (end + 1) bytes ≡ take_through 10 bytes
found_line bytes end found = simp unary_clauses (taken_to bytes end found.0.high found.1 found.0.before)

pub found_rest : (bytes : List ℕ) (end : ℕ) → IsFirstByte (is_byte 10) bytes (Some end) → drop (end + 1) bytes ≡ drop_through 10 bytes
found_rest bytes end found = simp unary_clauses (behind_feed bytes end found.0.high found.1 found.0.before)

pub found_feed : (bytes : List ℕ) (end : ℕ) → IsFirstByte (is_byte 10) bytes (Some end) → HasFeed bytes
found_feed bytes end found = (end, found.0.high, eqb-true (slice_index bytes end) 10 found.1)

-- up to there is none
pub none_before : (bytes : List ℕ) (end count : ℕ) → Nowhere (Passes (is_byte 10) bytes) 0 end → count ≤ end → NoFeedIn count bytes
none_before bytes end count before few k below is = before k (omega arith) (omega (arith, below, few)) (eq-eqb (slice_index bytes k) 10 is)

pub not_nowhere : (bytes : List ℕ) → HasFeed bytes → Nowhere (Passes (is_byte 10) bytes) 0 (length bytes) → ⊥
not_nowhere bytes (k, few, is) nowhere = nowhere k (omega arith) few (eq-eqb (slice_index bytes k) 10 is)

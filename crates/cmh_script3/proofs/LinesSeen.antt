-- What was read of a line so far.
use Rattle.std.proofs.Common.{◌≡◌, ℕ, suc, zero, ◌+◌, ◌-◌, ◌^◌, min, ◌<◌, ◌≤◌, Bool, true, false, ◌&&◌, List, [], ◌∷◌, ◌++◌, Option, None, Some, ◌==◌, length, get_or, take, refl, sym, ap, subst, ◌∙◌, arith, inl, inr, nat_lt, length-append, length-take, append_assoc}
use Rattle.std.proofs.lemmas.List.{take_all, take-append-le, take_more}
use native.Mathlib.Numerals.{unary_clauses}
use Rattle.std.proofs.lemmas.Bool.{lt-ltb}
use Rattle.std.proofs.lemmas.Bool.Decides.{leb_tells}
use Rattle.std.specs.Prelude.{if◌then◌else◌, IfSome}
use Rattle.std.specs.Io.BufRead.{take_through, drop_through, ends_with_byte, strip_last, first_line}
use Rattle.std.proofs.lemmas.List.{append-nil}
use Rattle.cmh_console.specs.declared.lines.NextLine.{NextLine}
use Rattle.cmh_console.specs.declared.lines.NextLine.TheVariants.{Line as Read, TooLong, End}
use Rattle.cmh_console.specs.declared.device.Piece.{Piece}
use Rattle.cmh_console.specs.declared.device.Piece.TheVariants.{Fed, Unfed, End as End_piece}
use Rattle.cmh_console.specs.Lines.{NoFeed, IsPiece, IsEndless}
use Rattle.cmh_script3.specs.Lines.{Judges, JudgesAtEnd, IsNextLine}

no_feed-append : (xs ys : List ℕ) → NoFeed xs → NoFeed ys → NoFeed (xs ++ ys)
no_feed-append [] ys none none' = none'
no_feed-append (x ∷ xs) ys none none' = (none.0, no_feed-append xs ys none.1 none')

no_feed-at : (xs : List ℕ) (k : ℕ) → NoFeed xs → k < length xs → (get_or xs k 0 == 10) ≡ false
no_feed-at [] k none below = absurd (omega arith)
no_feed-at (x ∷ xs) zero none below = none.0
no_feed-at (x ∷ xs) (suc k) none below = no_feed-at xs k none.1 (omega arith)

no_items : (xs : List ℕ) → length xs ≡ 0 → xs ≡ []
no_items [] e = refl
no_items (x ∷ xs) e = absurd (omega arith)

-- ---- no line feed at all
no_feed-ends : (xs : List ℕ) → NoFeed xs → ends_with_byte 10 xs ≡ false
no_feed-ends [] none = refl
no_feed-ends (x ∷ xs) none = ap (λ t. nat_lt 0 (length (x ∷ xs)) && t) (no_feed-at (x ∷ xs) (length (x ∷ xs) - 1) none (omega arith)) ∙ off (nat_lt 0 (length (x ∷ xs)))
  where
    off : (t : Bool) → (t && false) ≡ false
    off true = refl
    off false = refl

take_through-end : (xs : List ℕ) → NoFeed xs → take_through 10 xs ≡ xs
take_through-end [] none = refl
take_through-end (x ∷ xs) none = ap (λ t. if t then x ∷ [] else x ∷ take_through 10 xs) none.0 ∙ ap (λ ys. x ∷ ys) (take_through-end xs none.1)

drop_through-end : (xs : List ℕ) → NoFeed xs → drop_through 10 xs ≡ []
drop_through-end [] none = refl
drop_through-end (x ∷ xs) none = ap (λ t. if t then xs else drop_through 10 xs) none.0 ∙ drop_through-end xs none.1

first_line-end : (xs : List ℕ) → NoFeed xs → first_line xs ≡ xs
first_line-end xs none =
    ap (λ ys. if ends_with_byte 10 ys then strip_last 13 (strip_last 10 ys) else strip_last 10 ys) (take_through-end xs none)
    ∙ ap (λ t. if t then strip_last 13 (strip_last 10 xs) else strip_last 10 xs) (no_feed-ends xs none)
    ∙ ap (λ t. if t then take (length xs - 1) xs else xs) (no_feed-ends xs none)

-- ---- a line feed
take_through-feed : (xs rest : List ℕ) → NoFeed xs → take_through 10 (xs ++ 10 ∷ rest) ≡ xs ++ 10 ∷ []
take_through-feed [] rest none = refl
take_through-feed (x ∷ xs) rest none =
    ap (λ t. if t then x ∷ [] else x ∷ take_through 10 (xs ++ 10 ∷ rest)) none.0 ∙ ap (λ ys. x ∷ ys) (take_through-feed xs rest none.1)

drop_through-feed : (xs rest : List ℕ) → NoFeed xs → drop_through 10 (xs ++ 10 ∷ rest) ≡ rest
drop_through-feed [] rest none = refl
drop_through-feed (x ∷ xs) rest none = ap (λ t. if t then xs ++ 10 ∷ rest else drop_through 10 (xs ++ 10 ∷ rest)) none.0 ∙ drop_through-feed xs rest none.1

ends-feed : (xs : List ℕ) → ends_with_byte 10 (xs ++ 10 ∷ []) ≡ true
ends-feed xs =
    let grown = length-append xs (10 ∷ []) in
    let some : 0 < length (xs ++ 10 ∷ []) = omega arith in
    let last : length (xs ++ 10 ∷ []) - 1 ≡ length xs = omega arith in
    both (lt-ltb 0 (length (xs ++ 10 ∷ [])) some) (ap (λ k. get_or (xs ++ 10 ∷ []) k 0 == 10) last ∙ ap (λ b. b == 10) (at_last xs))
  where
    at_last : (xs : List ℕ) → get_or (xs ++ 10 ∷ []) (length xs) 0 ≡ 10
    at_last [] = refl
    at_last (x ∷ xs) = at_last xs

    both : {s t : Bool} → s ≡ true → t ≡ true → (s && t) ≡ true
    both e f = λ i. e i && f i

strip-feed : (xs : List ℕ) → strip_last 10 (xs ++ 10 ∷ []) ≡ xs
strip-feed xs =
    let grown = length-append xs (10 ∷ []) in
    let last : length (xs ++ 10 ∷ []) - 1 ≡ length xs = omega arith in
    ap (λ t. if t then take (length (xs ++ 10 ∷ []) - 1) (xs ++ 10 ∷ []) else xs ++ 10 ∷ []) (ends-feed xs)
    ∙ ap (λ k. take k (xs ++ 10 ∷ [])) last ∙ take-append-le (length xs) xs (10 ∷ []) (omega arith) ∙ take_all (length xs) xs (omega arith)

first_line-feed : (xs rest : List ℕ) → NoFeed xs → first_line (xs ++ 10 ∷ rest) ≡ strip_last 13 xs
first_line-feed xs rest none =
    ap (λ ys. if ends_with_byte 10 ys then strip_last 13 (strip_last 10 ys) else strip_last 10 ys) (take_through-feed xs rest none)
    ∙ ap (λ t. if t then strip_last 13 (strip_last 10 (xs ++ 10 ∷ [])) else strip_last 10 (xs ++ 10 ∷ [])) (ends-feed xs)
    ∙ ap (strip_last 13) (strip-feed xs)

length-strip_last : (b : ℕ) (xs : List ℕ) → length xs ≤ length (strip_last b xs) + 1
length-strip_last b xs = go (ends_with_byte b xs)
  where
    go : (t : Bool) → length xs ≤ length (if t then take (length xs - 1) xs else xs) + 1
    go true = let taken = length-take (length xs - 1) xs in omega arith
    go false = omega arith

-- ---- the first bytes of what comes in pieces
take_on : (n : ℕ) (xs ys : List ℕ) → take n xs ++ take (n - length (take n xs)) ys ≡ take n (xs ++ ys)
take_on zero xs ys = refl
take_on (suc n) [] ys = simp unary_clauses refl
take_on (suc n) (x ∷ xs) ys = simp unary_clauses (ap (λ zs. x ∷ zs) (take_on n xs ys))

-- of the bytes these were seen and those are left; the line keeps the first 4,098 that were seen
pub record SeenOf (bytes : List ℕ) (now : Option (List ℕ)) (line : List ℕ) (n : ℕ) : Type 0 where
  pub seen : List ℕ
  pub left : List ℕ
  pub split : bytes ≡ seen ++ left
  pub now_is : now ≡ Some left
  pub no_feed : NoFeed seen
  pub kept : line ≡ take 4098 seen
  pub counted : n ≤ length seen

-- the same, where the reader tells its bytes
abbrev pub HasSeen : Option (List ℕ) → Option (List ℕ) → List ℕ → ℕ → Type 0
HasSeen start now line n = (bytes : List ℕ) → start ≡ Some bytes → SeenOf bytes now line n

-- who sees so many bytes has no end of them
pub endless : (start now : Option (List ℕ)) (line : List ℕ) (n : ℕ) → HasSeen start now line n → 2 ^ 64 - 1 ≤ n → IsEndless start
endless None now line n seen many = tt
endless (Some bytes) now line n seen many =
    let s = seen bytes refl in
    let whole = ap length s.split ∙ length-append s.seen s.left in
    let counted = s.counted in
    omega (arith, whole, counted, many)

pub if_some : (o : Option (List ℕ)) (P : List ℕ → Type 0) → ((bytes : List ℕ) → o ≡ Some bytes → P bytes) → IfSome o P
if_some None P f = tt
if_some (Some bytes) P f = f bytes refl

pub piece_of : (now after : Option (List ℕ)) (line grown : List ℕ) (piece is : Piece) → piece ≡ is
    → IfSome now (λ left. IsPiece 4098 left line grown piece after) → IfSome now (λ left. IsPiece 4098 left line grown is after)
piece_of now after line grown piece is e = subst (λ (p : Piece). IfSome now (λ left. IsPiece 4098 left line grown p after)) e

module _ (bytes : List ℕ) (now after : Option (List ℕ)) (line grown : List ℕ) (n : ℕ) (s : SeenOf bytes now line n) where
  read : (piece : Piece) → IfSome now (λ left. IsPiece 4098 left line grown piece after) → IsPiece 4098 s.left line grown piece after
  read piece h = subst (λ (o : Option (List ℕ)). IfSome o (λ left. IsPiece 4098 left line grown piece after)) s.now_is h

  kept_on : (seen : List ℕ) → grown ≡ line ++ take (4098 - length line) seen → grown ≡ take 4098 (s.seen ++ seen)
  kept_on seen is = is ∙ ap (λ xs. xs ++ take (4098 - length xs) seen) s.kept ∙ take_on 4098 s.seen seen

  -- what stood ready is seen too
  pub seen_more : IfSome now (λ left. IsPiece 4098 left line grown Unfed after) → SeenOf bytes after grown (n + 1)
  seen_more h =
      let r = read Unfed h in
      let lengths = length-append s.seen r.0 in
      let counted = s.counted in
      record {
        seen = s.seen ++ r.0;
        left = r.1;
        split = s.split ∙ ap (λ xs. s.seen ++ xs) r.4 ∙ sym (append_assoc s.seen r.0 r.1);
        now_is = r.5;
        no_feed = no_feed-append s.seen r.0 s.no_feed r.2;
        kept = kept_on r.0 r.6;
        counted = omega (arith, lengths, counted, r.3);
      }

  -- the script ends
  pub ended : (next : NextLine) → IfSome now (λ left. IsPiece 4098 left line grown End_piece after) → JudgesAtEnd grown next
      → IsNextLine bytes next × (after ≡ Some (drop_through 10 bytes))
  ended next h judges =
      let r = read End_piece h in
      let all : bytes ≡ s.seen = s.split ∙ ap (λ xs. s.seen ++ xs) r.0 ∙ append-nil s.seen in
      let whole : first_line bytes ≡ s.seen = ap first_line all ∙ first_line-end s.seen s.no_feed in
      (go next judges all whole (r.2 ∙ s.kept), r.1 ∙ ap Some (sym (ap (drop_through 10) all ∙ drop_through-end s.seen s.no_feed)))
    where
      go : (next : NextLine) → JudgesAtEnd grown next → bytes ≡ s.seen → first_line bytes ≡ s.seen → grown ≡ take 4098 s.seen → IsNextLine bytes next
      go (Read line) (some, is, few) all whole kept =
          let lengths = ap length kept in
          let taken = length-take 4098 s.seen in
          let same = ap length all in
          let short : grown ≡ s.seen = kept ∙ take_all 4098 s.seen (omega arith) in
          (omega (arith, lengths, taken, some, same), is ∙ short ∙ sym whole, subst (λ (xs : List ℕ). length xs ≤ 4096) (sym is) few)
      go TooLong long all whole kept =
          let lengths = ap length kept in
          let taken = length-take 4098 s.seen in
          subst (λ (xs : List ℕ). 4096 < length xs) (sym whole) (omega arith)
      go End none all whole kept =
          let lengths = ap length kept in
          let taken = length-take 4098 s.seen in
          let empty = ap length none in
          all ∙ no_items s.seen (omega arith)

  -- the line ends with a line feed
  pub fed : (stripped : List ℕ) (next : NextLine) → IfSome now (λ left. IsPiece 4098 left line grown Fed after)
      → stripped ≡ strip_last 13 grown → Judges stripped next → IsNextLine bytes next × (after ≡ Some (drop_through 10 bytes))
  fed stripped next h strips judges =
      let r = read Fed h in
      let seen = s.seen ++ r.0 in
      let none : NoFeed seen = no_feed-append s.seen r.0 s.no_feed r.2 in
      let all : bytes ≡ seen ++ 10 ∷ r.1 = s.split ∙ ap (λ xs. s.seen ++ xs) r.3 ∙ sym (append_assoc s.seen r.0 (10 ∷ r.1)) in
      let whole : first_line bytes ≡ strip_last 13 seen = ap first_line all ∙ first_line-feed seen r.1 none in
      let lengths = ap length all ∙ length-append seen (10 ∷ r.1) in
      (go seen next judges whole (kept_on r.0 r.5) (omega (arith, lengths)), r.4 ∙ ap Some (sym (ap (drop_through 10) all ∙ drop_through-feed seen r.1 none)))
    where
      go : (seen : List ℕ) (next : NextLine) → Judges stripped next → first_line bytes ≡ strip_last 13 seen → grown ≡ take 4098 seen → 0 < length bytes → IsNextLine bytes next
      go seen (Read line) (is, few) whole kept some =
          let lengths = ap length kept in
          let taken = length-take 4098 seen in
          let most = length-strip_last 13 grown in
          let strip = ap length strips in
          let short : grown ≡ seen = kept ∙ take_all 4098 seen (omega arith) in
          (some, is ∙ strips ∙ ap (strip_last 13) short ∙ sym whole, subst (λ (xs : List ℕ). length xs ≤ 4096) (sym is) few)
      go seen TooLong long whole kept some = subst (λ (xs : List ℕ). 4096 < length xs) (sym whole) (elim (leb_tells (length seen) 4098) [
        | inl e ↦
            let short : grown ≡ seen = kept ∙ take_all 4098 seen e.1 in
            subst (λ (xs : List ℕ). 4096 < length xs) (strips ∙ ap (strip_last 13) short) long
        | inr e ↦
            let most = length-strip_last 13 seen in
            let many = e.1 in
            omega arith
      ])
      go seen End j whole kept some = absurd j

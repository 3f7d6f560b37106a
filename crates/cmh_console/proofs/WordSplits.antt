-- The first word of a line and what follows it.
use Rattle.std.proofs.Common.{◌≡◌, ◌≢◌, ◌≤◌, ◌<◌, ℕ, suc, zero, Bool, List, [], ◌∷◌, length, get_or, take, drop, refl, sym, ap, subst, ◌∙◌, arith, ne_eqb}
use Rattle.std.specs.Prelude.{if◌then◌else◌, not, ◌==◌}
use Rattle.std.specs.List.{filter, onto_first, slice_split}
use Rattle.cmh_console.specs.Words.{words_of}

-- what stands before, between and after the spaces
abbrev pieces_of : List ℕ → List (List ℕ)
pieces_of line = slice_split (λ b. b == 32) line

abbrev without_empty : List (List ℕ) → List (List ℕ)
without_empty pieces = filter (λ (word : List ℕ). not (length word == 0)) pieces

-- the pieces of a line whose first n bytes are no spaces, with a space or nothing behind them
record Splits (line : List ℕ) (n : ℕ) : Type 0 where
  pieces : List (List ℕ)
  first : pieces_of line ≡ take n line ∷ pieces
  rest : words_of (drop n line) ≡ without_empty pieces

no_space : (b : ℕ) (bs : List ℕ) → b ≢ 32 → pieces_of (b ∷ bs) ≡ onto_first b (pieces_of bs)
no_space b bs apart = ap (λ (t : Bool). if t then [] ∷ pieces_of bs else onto_first b (pieces_of bs)) (ne_eqb b 32 apart)

splits : (line : List ℕ) (n : ℕ) → n ≤ length line → ((k : ℕ) → k < n → get_or line k 0 ≢ 32) → (n < length line → get_or line n 0 ≡ 32) → Splits line n
splits [] zero within before space = record { pieces = []; first = refl; rest = refl }
splits [] (suc n) within before space = absurd (omega arith)
splits (b ∷ bs) zero within before space =
    subst (λ (x : ℕ). Splits (x ∷ bs) 0) (sym (space (omega arith))) (record { pieces = pieces_of bs; first = refl; rest = refl })
splits (b ∷ bs) (suc n) within before space =
    let inner : Splits bs n = splits bs n (omega arith) (λ k below. before (suc k) (omega arith)) (λ below. space (omega arith)) in
    record {
      pieces = inner.pieces;
      first = no_space b bs (before 0 (omega arith)) ∙ ap (onto_first b) inner.first;
      rest = inner.rest;
    }

kept : (word : List ℕ) (ps : List (List ℕ)) → 0 < length word → without_empty (word ∷ ps) ≡ word ∷ without_empty ps
kept [] ps some = absurd (omega arith)
kept (b ∷ bs) ps some =
    ap (λ (t : Bool). if not t then (b ∷ bs) ∷ without_empty ps else without_empty ps) (ne_eqb (length (b ∷ bs)) 0 (λ e. omega (arith, e)))

-- the first word of a line that begins with it
pub words_of-word : (line : List ℕ) (n : ℕ) → n ≤ length line → ((k : ℕ) → k < n → get_or line k 0 ≢ 32) → (n < length line → get_or line n 0 ≡ 32)
    → 0 < length (take n line) → words_of line ≡ take n line ∷ words_of (drop n line)
words_of-word line n within before space some =
    let s = splits line n within before space in
    ap without_empty s.first ∙ kept (take n line) s.pieces some ∙ ap (λ ps. take n line ∷ ps) (sym s.rest)

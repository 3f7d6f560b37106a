-- Processes that are named twice, found from the last row and its last process to the first.
use Rattle.std.proofs.Common.{◌≡◌, ℕ, suc, zero, ◌+◌, ◌-◌, ◌<◌, Bool, true, false, ◌||◌, ◌==◌, List, [], ◌∷◌, length, drop, get_or, sym, ap, ◌∙◌, inl, inr, arith, refl, ◌++◌}
use Rattle.std.specs.List.{list_any}
use Rattle.std.proofs.Math.Seq.{drop-cons}
use Rattle.std.proofs.lemmas.Bool.{cases_eq, eq-eqb, ne_eqb, or_left, or_right}
use Rattle.cmh_frames.specs.Rows.{Row, repeats, all_members}
use Rattle.cmh_frames.specs.Inner.Twice.{has_process, repeats_among, repeats_process}
use Rattle.std.proofs.lemmas.List.Folds.{list_any-append}

-- one item more of a list, from its last to its first
pub drop_back : {X : Type 0} (xs : List X) (later : ℕ) (x : X) → later < length xs → x ≡ get_or xs (length xs - 1 - later) x → drop (length xs - (later + 1)) xs ≡ x ∷ drop (length xs - later) xs
drop_back xs later x h is =
    let i : ℕ = length xs - 1 - later in
    let here : i < length xs = omega arith in
    let before : length xs - (later + 1) ≡ i = omega arith in
    let after : suc i ≡ length xs - later = omega arith in
    ap (λ n. drop n xs) before ∙ drop-cons xs i x here ∙ ap (λ y. y ∷ drop (suc i) xs) (sym is) ∙ ap (λ n. x ∷ drop n xs) after

-- what is repeated at the end is repeated
more_among : (rows : List Row) (ps : List ℕ) (k : ℕ) → repeats_among rows (drop k ps) ≡ true → repeats_among rows ps ≡ true
more_among rows [] zero h = h
more_among rows [] (suc k) h = h
more_among rows (p ∷ ps) zero h = h
more_among rows (p ∷ ps) (suc k) h = or_right (list_any (λ q. q == p) ps || has_process rows p) (repeats_among rows ps) (more_among rows ps k h)

more_process : (rows : List Row) (k : ℕ) → repeats_process (drop k rows) ≡ true → repeats_process rows ≡ true
more_process [] zero h = h
more_process [] (suc k) h = h
more_process (row ∷ rows) zero h = h
more_process (row ∷ rows) (suc k) h = or_right (repeats_among rows row.1) (repeats_process rows) (more_process rows k h)

-- a process at a place of a row
module _ (rows : List Row) (later : ℕ) (row : Row) (behind p : ℕ) (within : later < length rows) (row_is : row ≡ get_or rows (length rows - 1 - later) row)
    (inside : behind < length row.1) (p_is : p ≡ get_or row.1 (length row.1 - 1 - behind) p) where
  abbrev rest : List Row
  rest = drop (length rows - later) rows

  abbrev ps : List ℕ
  ps = drop (length row.1 - behind) row.1

  -- that is named after it
  pub named_twice : (list_any (λ q. q == p) ps || has_process rest p) ≡ true → repeats_process rows ≡ true
  named_twice h =
      let among : repeats_among rest (p ∷ ps) ≡ true = or_left (list_any (λ q. q == p) ps || has_process rest p) (repeats_among rest ps) h in
      let all = more_among rest row.1 (length row.1 - (behind + 1)) (ap (repeats_among rest) (drop_back row.1 behind p inside p_is) ∙ among) in
      more_process rows (length rows - (later + 1)) (ap repeats_process (drop_back rows later row within row_is) ∙ or_left (repeats_among rest row.1) (repeats_process rest) all)

  -- that is not
  pub named_once : (list_any (λ q. q == p) ps || has_process rest p) ≡ false → repeats_among rest ps ≡ false → repeats_among rest (drop (length row.1 - (behind + 1)) row.1) ≡ false
  named_once new none = ap (repeats_among rest) (drop_back row.1 behind p inside p_is) ∙ ap (λ b. b || repeats_among rest ps) new ∙ none

  pub one_named : (now next : ℕ → Bool) → ((q : ℕ) → now q ≡ (list_any (λ r. r == q) ps || has_process rest q)) → ((q : ℕ) → next q ≡ ((q == p) || now q))
      → (q : ℕ) → next q ≡ (list_any (λ r. r == q) (drop (length row.1 - (behind + 1)) row.1) || has_process rest q)
  one_named now next marks marked q = marked q ∙ elim (cases_eq p q) [
    | inl e ↦
        ap (λ b. b || now q) (eq-eqb q p (sym e))
        ∙ sym (ap (λ xs. list_any (λ r. r == q) xs || has_process rest q) (drop_back row.1 behind p inside p_is)
        ∙ or_left (list_any (λ r. r == q) (p ∷ ps)) (has_process rest q) (or_left (p == q) (list_any (λ r. r == q) ps) (eq-eqb p q e)))
    | inr n ↦
        ap (λ b. b || now q) (ne_eqb q p (λ e. n (sym e))) ∙ marks q
        ∙ sym (ap (λ xs. list_any (λ r. r == q) xs || has_process rest q) (drop_back row.1 behind p inside p_is)
        ∙ ap (λ b. (b || list_any (λ r. r == q) ps) || has_process rest q) (ne_eqb p q n))
  ]

-- a row of which each process is named once
module _ (rows : List Row) (later : ℕ) (row : Row) (within : later < length rows) (row_is : row ≡ get_or rows (length rows - 1 - later) row) where
  pub row_once : repeats_among (drop (length rows - later) rows) row.1 ≡ false → repeats_process (drop (length rows - later) rows) ≡ false → repeats_process (drop (length rows - (later + 1)) rows) ≡ false
  row_once among none = ap repeats_process (drop_back rows later row within row_is) ∙ ap (λ b. b || repeats_process (drop (length rows - later) rows)) among ∙ none

  pub row_named : (p : ℕ) → has_process (drop (length rows - (later + 1)) rows) p ≡ (list_any (λ q. q == p) row.1 || has_process (drop (length rows - later) rows) p)
  row_named p = ap (λ rs. has_process rs p) (drop_back rows later row within row_is)

-- ---- the check of all rows, row by row

or_assoc : (a b c : Bool) → ((a || b) || c) ≡ (a || (b || c))
or_assoc true b c = refl
or_assoc false b c = refl

named_in : (rows : List Row) (p : ℕ) → list_any (λ q. q == p) (all_members rows) ≡ has_process rows p
named_in [] p = refl
named_in (row ∷ rows) p = list_any-append (λ q. q == p) row.1 (all_members rows) ∙ ap (λ b. list_any (λ q. q == p) row.1 || b) (named_in rows p)

repeats-append : (rows : List Row) (ps : List ℕ) → repeats (ps ++ all_members rows) ≡ (repeats_among rows ps || repeats (all_members rows))
repeats-append rows [] = refl
repeats-append rows (p ∷ ps) =
    ap (λ b. b || repeats (ps ++ all_members rows)) (list_any-append (λ q. q == p) ps (all_members rows) ∙ ap (λ b. list_any (λ q. q == p) ps || b) (named_in rows p))
    ∙ ap (λ b. (list_any (λ q. q == p) ps || has_process rows p) || b) (repeats-append rows ps)
    ∙ sym (or_assoc (list_any (λ q. q == p) ps || has_process rows p) (repeats_among rows ps) (repeats (all_members rows)))

pub processes_repeat : (rows : List Row) → repeats (all_members rows) ≡ repeats_process rows
processes_repeat [] = refl
processes_repeat (row ∷ rows) = repeats-append rows row.1 ∙ ap (λ b. repeats_among rows row.1 || b) (processes_repeat rows)

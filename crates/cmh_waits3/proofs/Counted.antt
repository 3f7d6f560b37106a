-- Waits that count, as they stand in a process's list.
use Rattle.std.proofs.Common.{◌≡◌, ℕ, zero, suc, ◌+◌, ◌<◌, ◌≤◌, Bool, true, false, not, ◌&&◌, ◌||◌, ◌==◌, if◌then◌else◌, List, [], ◌∷◌, length, get_or, take, nat_lt, refl, sym, ap, ◌∙◌, inl, inr, arith, true≢false}
use Rattle.std.specs.List.{AllByRecursion, list_any}
use Rattle.std.specs.List.Sorted.{IsStrictlyIncreasing}
use Rattle.std.proofs.lemmas.Bool.{eq-eqb, ne_eqb, cases_Bool, cases_eq, lt-ltb, ltb-true}
use Rattle.std.proofs.lemmas.List.Folds.{list_any_more}
use Rattle.cmh_model3.specs.Lists.{IsAscending, in_list, is_before}
use Rattle.cmh_model3.specs.State.{counts, passes}
use Rattle.cmh_model3.proofs.Counts.{and_no, not_after}
use Rattle.cmh_waits3.specs.declared.wait.Wait.{Wait}
use Rattle.cmh_waits3.specs.Held.{Held, row_in, state_of}
use Rattle.cmh_waits3.specs.Rows.{since_in, targets_of}
use Rattle.cmh_waits3.specs.Inner.Steps.{leads}
use Rattle.cmh_waits3.proofs.Lists.{at_in}
use Rattle.cmh_waits3.proofs.Members.{same_place}

-- whether a wait of p for k among these counts for the ask of i with stamp n
abbrev pub is_counted : ℕ → ℕ → ℕ → ℕ → Wait → Bool
is_counted n i p k w = (w.target == k) && not (is_before n i w.since p)

-- one that stands in the list has its stamp there
pub counted : (n i p k : ℕ) (ws : List Wait) → IsAscending (targets_of ws) → list_any (is_counted n i p k) ws ≡ (in_list (targets_of ws) k && not (is_before n i (since_in ws k) p))
counted n i p k [] up = refl
counted n i p k (w ∷ ws) up = elim (cases_eq w.target k) [
  | inl e ↦
      let none : list_any (is_counted n i p k) ws ≡ false = counted n i p k ws up.1 ∙ ap (λ b. b && not (is_before n i (since_in ws k) p)) (not_after k (targets_of ws) (moved e (targets_of ws) up.0)) in
      ap (λ b. is_counted n i p k w || b) none
      ∙ or_no (is_counted n i p k w)
      ∙ ap (λ b. b && not (is_before n i w.since p)) (eq-eqb w.target k e)
      ∙ sym (ap (λ b. (b || in_list (targets_of ws) k) && not (is_before n i (if b then w.since else since_in ws k) p)) (eq-eqb w.target k e))
  | inr n' ↦
      ap (λ b. (b && not (is_before n i w.since p)) || list_any (is_counted n i p k) ws) (ne_eqb w.target k n')
      ∙ counted n i p k ws up.1
      ∙ sym (ap (λ b. (b || in_list (targets_of ws) k) && not (is_before n i (if b then w.since else since_in ws k) p)) (ne_eqb w.target k n'))
]
  where
    or_no : (b : Bool) → (b || false) ≡ b
    or_no true = refl
    or_no false = refl

    moved : {x : ℕ} → x ≡ k → (xs : List ℕ) → AllByRecursion (λ y. x < y) xs → AllByRecursion (λ y. k < y) xs
    moved e [] h = tt
    moved e (z ∷ zs) h = let low = h.0 in (omega (arith, e, low), moved e zs h.1)

-- some wait counts
pub some_counts : (n i p : ℕ) (ws : List Wait) → IsAscending (targets_of ws) → list_any (λ (w : Wait). not (is_before n i w.since p)) ws ≡ list_any (λ q. not (is_before n i (since_in ws q) p)) (targets_of ws)
some_counts n i p [] up = refl
some_counts n i p (w ∷ ws) up =
    ap (λ b. not (is_before n i w.since p) || b) (some_counts n i p ws up.1 ∙ later (targets_of ws) up.0)
    ∙ ap (λ b. not (is_before n i (if b then w.since else since_in ws w.target) p) || list_any (λ q. not (is_before n i (since_in (w ∷ ws) q) p)) (targets_of ws)) (sym (eq-eqb w.target w.target refl))
  where
    later : (qs : List ℕ) → AllByRecursion (λ q. w.target < q) qs → list_any (λ q. not (is_before n i (since_in ws q) p)) qs ≡ list_any (λ q. not (is_before n i (since_in (w ∷ ws) q) p)) qs
    later [] above = refl
    later (q ∷ qs) above =
        let low = above.0 in
        ap (λ b. not (is_before n i (if b then w.since else since_in ws q) p) || list_any (λ q. not (is_before n i (since_in ws q) p)) qs) (sym (ne_eqb w.target q (λ e. absurd (omega (arith, low, e)))))
        ∙ ap (λ b. not (is_before n i (since_in (w ∷ ws) q) p) || b) (later qs above.1)

-- ---- the members to which waits that count lead, as they are collected

-- the places of those so far
abbrev pub led_so_far : ℕ → ℕ → ℕ → List ℕ → List Wait → ℕ → Bool
led_so_far n i p ms ws k = nat_lt k (length ms) && list_any (is_counted n i p (get_or ms k 0)) ws

module _ (n i p : ℕ) (ms : List ℕ) (ws : List Wait) (at : ℕ) (w : Wait) (inside : at < length ws) (is : get_or ws at w ≡ w) where
  more : (k : ℕ) → list_any (is_counted n i p (get_or ms k 0)) (take (at + 1) ws) ≡ (list_any (is_counted n i p (get_or ms k 0)) (take at ws) || is_counted n i p (get_or ms k 0) w)
  more k = list_any_more (is_counted n i p (get_or ms k 0)) ws at w inside ∙ ap (λ (x : Wait). list_any (is_counted n i p (get_or ms k 0)) (take at ws) || is_counted n i p (get_or ms k 0) x) is

  -- the next one doesn't count, or is for another site
  pub led_skip : ((k : ℕ) → k < length ms → is_counted n i p (get_or ms k 0) w ≡ false) → (k : ℕ) → led_so_far n i p ms (take (at + 1) ws) k ≡ led_so_far n i p ms (take at ws) k
  led_skip none k = elim (cases_Bool (nat_lt k (length ms))) [
    | inr past ↦ ap (λ b. b && list_any (is_counted n i p (get_or ms k 0)) (take (at + 1) ws)) past ∙ sym (ap (λ b. b && list_any (is_counted n i p (get_or ms k 0)) (take at ws)) past)
    | inl below ↦ ap (λ b. nat_lt k (length ms) && b) (more k ∙ ap (λ b. list_any (is_counted n i p (get_or ms k 0)) (take at ws) || b) (none k (ltb-true k (length ms) below)) ∙ or_no (list_any (is_counted n i p (get_or ms k 0)) (take at ws)))
  ]
    where
      or_no : (b : Bool) → (b || false) ≡ b
      or_no true = refl
      or_no false = refl

  -- it counts, and is for the member at this place
  pub led_more : IsStrictlyIncreasing ms → not (is_before n i w.since p) ≡ true → (place : ℕ) → place < length ms → get_or ms place 0 ≡ w.target
      → (k : ℕ) → led_so_far n i p ms (take (at + 1) ws) k ≡ ((k == place) || led_so_far n i p ms (take at ws) k)
  led_more up old place within there k = elim (cases_Bool (nat_lt k (length ms))) [
    | inr past ↦
        ap (λ b. b && list_any (is_counted n i p (get_or ms k 0)) (take (at + 1) ws)) past
        ∙ sym (ap (λ b. (k == place) || (b && list_any (is_counted n i p (get_or ms k 0)) (take at ws))) past
        ∙ ap (λ b. b || false) (ne_eqb k place (λ e. true≢false (sym (lt-ltb place (length ms) within) ∙ ap (λ j. nat_lt j (length ms)) (sym e) ∙ past))))
    | inl below ↦
        ap (λ b. b && list_any (is_counted n i p (get_or ms k 0)) (take (at + 1) ws)) below
        ∙ more k
        ∙ ap (λ b. list_any (is_counted n i p (get_or ms k 0)) (take at ws) || ((w.target == get_or ms k 0) && b)) old
        ∙ ap (λ b. list_any (is_counted n i p (get_or ms k 0)) (take at ws) || (b && true)) (same k (ltb-true k (length ms) below))
        ∙ turned (list_any (is_counted n i p (get_or ms k 0)) (take at ws)) (k == place)
        ∙ sym (ap (λ b. (k == place) || (b && list_any (is_counted n i p (get_or ms k 0)) (take at ws))) below)
  ]
    where
      same : (k : ℕ) → k < length ms → (w.target == get_or ms k 0) ≡ (k == place)
      same k low = elim (cases_eq k place) [
        | inl e ↦ eq-eqb w.target (get_or ms k 0) (sym there ∙ ap (λ j. get_or ms j 0) (sym e)) ∙ sym (eq-eqb k place e)
        | inr ne ↦ ne_eqb w.target (get_or ms k 0) (λ e. ne (same_place ms up k place low within (sym e ∙ sym there))) ∙ sym (ne_eqb k place ne)
      ]

      turned : (a b : Bool) → (a || (b && true)) ≡ (b || a)
      turned true true = refl
      turned true false = refl
      turned false true = refl
      turned false false = refl

-- a wait that doesn't count, and one for another site
pub young_uncounted : (n i p : ℕ) (w : Wait) → not (is_before n i w.since p) ≡ false → (k : ℕ) → is_counted n i p k w ≡ false
young_uncounted n i p w young k = ap (λ b. (w.target == k) && b) young ∙ and_no (w.target == k)

pub away_uncounted : (n i p : ℕ) (ms : List ℕ) (w : Wait) → in_list ms w.target ≡ false → (k : ℕ) → k < length ms → is_counted n i p (get_or ms k 0) w ≡ false
away_uncounted n i p ms w away k below = ap (λ b. b && not (is_before n i w.since p)) (ne_eqb w.target (get_or ms k 0) (λ e. true≢false (sym (at_in ms k w.target below (sym e)) ∙ away)))

-- what a process's list says of the waits that count
pub counts_row : (v : Held) (n i p k : ℕ) (ws : List Wait) → ws ≡ row_in v.members v.rows p → IsAscending (targets_of ws) → list_any (is_counted n i p k) ws ≡ counts (state_of v) n i p k
counts_row v n i p k ws row up = counted n i p k ws up ∙ ap (λ (r : List Wait). in_list (targets_of r) k && not (is_before n i (since_in r k) p)) row

pub passes_row : (v : Held) (n i p : ℕ) (ws : List Wait) → ws ≡ row_in v.members v.rows p → IsAscending (targets_of ws) → list_any (λ (w : Wait). not (is_before n i w.since p)) ws ≡ passes (state_of v) n i p
passes_row v n i p ws row up = some_counts n i p ws up ∙ ap (λ (r : List Wait). list_any (λ q. not (is_before n i (since_in r q) p)) (targets_of r)) row

-- the members to which all of them lead
pub led_all : (v : Held) (n i place : ℕ) (ws : List Wait) → ws ≡ row_in v.members v.rows (get_or v.members place 0) → IsAscending (targets_of ws)
    → (k : ℕ) → led_so_far n i (get_or v.members place 0) v.members ws k ≡ leads v n i place k
led_all v n i place ws row up k = ap (λ b. nat_lt k (length v.members) && b) (counts_row v n i (get_or v.members place 0) (get_or v.members k 0) ws row up)

pub take_past : {X : Type 0} (xs : List X) (i : ℕ) → length xs ≤ i → take i xs ≡ xs
take_past [] zero past = refl
take_past [] (suc i) past = refl
take_past (x ∷ xs) zero past = absurd (omega (arith, past))
take_past (x ∷ xs) (suc i) past = ap (λ r. x ∷ r) (take_past xs i (omega (arith, past)))

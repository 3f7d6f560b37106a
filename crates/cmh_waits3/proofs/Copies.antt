-- A row that is put back.
use Rattle.std.proofs.Common.{◌≡◌, ◌≢◌, ℕ, ◌<◌, ◌≤◌, ◌==◌, Bool, true, false, not, ◌&&◌, ◌||◌, if◌then◌else◌, List, [], ◌∷◌, ◌++◌, length, get_or, nat_lt, refl, sym, ap, ◌∙◌, inl, inr, arith, true≢false}
use Rattle.std.specs.List.{list_any}
use Rattle.std.proofs.lemmas.Bool.{eq-eqb, eqb-true, cases_Bool}
use Rattle.cmh_model3.specs.Lists.{in_list, is_before, is_nonempty, without_all}
use Rattle.cmh_model3.proofs.Counts.{in_minus, or_no}
use Rattle.cmh_waits3.specs.declared.summary.Summary.{Summary}
use Rattle.cmh_waits3.specs.declared.wait.Wait.{Wait}
use Rattle.cmh_waits3.specs.Inner.Away.{IsAway}
use Rattle.cmh_waits3.specs.Inner.Steps.{has_place}
use Rattle.cmh_waits3.specs.Inner.Summaries.{IsSummary}
use Rattle.cmh_waits3.specs.Rows.{others_than, since_in, targets_of}
use Rattle.cmh_waits3.proofs.NoYounger.{before_from, not_before_through}
use Rattle.cmh_waits3.proofs.Rows.{since_kept, targets_without_all}

-- some wait is for none of these
pub left_some : (ks : List ℕ) (ws : List Wait) → list_any (λ (w : Wait). not (in_list ks w.target)) ws ≡ is_nonempty (without_all (targets_of ws) ks)
left_some ks [] = refl
left_some ks (w ∷ ws) = go (in_list ks w.target) (left_some ks ws)
  where
    go : (b : Bool) → list_any (λ (w : Wait). not (in_list ks w.target)) ws ≡ is_nonempty (without_all (targets_of ws) ks)
        → (not b || list_any (λ (w : Wait). not (in_list ks w.target)) ws) ≡ is_nonempty (if b then without_all (targets_of ws) ks else w.target ∷ without_all (targets_of ws) ks)
    go true more = more
    go false more = refl

-- the waits for others than the members
pub away_others : (ms : List ℕ) (ws : List Wait) → IsAway ms ws (others_than ms ws)
away_others ms ws = record {
  targets = λ k. ap (λ xs. in_list xs k) (targets_without_all ms ws) ∙ in_minus (targets_of ws) ms k;
  stamps = λ k out. since_kept ms ws k out;
}

-- ---- the summary of one wait more

in_added : (ws : List Wait) (w : Wait) (k : ℕ) → in_list (targets_of (ws ++ w ∷ [])) k ≡ (in_list (w.target ∷ []) k || in_list (targets_of ws) k)
in_added [] w k = sym (or_no (in_list (w.target ∷ []) k))
in_added (x ∷ ws) w k = ap (λ b. (x.target == k) || b) (in_added ws w k) ∙ turned (x.target == k) (w.target == k) (in_list (targets_of ws) k)
  where
    turned : (a b c : Bool) → (a || ((b || false) || c)) ≡ ((b || false) || (a || c))
    turned true true c = refl
    turned true false c = refl
    turned false b c = refl

since_below : (n k : ℕ) (ws : List Wait) (w : Wait) → since_in ws k ≤ n → w.since ≤ n → since_in (ws ++ w ∷ []) k ≤ n
since_below n k [] w low new = go (w.target == k)
  where
    go : (b : Bool) → (if b then w.since else 0) ≤ n
    go true = new
    go false = low
since_below n k (x ∷ ws) w low new = go (x.target == k) low (λ h. since_below n k ws w h new)
  where
    go : (b : Bool) → (if b then x.since else since_in ws k) ≤ n → (since_in ws k ≤ n → since_in (ws ++ w ∷ []) k ≤ n) → (if b then x.since else since_in (ws ++ w ∷ []) k) ≤ n
    go true h more = h
    go false h more = more h

since_above : (n k : ℕ) (ws : List Wait) (w : Wait) → (in_list (targets_of ws) k ≡ true → n ≤ since_in ws k) → n ≤ w.since → in_list (targets_of (ws ++ w ∷ [])) k ≡ true → n ≤ since_in (ws ++ w ∷ []) k
since_above n k [] w high new h = go (w.target == k) h
  where
    go : (b : Bool) → (b || false) ≡ true → n ≤ (if b then w.since else 0)
    go true there = new
    go false there = absurd (true≢false (sym there))
since_above n k (x ∷ ws) w high new h = go (x.target == k) high h (λ old there. since_above n k ws w old new there)
  where
    go : (b : Bool) → ((b || in_list (targets_of ws) k) ≡ true → n ≤ (if b then x.since else since_in ws k)) → (b || in_list (targets_of (ws ++ w ∷ [])) k) ≡ true
        → ((in_list (targets_of ws) k ≡ true → n ≤ since_in ws k) → in_list (targets_of (ws ++ w ∷ [])) k ≡ true → n ≤ since_in (ws ++ w ∷ []) k) → n ≤ (if b then x.since else since_in (ws ++ w ∷ []) k)
    go true old there more = old refl
    go false old there more = more old there

pub summary_added : (ms : List ℕ) (w : Wait) (before after : Summary)
    → ((k : ℕ) → has_place after.here.words k ≡ (has_place before.here.words k || (nat_lt k (length ms) && in_list (w.target ∷ []) (get_or ms k 0))))
    → (after.earliest ≤ before.earliest) × (after.earliest ≤ w.since) → (before.latest ≤ after.latest) × (w.since ≤ after.latest)
    → (row : List Wait) → IsSummary ms row before → IsSummary ms (row ++ w ∷ []) after
summary_added ms w before after here low high row sum = record {
  here = λ k.
      here k ∙ ap (λ z. z || (nat_lt k (length ms) && in_list (w.target ∷ []) (get_or ms k 0))) (sum.here k)
      ∙ joined (nat_lt k (length ms)) (in_list (targets_of row) (get_or ms k 0)) (in_list (w.target ∷ []) (get_or ms k 0))
      ∙ ap (λ z. nat_lt k (length ms) && z) (sym (in_added row w (get_or ms k 0)));
  earliest = λ k h.
      since_above after.earliest k row w (λ there. let a = low.0 in let b = sum.earliest k there in omega (arith, a, b)) low.1 h;
  latest = λ k. since_below after.latest k row w (let a = high.0 in let b = sum.latest k in omega (arith, a, b)) high.1;
}
  where
    joined : (a b c : Bool) → ((a && b) || (a && c)) ≡ (a && (c || b))
    joined true true true = refl
    joined true true false = refl
    joined true false true = refl
    joined true false false = refl
    joined false b c = refl

-- ---- what else is kept of it

-- who waits for none of another site has no such wait
pub put_stay : (ms : List ℕ) (row away : List Wait) (place : ℕ) (leaving after : List ℕ) (leaves : Bool) → IsAway ms row away → leaves ≡ not (length away == 0)
    → ((k : ℕ) → has_place after k ≡ ((leaves && (k == place)) || has_place leaving k))
    → has_place after place ≡ false → (k : ℕ) → in_list (targets_of row) k ≡ true → in_list ms k ≡ true
put_stay ms row away place leaving after true is told are gone k h =
    absurd (true≢false (sym (are place ∙ ap (λ b. b || has_place leaving place) (eq-eqb place place refl)) ∙ gone))
put_stay ms row away place leaving after false is told are gone k h = elim (cases_Bool (in_list ms k)) [
  | inl here ↦ here
  | inr out ↦
      let none : away ≡ [] = empty away (eqb-true (length away) 0 (was (length away == 0) told)) in
      absurd (true≢false (
      sym (is.targets k ∙ ap (λ b. b && not (in_list ms k)) h ∙ ap not out)
      ∙ ap (λ (r : List Wait). in_list (targets_of r) k) none))
]
  where
    was : (b : Bool) → false ≡ not b → b ≡ true
    was true e = refl
    was false e = e

    empty : (r : List Wait) → length r ≡ 0 → r ≡ []
    empty [] e = refl
    empty (w ∷ ws) e = absurd (omega (arith, e))

-- no wait of it is younger
pub put_no_younger : (ms : List ℕ) (row : List Wait) (summary : Summary) (n i p : ℕ) → IsSummary ms row summary → is_before n i summary.latest p ≡ false
    → (k : ℕ) → in_list (targets_of row) k ≡ true → is_before n i (since_in row k) p ≡ false
put_no_younger ms row summary n i p sum now k h =
    let low = sum.latest k in
    not_before_through n i summary.latest p (since_in row k) p now (before_from summary.latest p (since_in row k) p low (λ e. omega arith))

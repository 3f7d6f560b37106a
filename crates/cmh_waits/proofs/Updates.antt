-- What a site holds, after its rows or lists have changed.
use Rattle.std.proofs.Common.{◌≡◌, ◌<◌, ℕ, Bool, true, false, not, ◌&&◌, ◌||◌, ◌==◌, List, [], length, get_or, refl, sym, ap, ◌∙◌, subst, inl, inr, arith, cond, Result, Ok, Err, OnOk, OnErr}
use Rattle.std.proofs.Math.ListN.{set}
use Rattle.std.specs.List.{filter}
use Rattle.std.specs.List.Sorted.{IsStrictlyIncreasing}
use Rattle.std.proofs.lemmas.Bool.{eqb-true, and_parts, or_cases}
use Rattle.std.proofs.lemmas.List.{set-get_or, length-set}
use Rattle.cmh_frames.specs.Relation.{Relation, has, has_some, with_pair, without_pair}
use Rattle.cmh_frames.proofs.Pairs.{has_some-from}
use Rattle.cmh_waits.specs.Held.{Held, is_member, got_request, replied}
use Rattle.cmh_bits.specs.Bits.{is_set}
use Rattle.cmh_waits.specs.Rows.{AreRows, bit_of, is_in, relation_of}
use Rattle.cmh_waits.proofs.Asks.{same_held}
use Rattle.cmh_waits.proofs.ListLemmas.{in_less}
use Rattle.cmh_waits.proofs.RowLemmas.{bit_of-without, less_bit, rows_less, rows_list, more_listed, less_listed}

module _ (ms rows : List ℕ) (lists : List (List ℕ)) (up : IsStrictlyIncreasing ms) (are : AreRows ms rows lists)
    (p x y : ℕ) (within : p < length ms) (e : get_or ms p 0 ≡ x) (other : is_in ms y ≡ false) (old : List ℕ) (was : old ≡ get_or lists p []) where
  -- a process of another site enters the list
  rows_more : (list : List ℕ) → ((q : ℕ) → is_in list q ≡ ((q == y) || is_in old q)) → AreRows ms rows (set lists p list)
  rows_more list adds = rows_list ms rows lists up are p list x y within e other (λ z h. elim (or_cases (z == y) (is_in old z) (sym (adds z) ∙ h)) [
    | inl is ↦ ap (is_in ms) (eqb-true z y is) ∙ other
    | inr there ↦ are.elsewhere p z (ap (λ xs. is_in xs z) (sym was) ∙ there)
  ])

  unchanged : (list : List ℕ) → list ≡ old → set lists p list ≡ lists
  unchanged list same = ap (set lists p) (same ∙ was) ∙ set-get_or lists p []

  module _ {T E : Type 0} where
    pub rows_added : (r : Result T E) (list : List ℕ) → OnOk r ((q : ℕ) → is_in list q ≡ ((q == y) || is_in old q)) → OnErr r (list ≡ old) → AreRows ms rows (set lists p list)
    rows_added (Ok t) list ok err = rows_more list ok
    rows_added (Err f) list ok err = subst (λ ls. AreRows ms rows ls) (sym (unchanged list err)) are

    pub pair_added : (r : Result T E) (list : List ℕ) → OnOk r ((q : ℕ) → is_in list q ≡ ((q == y) || is_in old q)) → OnOk r (relation_of ms rows (set lists p list) ≡ with_pair (relation_of ms rows lists) x y)
    pair_added (Ok t) list ok = more_listed ms rows lists up are p list x y within e other (rows_more list ok) (λ z. ok z ∙ ap (λ xs. (z == y) || is_in xs z) was)
    pair_added (Err f) list ok = tt

    pub none_added : (r : Result T E) (list : List ℕ) → OnErr r (list ≡ old) → OnErr r (relation_of ms rows (set lists p list) ≡ relation_of ms rows lists)
    none_added (Ok t) list err = tt
    none_added (Err f) list err = ap (relation_of ms rows) (unchanged list err)

  -- and leaves it
  pub rows_taken : (list : List ℕ) → list ≡ filter (λ q. not (q == y)) old → AreRows ms rows (set lists p list)
  rows_taken list is = rows_list ms rows lists up are p list x y within e other (λ z h.
      are.elsewhere p z (ap (λ xs. is_in xs z) (sym was) ∙ (and_parts (not (z == y)) (is_in old z) (sym (ap (λ xs. is_in xs z) is ∙ in_less old y z) ∙ h)).1))

  pub pair_taken : (list : List ℕ) → list ≡ filter (λ q. not (q == y)) old → relation_of ms rows (set lists p list) ≡ without_pair (relation_of ms rows lists) x y
  pair_taken list is = less_listed ms rows lists up are p list x y within e other (rows_taken list is) (λ z. ap (λ xs. is_in xs z) is ∙ in_less old y z ∙ ap (λ xs. not (z == y) && is_in xs z) was)

pub request_held : {T E : Type 0} (r : Result T E) (v : Held) (ms : List ℕ) (w o o' : Relation) (k j : ℕ) → ◌≡◌ {A = Held} (record { members = ms; waits = w; owed = o }) v → OnOk r (o' ≡ with_pair o k j) → OnOk r (◌≡◌ {A = Held} (record { members = ms; waits = w; owed = o' }) (got_request v k j))
request_held (Ok t) v ms w o o' k j is ok = same_held ms w w o' (with_pair o k j) refl ok ∙ ap (λ h. got_request h k j) is
request_held (Err f) v ms w o o' k j is ok = tt

-- whoever waited and waits for nobody now has woken
pub woken : (old new : Relation) (j k : ℕ) (result blocked : Bool) → has old j k ≡ true → result ≡ not blocked → blocked ≡ has_some new j → result ≡ (has_some old j && not (has_some new j))
woken old new j k result blocked waited is now = is ∙ ap not now ∙ sym (ap (λ b. b && not (has_some new j)) (has_some-from old j k waited))

-- a bit is taken from a row
module _ (ms rows : List ℕ) (lists : List (List ℕ)) (up : IsStrictlyIncreasing ms) (are : AreRows ms rows lists)
    (p q x y : ℕ) (within : p < length ms) (inside : q < length ms) (e : get_or ms p 0 ≡ x) (f : get_or ms q 0 ≡ y)
    (word w : ℕ) (was : word ≡ get_or rows p 0) (takes : (k : ℕ) → is_set w k ≡ (not (k == q) && is_set word k)) where
  bits_taken : (a b : ℕ) → bit_of (set rows p w) a b ≡ (not ((a == p) && (b == q)) && bit_of rows a b)
  bits_taken = bit_of-without rows p q w (omega (arith, within, are.rows_len)) (λ k. takes k ∙ ap (λ n. not (k == q) && is_set n k) was)

  pub rows_bit_taken : AreRows ms (set rows p w) lists
  rows_bit_taken = rows_less ms rows lists up are (set rows p w) p q (length-set rows p w) bits_taken

  pub bit_taken : relation_of ms (set rows p w) lists ≡ without_pair (relation_of ms rows lists) x y
  bit_taken = less_bit ms rows lists up are (set rows p w) p q x y rows_bit_taken within inside e f bits_taken

pub replied_here : (v : Held) (k j : ℕ) → is_member v j ≡ true → replied v k j ≡ record v { waits = without_pair v.waits j k; owed = without_pair v.owed k j }
replied_here v k j here = ap (λ b. record v { waits = cond b (without_pair v.waits j k) v.waits; owed = without_pair v.owed k j }) here

pub replied_away : (v : Held) (k j : ℕ) → is_member v j ≡ false → replied v k j ≡ record v { owed = without_pair v.owed k j }
replied_away v k j away = ap (λ b. record v { waits = cond b (without_pair v.waits j k) v.waits; owed = without_pair v.owed k j }) away

-- What the rows and lists show of one member, and of none.
use Rattle.std.proofs.Common.{◌≡◌, ◌↔◌, ◌<◌, ℕ, Bool, true, false, ◌&&◌, ◌==◌, List, [], length, get_or, replicate, sym, ap, ◌∙◌, subst, inl, inr, true≢false, arith, Contains, Result, Ok, Err, IfOk, Vec}
use Rattle.std.specs.List.{filter}
use Rattle.std.specs.List.Sorted.{IsStrictlyIncreasing}
use Rattle.std.specs.FinSet as finset
use Rattle.std.proofs.lemmas.Bool.{eqb-true, and_parts, and_from, cases_lt}
use Rattle.std.proofs.lemmas.List.{get_or-replicate, get_or_past, length-replicate}
use Rattle.std.proofs.lemmas.List.Kept.{IsStrictlyIncreasing-filter}
use Rattle.std.proofs.lemmas.Map.Views.{any-filter_same}
use Rattle.cmh_frames.specs.Relation.{Relation, has}
use Rattle.cmh_frames.proofs.Members.{found_at, found_from}
use Rattle.cmh_frames.proofs.Pairs.{has-empty}
use Rattle.cmh_waits.specs.Held.{Held, IsMember, is_member, nothing_held}
use Rattle.cmh_bits.specs.Bits.{is_set}
use Rattle.cmh_waits.specs.Rows.{AreRows, is_in, place_in, relation_of}
use Rattle.cmh_bits.proofs.BitLemmas.{no_bit}
use Rattle.cmh_waits.proofs.RowLemmas.{found_place, has_bit_at, has_listed, has_none, place_at, relation_is}

-- ---- in the beginning

nothing_at : {X : Type 0} (n i : ℕ) (x : X) → get_or (replicate n x) i x ≡ x
nothing_at n i x = elim (cases_lt i n) [
  | inl h ↦ get_or-replicate n i x x h
  | inr h ↦ get_or_past (replicate n x) i x (omega (arith, length-replicate n x, h))
]

pub new_rows : (ms : List ℕ) → AreRows ms (replicate (length ms) 0) (replicate (length ms) [])
new_rows ms = record {
  rows_len = length-replicate (length ms) 0;
  lists_len = length-replicate (length ms) [];
  inside = λ a b h. absurd (true≢false (sym h ∙ ap (λ n. is_set n b) (nothing_at (length ms) a 0) ∙ no_bit b));
  elsewhere = λ a p h. absurd (true≢false (sym h ∙ ap (λ xs. is_in xs p) (nothing_at (length ms) a [])));
}

pub new_relation : (ms : List ℕ) → IsStrictlyIncreasing ms → relation_of ms (replicate (length ms) 0) (replicate (length ms) []) ≡ finset.empty
new_relation ms up = relation_is ms (replicate (length ms) 0) (replicate (length ms) []) up (new_rows ms) finset.empty
    (λ i j a b. ap (λ n. is_set n j) (nothing_at (length ms) i 0) ∙ no_bit j ∙ sym (has-empty (get_or ms i 0) (get_or ms j 0)))
    (λ i y a away. ap (λ xs. is_in xs y) (nothing_at (length ms) i []) ∙ sym (has-empty (get_or ms i 0) y))
    (λ x y away. has-empty x y)

module _ (ms ms' : List ℕ) (up : IsStrictlyIncreasing ms) (same : ms' ≡ ms) where
  module _ (r : List ℕ) (l : List (List ℕ)) (e : r ≡ replicate (length ms) 0) (f : l ≡ replicate (length ms) []) where
    pub new_rows_as : AreRows ms' r l
    new_rows_as = subst (λ xs. AreRows xs r l) (sym same) (subst (λ xs. AreRows ms xs l) (sym e) (subst (λ ls. AreRows ms (replicate (length ms) 0) ls) (sym f) (new_rows ms)))

    new_relation_as : relation_of ms' r l ≡ finset.empty
    new_relation_as = ap (λ xs. relation_of xs r l) same ∙ ap (λ xs. relation_of ms xs l) e ∙ ap (λ ls. relation_of ms (replicate (length ms) 0) ls) f ∙ new_relation ms up

  pub new_held : (r r' : List ℕ) (l l' : List (List ℕ)) → r ≡ replicate (length ms) 0 → r' ≡ replicate (length ms) 0 → l ≡ replicate (length ms) [] → l' ≡ replicate (length ms) [] → ◌≡◌ {A = Held} (record { members = ms'; waits = relation_of ms' r l; owed = relation_of ms' r' l' }) (nothing_held ms)
  new_held r r' l l' e e' f f' = λ i. record { members = same i; waits = new_relation_as r l e f i; owed = new_relation_as r' l' e' f' i }

-- ---- of one member

module _ (v : Held) (ms rows : List ℕ) (lists : List (List ℕ)) (o : Relation) (x : ℕ) (is : ◌≡◌ {A = Held} (record { members = ms; waits = relation_of ms rows lists; owed = o }) v) (up : IsStrictlyIncreasing ms) (are : AreRows ms rows lists) where
  -- a process that waits for nobody
  pub no_local : is_in ms x ≡ false → (xs : List ℕ) → xs ≡ [] → (k : ℕ) → Contains xs k ↔ ((has v.waits x k ≡ true) × IsMember v k)
  no_local away xs none k = (
    λ c. absurd (true≢false (sym (found_from xs k c) ∙ ap (λ ys. is_in ys k) none)),
    λ both. absurd (true≢false (sym (ap (λ h. has h.waits x k) is ∙ both.0) ∙ has_none ms rows lists up are x k away)),
  )

  pub no_remote : is_in ms x ≡ false → (xs : List ℕ) → xs ≡ [] → (k : ℕ) → Contains xs k ↔ ((has v.waits x k ≡ true) × (is_member v k ≡ false))
  no_remote away xs none k = (
    λ c. absurd (true≢false (sym (found_from xs k c) ∙ ap (λ ys. is_in ys k) none)),
    λ both. absurd (true≢false (sym (ap (λ h. has h.waits x k) is ∙ both.0) ∙ has_none ms rows lists up are x k away)),
  )

  module _ (p : ℕ) (within : p < length ms) (e : get_or ms p 0 ≡ x) where
    abbrev test : ℕ → Bool
    test q = is_set (get_or rows p 0) (place_in ms q)

    test_is : (k : ℕ) → is_in ms k ≡ true → test k ≡ has (relation_of ms rows lists) x k
    test_is k here =
        let i = found_place ms k here in
        ap (is_set (get_or rows p 0)) (place_at ms up i.0 k i.1 i.2) ∙ sym (has_bit_at ms rows lists up are p i.0 x k within i.1 e i.2)

    in_kept : (k : ℕ) → is_in (filter test ms) k ≡ (test k && is_in ms k)
    in_kept k = any-filter_same (λ q. q == k) test (test k) (λ q h. ap test (eqb-true q k h)) ms

    local_are : (k : ℕ) → Contains (filter test ms) k ↔ ((has v.waits x k ≡ true) × IsMember v k)
    local_are k = (
      λ c.
          let parts = and_parts (test k) (is_in ms k) (sym (in_kept k) ∙ found_from (filter test ms) k c) in
          (sym (ap (λ h. has h.waits x k) is) ∙ sym (test_is k parts.1) ∙ parts.0, sym (ap (λ h. is_member h k) is) ∙ parts.1),
      λ both.
          let here : is_in ms k ≡ true = ap (λ h. is_member h k) is ∙ both.1 in
          found_at (filter test ms) k (in_kept k ∙ and_from (test k) (is_in ms k) (test_is k here ∙ ap (λ h. has h.waits x k) is ∙ both.0) here),
    )

    remote_are : (k : ℕ) → Contains (get_or lists p []) k ↔ ((has v.waits x k ≡ true) × (is_member v k ≡ false))
    remote_are k = (
      λ c.
          let listed = found_from (get_or lists p []) k c in
          let away = are.elsewhere p k listed in
          (sym (ap (λ h. has h.waits x k) is) ∙ has_listed ms rows lists up are p x k within e away ∙ listed, sym (ap (λ h. is_member h k) is) ∙ away),
      λ both.
          let away : is_in ms k ≡ false = ap (λ h. is_member h k) is ∙ both.1 in
          found_at (get_or lists p []) k (sym (has_listed ms rows lists up are p x k within e away) ∙ ap (λ h. has h.waits x k) is ∙ both.0),
    )

    -- a list that stands at its place
    pub remote_at_place : (shown : List ℕ) → shown ≡ get_or lists p [] → (k : ℕ) → Contains shown k ↔ ((has v.waits x k ≡ true) × (is_member v k ≡ false))
    remote_at_place shown e k = subst (λ xs. Contains xs k ↔ ((has v.waits x k ≡ true) × (is_member v k ≡ false))) (sym e) (remote_are k)

    module _ {A E : Type 0} where
      pub local_all : (r : Result (Vec ℕ A) E) (ms' : List ℕ) (row : ℕ) → ms' ≡ ms → row ≡ get_or rows p 0 → IfOk r (λ all. all.items ≡ filter (λ q. is_set row (place_in ms' q)) ms') → IfOk r (λ holders. (k : ℕ) → Contains holders.items k ↔ ((has v.waits x k ≡ true) × IsMember v k))
      local_all (Ok all) ms' row same was h = λ k. subst (λ xs. Contains xs k ↔ ((has v.waits x k ≡ true) × IsMember v k)) (sym (h ∙ ap (λ n. filter (λ q. is_set n (place_in ms' q)) ms') was ∙ ap (λ ns. filter (λ q. is_set (get_or rows p 0) (place_in ns q)) ns) same)) (local_are k)
      local_all (Err f) ms' row same was h = tt

      pub remote_all : (r : Result (Vec ℕ A) E) (shown : List ℕ) → shown ≡ get_or lists p [] → IfOk r (λ all. ((a b : ℕ) → b ≡ a → b ≡ a) → all.items ≡ shown) → IfOk r (λ holders. (k : ℕ) → Contains holders.items k ↔ ((has v.waits x k ≡ true) × (is_member v k ≡ false)))
      remote_all (Ok all) shown is_list h = λ k. subst (λ xs. Contains xs k ↔ ((has v.waits x k ≡ true) × (is_member v k ≡ false))) (sym (h (λ a b e. e) ∙ is_list)) (remote_are k)
      remote_all (Err f) shown is_list h = tt

-- ---- of what is owed, which is held as the waits are

-- the owed replies in the place of the waits
abbrev pub turned : Held → Held
turned v = record { members = v.members; waits = v.owed; owed = v.waits }

pub turned_is : (v : Held) (ms : List ℕ) (w o : Relation) → ◌≡◌ {A = Held} (record { members = ms; waits = w; owed = o }) v → ◌≡◌ {A = Held} (record { members = ms; waits = o; owed = w }) (turned v)
turned_is v ms w o is = ap turned is

pub plainly : {A E : Type 0} (r : Result (Vec ℕ A) E) (shown : List ℕ) → IfOk r (λ all. all.items ≡ shown) → IfOk r (λ all. ((a b : ℕ) → b ≡ a → b ≡ a) → all.items ≡ shown)
plainly (Ok all) shown h = λ same. h
plainly (Err f) shown h = tt

pub local_up : {A E : Type 0} (r : Result (Vec ℕ A) E) (ms : List ℕ) (test : ℕ → Bool) → IsStrictlyIncreasing ms → IfOk r (λ all. all.items ≡ filter test ms) → IfOk r (λ holders. IsStrictlyIncreasing holders.items)
local_up (Ok all) ms test up h = subst IsStrictlyIncreasing (sym h) (IsStrictlyIncreasing-filter test ms up)
local_up (Err f) ms test up h = tt

-- The rows of the processes of a site.
use Rattle.std.proofs.Common.{◌≡◌, ◌≢◌, ℕ, suc, zero, ◌<◌, Bool, true, false, ◌&&◌, ◌||◌, ◌==◌, if◌then◌else◌, List, [], ◌∷◌, length, get_or, Result, Ok, Err, IfOk, refl, sym, ap, ◌∙◌, subst, inl, inr, arith, true≢false}
use Rattle.std.specs.List.Sorted.{IsStrictlyIncreasing}
use Rattle.std.proofs.Math.ListN.{set}
use Rattle.std.proofs.Math.Path.{fun_ext}
use Rattle.std.proofs.lemmas.Bool.{eq-eqb, ne_eqb, cases_Bool, cases_eq, cases_lt}
use Rattle.std.proofs.lemmas.List.Kept.{AllPairs-from_increasing}
use Rattle.cmh_model3.specs.Lists.{IsAscending, in_list, set_at, with_each, without, without_all}
use Rattle.cmh_waits3.specs.declared.wait.Wait.{Wait}
use Rattle.cmh_waits3.specs.Held.{Held, ended, row_in, rows_without, since_of, waits_of}
use Rattle.cmh_waits3.specs.Inner.Inserting.{AreInserted}
use Rattle.cmh_waits3.specs.Rows.{others_than, since_in, targets_of}
use Rattle.cmh_waits3.proofs.Lists.{in_at}
use Rattle.cmh_waits3.proofs.Rows.{inserted_waits, others_apart, since_others, targets_without_all, without_is}

-- ---- members are apart

pub same_place : (ms : List ℕ) → IsStrictlyIncreasing ms → (i j : ℕ) → i < length ms → j < length ms → get_or ms i 0 ≡ get_or ms j 0 → i ≡ j
same_place ms up i j a b same = elim (cases_eq i j) [
  | inl e ↦ e
  | inr n ↦ elim (cases_lt i j) [
    | inl less ↦ let rise = AllPairs-from_increasing ms up i j 0 less b in absurd (omega (arith, rise, same))
    | inr more ↦ let rise = AllPairs-from_increasing ms up j i 0 (omega (arith, n, more)) a in absurd (omega (arith, rise, same))
  ]
]

pub not_earlier : (ms : List ℕ) → IsStrictlyIncreasing ms → (i p : ℕ) → i < length ms → get_or ms i 0 ≡ p → (k : ℕ) → k < i → get_or ms k 0 ≢ p
not_earlier ms up i p inside at k less e = let rise = AllPairs-from_increasing ms up k i 0 less inside in omega (arith, rise, e, at)

-- ---- where the process is elsewhere

pub row_none : (ms : List ℕ) (rows : List (List Wait)) (p : ℕ) → in_list ms p ≡ false → row_in ms rows p ≡ []
row_none [] rows p none = refl
row_none (m ∷ ms) [] p none = refl
row_none (m ∷ ms) (row ∷ rows) p none = go (m == p) none (row_none ms rows p)
  where
    go : (b : Bool) → (b || in_list ms p) ≡ false → (in_list ms p ≡ false → row_in ms rows p ≡ []) → (if b then row else row_in ms rows p) ≡ []
    go true h more = absurd (true≢false h)
    go false h more = more h

pub rows_none : (ms : List ℕ) (rows : List (List Wait)) (p : ℕ) (ks : List ℕ) → in_list ms p ≡ false → rows_without ms rows p ks ≡ rows
rows_none [] rows p ks none = refl
rows_none (m ∷ ms) [] p ks none = refl
rows_none (m ∷ ms) (row ∷ rows) p ks none = go (m == p) none (rows_none ms rows p ks)
  where
    go : (b : Bool) → (b || in_list ms p) ≡ false → (in_list ms p ≡ false → rows_without ms rows p ks ≡ rows) → (if b then others_than ks row ∷ rows else row ∷ rows_without ms rows p ks) ≡ row ∷ rows
    go true h more = absurd (true≢false h)
    go false h more = ap (λ r. row ∷ r) (more h)

-- ---- at its place

pub row_at : (ms : List ℕ) (rows : List (List Wait)) (i p : ℕ) → ((k : ℕ) → k < i → get_or ms k 0 ≢ p) → i < length ms → i < length rows → get_or ms i 0 ≡ p → row_in ms rows p ≡ get_or rows i []
row_at [] rows i p first inside within at = absurd (omega (arith, inside))
row_at (m ∷ ms) [] i p first inside within at = absurd (omega (arith, within))
row_at (m ∷ ms) (row ∷ rows) zero p first inside within at = ap (λ b. if b then row else row_in ms rows p) (eq-eqb m p at)
row_at (m ∷ ms) (row ∷ rows) (suc i) p first inside within at =
    ap (λ b. if b then row else row_in ms rows p) (ne_eqb m p (first 0 (omega arith)))
    ∙ row_at ms rows i p (λ k less. first (suc k) (omega (arith, less))) (omega (arith, inside)) (omega (arith, within)) at

pub row_set : (ms : List ℕ) (rows : List (List Wait)) (i p : ℕ) (new : List Wait) (q : ℕ) → ((k : ℕ) → k < i → get_or ms k 0 ≢ p) → i < length ms → i < length rows → get_or ms i 0 ≡ p
    → row_in ms (set rows i new) q ≡ if q == p then new else row_in ms rows q
row_set [] rows i p new q first inside within at = absurd (omega (arith, inside))
row_set (m ∷ ms) [] i p new q first inside within at = absurd (omega (arith, within))
row_set (m ∷ ms) (row ∷ rows) zero p new q first inside within at = elim (cases_eq m q) [
  | inl e ↦ ap (λ b. if b then new else row_in ms rows q) (eq-eqb m q e) ∙ sym (ap (λ b. if b then new else row_in (m ∷ ms) (row ∷ rows) q) (eq-eqb q p (sym e ∙ at)))
  | inr n ↦
      ap (λ b. if b then new else row_in ms rows q) (ne_eqb m q n)
      ∙ sym (ap (λ b. if b then new else row_in (m ∷ ms) (row ∷ rows) q) (ne_eqb q p (λ e. n (at ∙ sym e)))
      ∙ ap (λ b. if b then row else row_in ms rows q) (ne_eqb m q n))
]
row_set (m ∷ ms) (row ∷ rows) (suc i) p new q first inside within at = elim (cases_eq m q) [
  | inl e ↦
      ap (λ b. if b then row else row_in ms (set rows i new) q) (eq-eqb m q e)
      ∙ sym (ap (λ b. if b then new else row_in (m ∷ ms) (row ∷ rows) q) (ne_eqb q p (λ f. first 0 (omega arith) (e ∙ f)))
      ∙ ap (λ b. if b then row else row_in ms rows q) (eq-eqb m q e))
  | inr n ↦
      ap (λ b. if b then row else row_in ms (set rows i new) q) (ne_eqb m q n)
      ∙ row_set ms rows i p new q (λ k less. first (suc k) (omega (arith, less))) (omega (arith, inside)) (omega (arith, within)) at
      ∙ sym (ap (λ z. if q == p then new else z) (ap (λ b. if b then row else row_in ms rows q) (ne_eqb m q n)))
]

pub rows_at : (ms : List ℕ) (rows : List (List Wait)) (i p : ℕ) (ks : List ℕ) → ((k : ℕ) → k < i → get_or ms k 0 ≢ p) → i < length ms → i < length rows → get_or ms i 0 ≡ p
    → rows_without ms rows p ks ≡ set rows i (others_than ks (get_or rows i []))
rows_at [] rows i p ks first inside within at = absurd (omega (arith, inside))
rows_at (m ∷ ms) [] i p ks first inside within at = absurd (omega (arith, within))
rows_at (m ∷ ms) (row ∷ rows) zero p ks first inside within at = ap (λ b. if b then others_than ks row ∷ rows else row ∷ rows_without ms rows p ks) (eq-eqb m p at)
rows_at (m ∷ ms) (row ∷ rows) (suc i) p ks first inside within at =
    ap (λ b. if b then others_than ks row ∷ rows else row ∷ rows_without ms rows p ks) (ne_eqb m p (first 0 (omega arith)))
    ∙ ap (λ r. row ∷ r) (rows_at ms rows i p ks (λ k less. first (suc k) (omega (arith, less))) (omega (arith, inside)) (omega (arith, within)) at)

pub set_same : {X : Type 0} (xs : List X) (i : ℕ) (d : X) → i < length xs → set xs i (get_or xs i d) ≡ xs
set_same [] i d inside = refl
set_same (x ∷ xs) zero d inside = refl
set_same (x ∷ xs) (suc i) d inside = ap (λ r. x ∷ r) (set_same xs i d (omega (arith, inside)))

set_set : {X : Type 0} (xs : List X) (i : ℕ) (x y : X) → set (set xs i x) i y ≡ set xs i y
set_set [] i x y = refl
set_set (z ∷ xs) zero x y = refl
set_set (z ∷ xs) (suc i) x y = ap (λ r. z ∷ r) (set_set xs i x y)

get_set : {X : Type 0} (xs : List X) (i : ℕ) (x d : X) → i < length xs → get_or (set xs i x) i d ≡ x
get_set [] i x d inside = absurd (omega (arith, inside))
get_set (z ∷ xs) zero x d inside = refl
get_set (z ∷ xs) (suc i) x d inside = get_set xs i x d (omega (arith, inside))

long_set : {X : Type 0} (xs : List X) (i : ℕ) (x : X) → length (set xs i x) ≡ length xs
long_set [] i x = refl
long_set (z ∷ xs) zero x = refl
long_set (z ∷ xs) (suc i) x = ap suc (long_set xs i x)

-- ---- what a site holds after the row at a place has changed

-- the waits of a process for these have begun
pub record IsBegun (v : Held) (p : ℕ) (ks : List ℕ) (s : ℕ) (new : Held) : Type 0 where
  pub waits : waits_of new ≡ set_at (waits_of v) p (with_each (waits_of v p) ks)
  pub since : since_of new ≡ (λ j k. if (j == p) && in_list ks k then s else since_of v j k)
  pub undone : ended new p ks ≡ v

abbrev pub held : List ℕ → List (List Wait) → Held
held ms rows = record { members = ms; rows = rows }

module _ (ms : List ℕ) (rows : List (List Wait)) (up : IsStrictlyIncreasing ms) (long : length rows ≡ length ms) (i p : ℕ) (inside : i < length ms) (at : get_or ms i 0 ≡ p) where
  within : i < length rows
  within = omega (arith, inside, long)

  abbrev old : List Wait
  old = get_or rows i []

  pub old_is : row_in ms rows p ≡ old
  old_is = row_at ms rows i p (not_earlier ms up i p inside at) inside within at

  old_there : (q : ℕ) → q ≡ p → row_in ms rows q ≡ old
  old_there q e = ap (row_in ms rows) e ∙ old_is

  new_is : (new : List Wait) (q : ℕ) → row_in ms (set rows i new) q ≡ if q == p then new else row_in ms rows q
  new_is new q = row_set ms rows i p new q (not_earlier ms up i p inside at) inside within at

  pub waits_set : (new : List Wait) → waits_of (held ms (set rows i new)) ≡ set_at (waits_of (held ms rows)) p (targets_of new)
  waits_set new = fun_ext (λ q. ap targets_of (new_is new q) ∙ go (q == p) q)
    where
      go : (b : Bool) (q : ℕ) → targets_of (if b then new else row_in ms rows q) ≡ if b then targets_of new else targets_of (row_in ms rows q)
      go true q = refl
      go false q = refl

  since_set : (new : List Wait) (q k : ℕ) → since_of (held ms (set rows i new)) q k ≡ if q == p then since_in new k else since_of (held ms rows) q k
  since_set new q k = ap (λ r. since_in r k) (new_is new q) ∙ go (q == p)
    where
      go : (b : Bool) → since_in (if b then new else row_in ms rows q) k ≡ if b then since_in new k else since_in (row_in ms rows q) k
      go true = refl
      go false = refl

  pub since_put : (new : List Wait) → since_of (held ms (set rows i new)) ≡ set_at (since_of (held ms rows)) p (since_in new)
  since_put new = fun_ext (λ q. fun_ext (λ k. since_set new q k ∙ go (q == p) q k))
    where
      go : (b : Bool) (q k : ℕ) → (if b then since_in new k else since_of (held ms rows) q k) ≡ (if b then since_in new else since_of (held ms rows) q) k
      go true q k = refl
      go false q k = refl

  -- what isn't waited for is not in the row
  pub apart_there : (ks : List ℕ) → ((k : ℕ) → in_list ks k ≡ true → in_list (waits_of (held ms rows) p) k ≡ false) → (k : ℕ) → in_list ks k ≡ true → in_list (targets_of old) k ≡ false
  apart_there ks new k h = ap (λ (r : List Wait). in_list (targets_of r) k) (sym old_is) ∙ new k h

  -- some waits have begun
  module _ (ks : List ℕ) (s : ℕ) (new : List Wait) (are : AreInserted ks s old new) where
    pub begun_since : since_of (held ms (set rows i new)) ≡ (λ j k. if (j == p) && in_list ks k then s else since_of (held ms rows) j k)
    begun_since = fun_ext (λ j. fun_ext (λ k. since_set new j k ∙ elim (cases_eq j p) [
      | inl e ↦
          ap (λ b. if b then since_in new k else since_of (held ms rows) j k) (eq-eqb j p e)
          ∙ are.stamps k
          ∙ ap (λ r. if in_list ks k then s else since_in r k) (sym (old_there j e))
          ∙ sym (ap (λ b. if b && in_list ks k then s else since_of (held ms rows) j k) (eq-eqb j p e))
      | inr n ↦
          ap (λ b. if b then since_in new k else since_of (held ms rows) j k) (ne_eqb j p n)
          ∙ sym (ap (λ b. if b && in_list ks k then s else since_of (held ms rows) j k) (ne_eqb j p n))
    ]))

    pub begun_waits : IsAscending ks → ((k : ℕ) → in_list ks k ≡ true → in_list (targets_of old) k ≡ false)
        → waits_of (held ms (set rows i new)) ≡ set_at (waits_of (held ms rows)) p (with_each (waits_of (held ms rows) p) ks)
    begun_waits more apart =
        waits_set new
        ∙ ap (set_at (waits_of (held ms rows)) p) (inserted_waits ks s old new more apart are ∙ ap (λ (r : List Wait). with_each (targets_of r) ks) (sym old_is))

    pub rows_undone : ((k : ℕ) → in_list ks k ≡ true → in_list (targets_of old) k ≡ false) → set (set rows i new) i (others_than ks new) ≡ rows
    rows_undone apart = ap (set (set rows i new) i) (are.others ks (λ k h. h) ∙ others_apart ks old apart) ∙ set_set rows i new old ∙ set_same rows i [] within

    pub begun_undone : ((k : ℕ) → in_list ks k ≡ true → in_list (targets_of old) k ≡ false) → ended (held ms (set rows i new)) p ks ≡ held ms rows
    begun_undone apart = ap (held ms) (
        rows_at ms (set rows i new) i p ks (not_earlier ms up i p inside at) inside (let l = long_set rows i new in let w = within in omega (arith, l, w)) at
        ∙ ap (λ r. set (set rows i new) i (others_than ks r)) (get_set rows i new [] within)
        ∙ rows_undone apart
        )

  -- some waits have ended
  module _ (ks : List ℕ) where
    pub ended_is : held ms (set rows i (others_than ks old)) ≡ ended (held ms rows) p ks
    ended_is = ap (held ms) (sym (rows_at ms rows i p ks (not_earlier ms up i p inside at) inside within at))

-- ---- in the words of the model

ended_here : (ms : List ℕ) (rows : List (List Wait)) → IsStrictlyIncreasing ms → length rows ≡ length ms → (p : ℕ) (ks : List ℕ) → in_list ms p ≡ true
    → (q : ℕ) → row_in ms (rows_without ms rows p ks) q ≡ if q == p then others_than ks (row_in ms rows p) else row_in ms rows q
ended_here ms rows up long p ks member q =
    let place = in_at ms p member in
    let i = place.0 in
    let inside = place.1 in
    let first = not_earlier ms up i p inside place.2 in
    let within : i < length rows = omega (arith, inside, long) in
    ap (λ r. row_in ms r q) (rows_at ms rows i p ks first inside within place.2)
    ∙ row_set ms rows i p (others_than ks (get_or rows i [])) q first inside within place.2
    ∙ ap (λ r. if q == p then others_than ks r else row_in ms rows q) (sym (row_at ms rows i p first inside within place.2))

pub ended_row : (ms : List ℕ) (rows : List (List Wait)) → IsStrictlyIncreasing ms → length rows ≡ length ms → (p : ℕ) (ks : List ℕ)
    → (q : ℕ) → row_in ms (rows_without ms rows p ks) q ≡ if q == p then others_than ks (row_in ms rows p) else row_in ms rows q
ended_row ms rows up long p ks q = elim (cases_Bool (in_list ms p)) [
  | inl here ↦ ended_here ms rows up long p ks here q
  | inr away ↦ ap (λ r. row_in ms r q) (rows_none ms rows p ks away) ∙ elim (cases_eq q p) [
    | inl e ↦
        let none : row_in ms rows q ≡ [] = ap (row_in ms rows) e ∙ row_none ms rows p away in
        none ∙ sym (ap (λ b. if b then others_than ks (row_in ms rows p) else row_in ms rows q) (eq-eqb q p e) ∙ ap (others_than ks) (row_none ms rows p away))
    | inr n ↦ sym (ap (λ b. if b then others_than ks (row_in ms rows p) else row_in ms rows q) (ne_eqb q p n))
  ]
]

module _ (v : Held) (up : IsStrictlyIncreasing v.members) (long : length v.rows ≡ length v.members) (p : ℕ) (ks : List ℕ) where
  pub ended_waits : waits_of (ended v p ks) ≡ set_at (waits_of v) p (without_all (waits_of v p) ks)
  ended_waits = fun_ext (λ q. ap targets_of (ended_row v.members v.rows up long p ks q) ∙ go (q == p) q)
    where
      go : (b : Bool) (q : ℕ) → targets_of (if b then others_than ks (row_in v.members v.rows p) else row_in v.members v.rows q) ≡ if b then without_all (waits_of v p) ks else waits_of v q
      go true q = targets_without_all ks (row_in v.members v.rows p)
      go false q = refl

  pub ended_since : since_of (ended v p ks) ≡ set_at (since_of v) p (λ k. if in_list (without_all (waits_of v p) ks) k then since_of v p k else 0)
  ended_since = fun_ext (λ q. fun_ext (λ k. ap (λ r. since_in r k) (ended_row v.members v.rows up long p ks q) ∙ go (q == p) q k))
    where
      go : (b : Bool) (q k : ℕ) → since_in (if b then others_than ks (row_in v.members v.rows p) else row_in v.members v.rows q) k
          ≡ (if b then (λ k. if in_list (without_all (waits_of v p) ks) k then since_of v p k else 0) else since_of v q) k
      go true q k = since_others ks (row_in v.members v.rows p) k
      go false q k = refl

pub ended_one_waits : (v : Held) → IsStrictlyIncreasing v.members → length v.rows ≡ length v.members → (p k : ℕ) → waits_of (ended v p (k ∷ [])) ≡ set_at (waits_of v) p (without (waits_of v p) k)
ended_one_waits v up long p k = ended_waits v up long p (k ∷ []) ∙ ap (set_at (waits_of v) p) (without_is (waits_of v p) k)

pub ended_one_since : (v : Held) → IsStrictlyIncreasing v.members → length v.rows ≡ length v.members → (p k : ℕ) → since_of (ended v p (k ∷ [])) ≡ set_at (since_of v) p (λ q. if in_list (without (waits_of v p) k) q then since_of v p q else 0)
ended_one_since v up long p k = ended_since v up long p (k ∷ []) ∙ ap (λ (ks : List ℕ). set_at (since_of v) p (λ q. if in_list ks q then since_of v p q else 0)) (without_is (waits_of v p) k)

-- ---- in what a call gives

pub if_ok : {T E : Type 0} (r : Result T E) (P Q : T → Type 0) → ((x : T) → P x → Q x) → IfOk r P → IfOk r Q
if_ok (Ok x) P Q f h = f x h
if_ok (Err e) P Q f h = tt

-- the row that was found at the place of a process
module _ (ms : List ℕ) (rows : List (List Wait)) (up : IsStrictlyIncreasing ms) (long : length rows ≡ length ms) (i p : ℕ) (inside : i < length ms) (at : get_or ms i 0 ≡ p)
    (v : Held) (view : held ms rows ≡ v) (found : List Wait) (row : found ≡ get_or rows i []) (ks : List ℕ) (new : (k : ℕ) → in_list ks k ≡ true → in_list (waits_of v p) k ≡ false) where
  there : (k : ℕ) → in_list ks k ≡ true → in_list (targets_of (get_or rows i [])) k ≡ false
  there = apart_there ms rows up long i p inside at ks (λ k h. ap (λ (w : Held). in_list (waits_of w p) k) view ∙ new k h)

  pub not_found : (k : ℕ) → in_list ks k ≡ true → in_list (targets_of found) k ≡ false
  not_found k h = ap (λ (r : List Wait). in_list (targets_of r) k) row ∙ there k h

  module _ (s : ℕ) (after : List Wait) (inserted : AreInserted ks s found after) where
    are : AreInserted ks s (get_or rows i []) after
    are = subst (λ (old : List Wait). AreInserted ks s old after) row inserted

    pub begun : IsAscending ks → IsBegun v p ks s (held ms (set rows i after))
    begun more = subst (λ (w : Held). IsBegun w p ks s (held ms (set rows i after))) view (record {
      waits = begun_waits ms rows up long i p inside at ks s after are more there;
      since = begun_since ms rows up long i p inside at ks s after are;
      undone = begun_undone ms rows up long i p inside at ks s after are there;
    })

    -- and taken back
    pub begun_back : (back : List Wait) → back ≡ others_than ks after → set (set rows i after) i back ≡ rows
    begun_back back is = ap (set (set rows i after) i) is ∙ rows_undone ms rows up long i p inside at ks s after are there

-- The waits of a process for those of other sites, as its waits change.
use Rattle.std.proofs.Common.{◌≡◌, ℕ, ◌<◌, Bool, true, false, not, ◌&&◌, ◌||◌, ◌==◌, if◌then◌else◌, List, [], ◌∷◌, length, get_or, replicate, take, refl, sym, ap, ◌∙◌, subst, inl, inr, arith}
use Rattle.std.specs.List.{list_any}
use Rattle.std.proofs.Math.ListN.{set}
use Rattle.std.proofs.lemmas.Bool.{cases_Bool, cases_eq, cases_lt, ne_eqb}
use Rattle.std.proofs.lemmas.List.{get_or-replicate, get_or-set_same, get_or-set_other, get_or_past, length-replicate, length-set}
use Rattle.cmh_model3.specs.Lists.{IsAscending, in_list, is_before, without_all}
use Rattle.cmh_model3.specs.State.{counts}
use Rattle.cmh_model3.proofs.Counts.{and_no, and_yes, in_minus, or_no}
use Rattle.cmh_waits3.specs.declared.wait.Wait.{Wait}
use Rattle.cmh_waits3.specs.Held.{Held, row_in, state_of}
use Rattle.cmh_waits3.specs.Inner.Away.{AreAway, AreInsertedAway, IsAway}
use Rattle.cmh_waits3.specs.Inner.Inserting.{AreInserted}
use Rattle.cmh_waits3.specs.Rows.{others_than, since_in, targets_of}
use Rattle.cmh_waits3.proofs.Counted.{counted, is_counted}
use Rattle.cmh_waits3.proofs.Lists.{at_in, not_before}
use Rattle.cmh_waits3.proofs.Rows.{since_others, targets_without_all}

-- ---- those so far, and one more

pub none_inserted : (ms : List ℕ) (s : ℕ) (ws : List Wait) → IsAscending (targets_of ws) → AreInsertedAway ms [] s ws ws
none_inserted ms s ws up = record { ascending = up; targets = λ k. refl; stamps = λ k. refl }

module _ (ms so_far more : List ℕ) (x s : ℕ) (old mid : List Wait) (are : (q : ℕ) → in_list more q ≡ (in_list so_far q || (x == q))) (first : AreInsertedAway ms so_far s old mid) where
  -- the next is a member
  pub skip_member : in_list ms x ≡ true → AreInsertedAway ms more s old mid
  skip_member here = record {
    ascending = first.ascending;
    targets = λ k. first.targets k ∙ ap (λ b. b || in_list (targets_of old) k) (sym (same k));
    stamps = λ k. first.stamps k ∙ ap (λ b. if b then s else since_in old k) (sym (same k));
  }
    where
      same : (k : ℕ) → (in_list more k && not (in_list ms k)) ≡ (in_list so_far k && not (in_list ms k))
      same k = elim (cases_eq x k) [
        | inl e ↦
            let member : in_list ms k ≡ true = ap (in_list ms) (sym e) ∙ here in
            ap (λ b. in_list more k && not b) member ∙ and_no (in_list more k) ∙ sym (ap (λ b. in_list so_far k && not b) member ∙ and_no (in_list so_far k))
        | inr n ↦ ap (λ b. b && not (in_list ms k)) (are k ∙ ap (λ b. in_list so_far k || b) (ne_eqb x k n) ∙ or_no (in_list so_far k))
      ]

  -- the next is of another site
  pub insert_one : in_list ms x ≡ false → (new : List Wait) → AreInserted (x ∷ []) s mid new → AreInsertedAway ms more s old new
  insert_one away new next = record {
    ascending = next.ascending;
    targets = λ k.
        next.targets k
        ∙ ap (λ b. in_list (x ∷ []) k || b) (first.targets k)
        ∙ joined (x == k) (in_list so_far k && not (in_list ms k)) (in_list (targets_of old) k)
        ∙ ap (λ b. b || in_list (targets_of old) k) (sym (same k));
    stamps = λ k.
        next.stamps k
        ∙ ap (λ z. if in_list (x ∷ []) k then s else z) (first.stamps k)
        ∙ chosen (x == k) (in_list so_far k && not (in_list ms k)) (since_in old k)
        ∙ ap (λ b. if b then s else since_in old k) (sym (same k));
  }
    where
      joined : (a b c : Bool) → ((a || false) || (b || c)) ≡ ((b || a) || c)
      joined true true c = refl
      joined true false c = refl
      joined false true c = refl
      joined false false c = refl

      chosen : (a b : Bool) (z : ℕ) → (if (a || false) then s else (if b then s else z)) ≡ (if (b || a) then s else z)
      chosen true true z = refl
      chosen true false z = refl
      chosen false true z = refl
      chosen false false z = refl

      same : (k : ℕ) → (in_list more k && not (in_list ms k)) ≡ ((in_list so_far k && not (in_list ms k)) || (x == k))
      same k = elim (cases_eq x k) [
        | inl e ↦
            let free : in_list ms k ≡ false = ap (in_list ms) (sym e) ∙ away in
            ap (λ b. b && not (in_list ms k)) (are k) ∙ ap (λ b. (in_list so_far k || (x == k)) && not b) free ∙ and_yes (in_list so_far k || (x == k))
            ∙ sym (ap (λ b. (in_list so_far k && not b) || (x == k)) free ∙ ap (λ b. b || (x == k)) (and_yes (in_list so_far k)))
        | inr n ↦
            ap (λ b. b && not (in_list ms k)) (are k ∙ ap (λ b. in_list so_far k || b) (ne_eqb x k n) ∙ or_no (in_list so_far k))
            ∙ sym (ap (λ b. (in_list so_far k && not (in_list ms k)) || b) (ne_eqb x k n) ∙ or_no (in_list so_far k && not (in_list ms k)))
      ]

-- what comes next is not there yet
pub still_new : (ms ks : List ℕ) (i x s : ℕ) (old mid : List Wait) → IsAscending ks → i < length ks → get_or ks i 0 ≡ x → ((k : ℕ) → in_list ks k ≡ true → in_list (targets_of old) k ≡ false)
    → AreInsertedAway ms (take i ks) s old mid → in_list (targets_of mid) x ≡ false
still_new ms ks i x s old mid up inside is new are =
    are.targets x
    ∙ ap (λ b. (b && not (in_list ms x)) || in_list (targets_of old) x) (ap (in_list (take i ks)) (sym is) ∙ not_before ks i up inside)
    ∙ new x (at_in ks i x inside is)

-- ---- beside the waits of the process

-- what is not waited for is not there
pub apart_away : (ms ks : List ℕ) (row away : List Wait) → IsAway ms row away → ((k : ℕ) → in_list ks k ≡ true → in_list (targets_of row) k ≡ false)
    → (k : ℕ) → in_list ks k ≡ true → in_list (targets_of away) k ≡ false
apart_away ms ks row away is apart k h = is.targets k ∙ ap (λ b. b && not (in_list ms k)) (apart k h)

pub away_begun : (ms ks : List ℕ) (s : ℕ) (row new away more : List Wait) → IsAway ms row away → AreInserted ks s row new → AreInsertedAway ms ks s away more → IsAway ms new more
away_begun ms ks s row new away more is all some = record {
  targets = λ k.
      some.targets k ∙ ap (λ b. (in_list ks k && not (in_list ms k)) || b) (is.targets k)
      ∙ joined (in_list ks k) (in_list (targets_of row) k) (not (in_list ms k))
      ∙ ap (λ b. b && not (in_list ms k)) (sym (all.targets k));
  stamps = λ k out.
      some.stamps k
      ∙ ap (λ b. if in_list ks k && not b then s else since_in away k) out
      ∙ chosen (in_list ks k) (since_in away k)
      ∙ ap (λ z. if in_list ks k then s else z) (is.stamps k out)
      ∙ sym (all.stamps k);
}
  where
    joined : (a b c : Bool) → ((a && c) || (b && c)) ≡ ((a || b) && c)
    joined true b true = refl
    joined true true false = refl
    joined true false false = refl
    joined false b c = refl

    chosen : (a : Bool) (z : ℕ) → (if (a && true) then s else z) ≡ (if a then s else z)
    chosen true z = refl
    chosen false z = refl

pub away_ended : (ms ks : List ℕ) (row away : List Wait) → IsAway ms row away → IsAway ms (others_than ks row) (others_than ks away)
away_ended ms ks row away is = record {
  targets = λ k. left away k ∙ ap (λ b. b && not (in_list ks k)) (is.targets k) ∙ swapped (in_list (targets_of row) k) (not (in_list ms k)) (not (in_list ks k)) ∙ ap (λ b. b && not (in_list ms k)) (sym (left row k));
  stamps = λ k out.
      since_others ks away k
      ∙ ap (λ b. if b then since_in away k else 0) (in_minus (targets_of away) ks k ∙ ap (λ b. b && not (in_list ks k)) (is.targets k ∙ ap (λ b. in_list (targets_of row) k && not b) out ∙ and_yes (in_list (targets_of row) k)) ∙ sym (in_minus (targets_of row) ks k))
      ∙ ap (λ z. if in_list (without_all (targets_of row) ks) k then z else 0) (is.stamps k out)
      ∙ sym (since_others ks row k);
}
  where
    left : (ws : List Wait) (k : ℕ) → in_list (targets_of (others_than ks ws)) k ≡ (in_list (targets_of ws) k && not (in_list ks k))
    left ws k = ap (λ xs. in_list xs k) (targets_without_all ks ws) ∙ in_minus (targets_of ws) ks k

    swapped : (a b c : Bool) → ((a && b) && c) ≡ ((a && c) && b)
    swapped true true true = refl
    swapped true true false = refl
    swapped true false true = refl
    swapped true false false = refl
    swapped false b c = refl

-- ---- of all rows

pub no_rows : (rows : List (List Wait)) (n : ℕ) → rows ≡ replicate n [] → (place : ℕ) → get_or rows place [] ≡ []
no_rows rows n is place = ap (λ (rs : List (List Wait)). get_or rs place []) is ∙ elim (cases_lt place n) [
  | inl inside ↦ get_or-replicate n place [] [] inside
  | inr past ↦ get_or_past (replicate n []) place [] (let l = length-replicate {A = List Wait} n [] in omega (arith, l, past))
]

pub none_away : (ms : List ℕ) (rows aways : List (List Wait)) → length aways ≡ length ms → ((place : ℕ) → get_or rows place [] ≡ []) → ((place : ℕ) → get_or aways place [] ≡ []) → AreAway ms rows aways
none_away ms rows aways long empty free = record {
  long = long;
  each = λ place inside. record {
    targets = λ k. ap (λ (r : List Wait). in_list (targets_of r) k) (free place) ∙ sym (ap (λ (r : List Wait). in_list (targets_of r) k && not (in_list ms k)) (empty place));
    stamps = λ k out. ap (λ (r : List Wait). since_in r k) (free place) ∙ sym (ap (λ (r : List Wait). since_in r k) (empty place));
  };
}

-- the row at a place has changed
pub away_set : (ms : List ℕ) (rows aways : List (List Wait)) → AreAway ms rows aways → length rows ≡ length ms → (place : ℕ) → place < length ms → (row away : List Wait) → IsAway ms row away
    → AreAway ms (set rows place row) (set aways place away)
away_set ms rows aways are long place inside row away is = record {
  long = length-set aways place away ∙ are.long;
  each = λ j low. elim (cases_eq j place) [
    | inl e ↦ subst (λ q. IsAway ms (get_or (set rows place row) q []) (get_or (set aways place away) q [])) (sym e) here
    | inr ne ↦
        subst (λ (r : List Wait). IsAway ms r (get_or (set aways place away) j [])) (sym (get_or-set_other rows place j row [] ne))
        (subst (λ (r : List Wait). IsAway ms (get_or rows j []) r) (sym (get_or-set_other aways place j away [] ne)) (are.each j low))
  ];
}
  where
    many : length aways ≡ length ms
    many = are.long

    here : IsAway ms (get_or (set rows place row) place []) (get_or (set aways place away) place [])
    here =
        subst (λ (r : List Wait). IsAway ms r (get_or (set aways place away) place [])) (sym (get_or-set_same rows place row [] (omega (arith, inside, long))))
        (subst (λ (r : List Wait). IsAway ms row r) (sym (get_or-set_same aways place away [] (omega (arith, inside, many)))) is)

-- ---- the waits of the list that count

pub away_counts : (v : Held) (n i p : ℕ) (ws : List Wait) → IsAway v.members (row_in v.members v.rows p) ws → IsAscending (targets_of ws) → (k : ℕ)
    → list_any (is_counted n i p k) ws ≡ (counts (state_of v) n i p k && not (in_list v.members k))
away_counts v n i p ws is up k =
    counted n i p k ws up
    ∙ elim (cases_Bool (in_list v.members k)) [
      | inl here ↦
          ap (λ b. b && not (is_before n i (since_in ws k) p)) (is.targets k ∙ ap (λ b. in_list (targets_of row) k && not b) here ∙ and_no (in_list (targets_of row) k))
          ∙ sym (ap (λ b. counts (state_of v) n i p k && not b) here ∙ and_no (counts (state_of v) n i p k))
      | inr out ↦
          ap (λ b. b && not (is_before n i (since_in ws k) p)) (is.targets k ∙ ap (λ b. in_list (targets_of row) k && not b) out ∙ and_yes (in_list (targets_of row) k))
          ∙ ap (λ z. in_list (targets_of row) k && not (is_before n i z p)) (is.stamps k out)
          ∙ sym (ap (λ b. counts (state_of v) n i p k && not b) out ∙ and_yes (counts (state_of v) n i p k))
    ]
  where
    row : List Wait
    row = row_in v.members v.rows p

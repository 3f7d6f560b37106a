-- Where an asker waits after an event.
use Rattle.std.proofs.Common.{◌≡◌, ◌≢◌, ◌⊎◌, ℕ, Bool, true, false, not, ◌&&◌, ◌||◌, List, ◌==◌, if◌then◌else◌, refl, sym, ap, ◌∙◌, subst, inl, inr, true≢false}
use Rattle.std.proofs.lemmas.Bool.{cases_Bool, cases_eq, eqb-true, eq-eqb, ne_eqb, and_parts}
use Rattle.cmh_model3.specs.declared.frame.Frame.TheVariants.{Request, Reply as Reply_frame, Withdraw as Withdraw_frame, Probe}
use Rattle.cmh_model3.specs.declared.event.Event.{Event}
use Rattle.cmh_model3.specs.declared.event.Event.TheVariants.{Ask, Reply, Withdraw, Got, Turn}
use Rattle.cmh_model3.specs.Lists.{with_each, in_list, without, without_all, set_pair}
use Rattle.cmh_model3.specs.State.{State, waits_for, with_waits}
use Rattle.cmh_model3.specs.Rules.{Accepts, changed}
use Rattle.cmh_model3.specs.Waits.{begins, ends}
use Rattle.cmh_model3.proofs.Counts.{in_with, both_yes, and_no, without_same, without_other, in_minus}
use Rattle.cmh_model3.proofs.Moves.{reply_waits, got_probe}

pub without_in : (xs : List ℕ) (h k : ℕ) → in_list (without xs h) k ≡ true → in_list xs k ≡ true
without_in xs h k y = elim (cases_eq h k) [
  | inl e ↦ absurd (true≢false (sym (subst (λ q. in_list (without xs q) k ≡ true) e y) ∙ without_same xs k))
  | inr n ↦ sym (without_other xs h k n) ∙ y
]

or_right_no : (x y : Bool) → (x || y) ≡ true → y ≡ false → x ≡ true
or_right_no true y h g = refl
or_right_no false y h g = absurd (true≢false (sym h ∙ g))

not_no : (x : Bool) → not x ≡ true → x ≡ false
not_no true h = absurd (true≢false (sym h))
not_no false h = refl

and_left_yes : (x y : Bool) → (x && y) ≡ false → x ≡ true → y ≡ false
and_left_yes true y h g = h
and_left_yes false y h g = absurd (true≢false (sym g))

module _ (home : ℕ → ℕ) (s : ℕ) (v : State) (j k : ℕ) where
  -- where j waits after an event of its site, either it has just asked, or it waited before and the event ends no wait of it
  pub asker_move : (ev : Event) → Accepts home s v ev → home j ≡ s → waits_for (changed home s v ev) j k ≡ true
      → ((begins j k ev ≡ true) × (waits_for v j k ≡ false) × (v.leaving j k ≡ false)) ⊎ ((waits_for v j k ≡ true) × (begins j k ev ≡ false) × (ends j k ev ≡ false))
  asker_move (Ask i ks) acc at h = elim (cases_Bool ((i == j) && in_list ks k)) [
    | inl b ↦
        let both = and_parts (i == j) (in_list ks k) b in
        let e = eqb-true i j both.0 in
        inl (b, ap (λ q. in_list (v.waits q) k) (sym e) ∙ (acc.2.1 k both.1).2, ap (λ q. v.leaving q k) (sym e) ∙ (acc.2.1 k both.1).1)
    | inr nb ↦ inr (
      elim (cases_eq j i) [
        | inl e ↦
            let no : in_list ks k ≡ false = and_left_yes (i == j) (in_list ks k) nb (eq-eqb i j (sym e)) in
            ap (λ q. in_list (v.waits q) k) e
            ∙ or_right_no (in_list (v.waits i) k) (in_list ks k) (sym (in_with (v.waits i) ks k) ∙ sym (ap (λ z. in_list (if z then with_each (v.waits i) ks else v.waits j) k) (eq-eqb j i e)) ∙ h) no
        | inr n ↦ sym (ap (λ z. in_list (if z then with_each (v.waits i) ks else v.waits j) k) (ne_eqb j i n)) ∙ h
      ],
      nb,
      refl,
    )
  ]
  asker_move (Reply h i) acc at w = elim (cases_Bool ((h == k) && (i == j))) [
    | inl b ↦
        let both = and_parts (h == k) (i == j) b in
        let ek = eqb-true h k both.0 in
        let ej = eqb-true i j both.1 in
        absurd (true≢false (sym w ∙ reply_waits home s v h i j k ∙ gone (home i == s) h i ek ej (eq-eqb (home i) s (ap home ej ∙ at))))
    | inr nb ↦ inr (sym (keeps (home i == s) h i nb) ∙ sym (reply_waits home s v h i j k) ∙ w, refl, nb)
  ]
    where
      gone : (z : Bool) (h i : ℕ) → h ≡ k → i ≡ j → z ≡ true → (if z && (j == i) then in_list (without (v.waits i) h) k else waits_for v j k) ≡ false
      gone z h i ek ej y = ap (λ b. if b && (j == i) then in_list (without (v.waits i) h) k else waits_for v j k) y ∙ ap (λ b. if b then in_list (without (v.waits i) h) k else waits_for v j k) (eq-eqb j i (sym ej)) ∙ ap (λ q. in_list (without (v.waits i) q) k) ek ∙ without_same (v.waits i) k

      keeps : (z : Bool) (h i : ℕ) → ((h == k) && (i == j)) ≡ false → (if z && (j == i) then in_list (without (v.waits i) h) k else waits_for v j k) ≡ waits_for v j k
      keeps false h i nb = refl
      keeps true h i nb = elim (cases_eq j i) [
        | inl e ↦
            let n : h ≢ k = λ g. true≢false (sym (both_yes h i k j g (sym e)) ∙ nb) in
            ap (λ z. if z then in_list (without (v.waits i) h) k else waits_for v j k) (eq-eqb j i e) ∙ without_other (v.waits i) h k n ∙ ap (λ q. in_list (v.waits q) k) (sym e)
        | inr e ↦ ap (λ z. if z then in_list (without (v.waits i) h) k else waits_for v j k) (ne_eqb j i e)
      ]
  asker_move (Withdraw i ks) acc at h = elim (cases_eq j i) [
    | inl e ↦
        let parts = and_parts (in_list (v.waits i) k) (not (in_list ks k)) (sym (in_minus (v.waits i) ks k) ∙ sym (ap (λ z. in_list (if z then without_all (v.waits i) ks else v.waits j) k) (eq-eqb j i e)) ∙ h) in
        inr (ap (λ q. in_list (v.waits q) k) e ∙ parts.0, refl, ap (λ z. (i == j) && z) (not_no (in_list ks k) parts.1) ∙ and_no (i == j))
    | inr n ↦ inr (sym (ap (λ z. in_list (if z then without_all (v.waits i) ks else v.waits j) k) (ne_eqb j i n)) ∙ h, refl, ap (λ z. z && in_list ks k) (ne_eqb i j (λ g. n (sym g))))
  ]
  asker_move (Turn d) acc at h = inr (h, refl, refl)
  asker_move (Got a c (Request x y)) acc at h = inr (h, refl, refl)
  asker_move (Got a c (Reply_frame x i)) acc at h = inr (go (waits_for v i x) h, refl, refl)
    where
      go : (z : Bool) → waits_for (if z then with_waits v i (without (v.waits i) x) else record v { leaving = set_pair v.leaving i x false }) j k ≡ true → waits_for v j k ≡ true
      go false w = w
      go true w = elim (cases_eq j i) [
        | inl e ↦ ap (λ q. in_list (v.waits q) k) e ∙ without_in (v.waits i) x k (sym (ap (λ z. in_list (if z then without (v.waits i) x else v.waits j) k) (eq-eqb j i e)) ∙ w)
        | inr n ↦ sym (ap (λ z. in_list (if z then without (v.waits i) x else v.waits j) k) (ne_eqb j i n)) ∙ w
      ]
  asker_move (Got a c (Withdraw_frame x y)) acc at h = inr (h, refl, refl)
  asker_move (Got a c (Probe i n x y)) acc at h = inr (sym (ap (λ r. in_list (r j) k) (got_probe home s v a c i n x y).1) ∙ h, refl, refl)

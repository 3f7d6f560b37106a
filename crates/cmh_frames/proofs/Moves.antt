-- What an event changes of one wait at the two sites that keep it.
use Rattle.std.proofs.Common.{◌≡◌, ◌≢◌, ◌⊎◌, ℕ, ◌+◌, Bool, true, false, ◌&&◌, ◌||◌, List, [], ◌∷◌, ◌==◌, if◌then◌else◌, refl, sym, ap, ◌∙◌, subst, inl, inr, true≢false, Option, arith}
use Rattle.std.specs.List.{list_any}
use Rattle.std.proofs.lemmas.Bool.{eqb-true, eq-eqb, ne_eqb, and_parts, and_from, cases_eq, cases_Bool}
use Rattle.cmh_frames.proofs.Choices.{if_same}
use Rattle.cmh_frames.specs.declared.frame.Frame.TheVariants.{Request, Reply as Reply_frame, Probe}
use Rattle.cmh_frames.specs.declared.event.Event.{Event}
use Rattle.cmh_frames.specs.declared.event.Event.TheVariants.{Ask, Reply, Start, Got}
use Rattle.cmh_frames.specs.Topology.{Topology, At, is_at}
use Rattle.cmh_frames.specs.Relation.{Relation, has, with_pair, without_pair, with_each, has_some}
use Rattle.cmh_frames.specs.State.{State}
use Rattle.cmh_frames.specs.Rules.{Accepts, after, owed_after_ask, probe_acts}
use Rattle.cmh_frames.specs.Journals.{frame_from}
use Rattle.cmh_frames.specs.Waits.{asks_for, grants}
use Rattle.cmh_frames.specs.Laws.{bit, count_of, is_request, is_reply}
use Rattle.cmh_frames.proofs.Pairs.{has-with_each, has-with_each_other, has-none, has-without_same, has-without_other, has-with_same, has-with_other}
use Rattle.cmh_frames.proofs.Places.{is_at-yes, one_place, count_one_no, count_one_yes, if-waits, if-owed}

-- two pairs are equal, or the test says not
pub both_or_not : (a b x y : ℕ) → ((a ≡ x) × (b ≡ y)) ⊎ (((a == x) && (b == y)) ≡ false)
both_or_not a b x y = elim (cases_Bool ((a == x) && (b == y))) [
  | inl e ↦ let both = and_parts (a == x) (b == y) e in inl (eqb-true a x both.0, eqb-true b y both.1)
  | inr e ↦ inr e
]

-- equal pairs pass the test
pub both_yes : (a b x y : ℕ) → a ≡ x → b ≡ y → ((a == x) && (b == y)) ≡ true
both_yes a b x y e f = and_from (a == x) (b == y) (eq-eqb a x e) (eq-eqb b y f)

-- pairs that fail the test differ
pub not_both_from : (a b x y : ℕ) → ((a == x) && (b == y)) ≡ false → ((y ≡ b) × (x ≡ a)) → ⊥
not_both_from a b x y h p = true≢false (sym (both_yes a b x y (sym p.1) (sym p.0)) ∙ h)

-- the waits after a reply
pub reply_waits : (t : Topology) (s : ℕ) (v : State) (h a : ℕ) (d : Option ℕ) → (after t s v (Reply h a) d).waits ≡ (if is_at t a s then without_pair v.waits a h else v.waits)
reply_waits t s v h a d = if-waits (is_at t a s) _ _

-- what is owed after a reply
pub reply_owed : (t : Topology) (s : ℕ) (v : State) (h a : ℕ) (d : Option ℕ) → (after t s v (Reply h a) d).owed ≡ without_pair v.owed h a
reply_owed t s v h a d = if-owed (is_at t a s) _ _ ∙ if_same (is_at t a s) (without_pair v.owed h a)

-- a probe leaves the waits
pub probe_waits : (t : Topology) (s : ℕ) (v : State) (a o f g : ℕ) (d : Option ℕ) → (after t s v (Got a (Probe (o, f, g))) d).waits ≡ v.waits
probe_waits t s v a o f g d = if-waits (probe_acts v o f g) _ _ ∙ if_same (probe_acts v o f g) v.waits

-- and what is owed
pub probe_owed : (t : Topology) (s : ℕ) (v : State) (a o f g : ℕ) (d : Option ℕ) → (after t s v (Got a (Probe (o, f, g))) d).owed ≡ v.owed
probe_owed t s v a o f g d = if-owed (probe_acts v o f g) _ _ ∙ if_same (probe_acts v o f g) v.owed

-- the wait of j for k, at the site of j
pub waits_move :
    (t : Topology) (s : ℕ) (v : State) (ev : Event) (d : Option ℕ) (j k b : ℕ) → Accepts t s v ev → At t j s → At t k b → (grants k j ev ≡ true → has v.waits j k ≡ true)
    → bit (has (after t s v ev d).waits j k) + count_of (is_reply k j) (frame_from b ev) + bit (grants k j ev && is_at t k s) ≡ bit (has v.waits j k) + bit (asks_for j k ev)
waits_move t s v (Ask asker targets) d j k b acc at_j at_k waited = elim (cases_eq j asker) [
  | inl e ↦
      let old : has v.waits j k ≡ false = has-none v.waits j k (ap (λ x. has_some v.waits x) e ∙ acc.1) in
      let new : has (with_each v.waits asker targets) j k ≡ (list_any (λ q. q == k) targets || has v.waits asker k) = ap (λ x. has (with_each v.waits asker targets) x k) e ∙ has-with_each v.waits asker targets k in
      let here : has v.waits asker k ≡ false = ap (λ x. has v.waits x k) (sym e) ∙ old in
      ask_sum _ _ _ (list_any (λ q. q == k) targets) (new ∙ ap (λ z. list_any (λ q. q == k) targets || z) here) old (ap (λ z. z && list_any (λ q. q == k) targets) (eq-eqb asker j (sym e)))
  | inr n ↦
      let new = ap bit (has-with_each_other v.waits asker targets j k n) in
      let no : bit ((asker == j) && list_any (λ q. q == k) targets) ≡ 0 = ap (λ z. bit (z && list_any (λ q. q == k) targets)) (ne_eqb asker j (λ x. n (sym x))) in
      omega arith
]
  where
    ask_sum : (n h q l : Bool) → n ≡ (l || false) → h ≡ false → q ≡ l → bit n + 0 + 0 ≡ bit h + bit q
    ask_sum n h q true p e r = let a = ap bit p in let b = ap bit e in let c = ap bit r in omega arith
    ask_sum n h q false p e r = let a = ap bit p in let b = ap bit e in let c = ap bit r in omega arith
waits_move t s v (Reply holder asker) d j k b acc at_j at_k waited = elim (both_or_not holder asker k j) [
  | inl e ↦
      let here : is_at t asker s ≡ true = is_at-yes t asker s (subst (λ p. At t p s) (sym e.1) at_j) in
      let there : is_at t k s ≡ true = is_at-yes t k s (subst (λ p. At t p s) e.0 acc.0) in
      let yes : ((holder == k) && (asker == j)) ≡ true = both_yes holder asker k j e.0 e.1 in
      let new : has (after t s v (Reply holder asker) d).waits j k ≡ false =
      ap (λ r. has r j k) (reply_waits t s v holder asker d) ∙ ap (λ z. has (if z then without_pair v.waits asker holder else v.waits) j k) here
      ∙ ap (λ x. has (without_pair v.waits x holder) j k) e.1 ∙ ap (λ x. has (without_pair v.waits j x) j k) e.0 ∙ has-without_same v.waits j k in
      let n = ap bit new in
      let g : bit (((holder == k) && (asker == j)) && is_at t k s) ≡ 1 = ap (λ z. bit (z && is_at t k s)) yes ∙ ap bit there in
      let w = ap bit (waited yes) in
      omega arith
  | inr other ↦
      let same : has (after t s v (Reply holder asker) d).waits j k ≡ has v.waits j k =
      ap (λ r. has r j k) (reply_waits t s v holder asker d)
      ∙ elim (cases_Bool (is_at t asker s)) [
        | inl z ↦ ap (λ c. has (if c then without_pair v.waits asker holder else v.waits) j k) z ∙ has-without_other v.waits asker holder j k (not_both_from holder asker k j other)
        | inr z ↦ ap (λ c. has (if c then without_pair v.waits asker holder else v.waits) j k) z
      ] in
      let n = ap bit same in
      let g : bit (((holder == k) && (asker == j)) && is_at t k s) ≡ 0 = ap (λ z. bit (z && is_at t k s)) other in
      omega arith
]
waits_move t s v (Start i) d j k b acc at_j at_k waited = omega arith
waits_move t s v (Got a (Request (asker, holder))) d j k b acc at_j at_k waited = let c = count_one_no (is_reply k j) a b (Request (asker, holder)) refl in omega arith
waits_move t s v (Got a (Probe (o, f, g))) d j k b acc at_j at_k waited =
    let c = count_one_no (is_reply k j) a b (Probe (o, f, g)) refl in
    let w = ap (λ r. bit (has r j k)) (probe_waits t s v a o f g d) in
    omega arith
waits_move t s v (Got a (Reply_frame (holder, asker))) d j k b acc at_j at_k waited = elim (both_or_not holder asker k j) [
  | inl e ↦
      let new : has (without_pair v.waits asker holder) j k ≡ false =
      ap (λ x. has (without_pair v.waits x holder) j k) e.1 ∙ ap (λ x. has (without_pair v.waits j x) j k) e.0 ∙ has-without_same v.waits j k in
      let old : has v.waits j k ≡ true = ap (λ x. has v.waits x k) (sym e.1) ∙ ap (λ x. has v.waits asker x) (sym e.0) ∙ acc.3 in
      let c = count_one_yes (is_reply k j) a b (Reply_frame (holder, asker)) (both_yes holder asker k j e.0 e.1) (one_place t k a b (subst (λ p. At t p a) e.0 acc.1) at_k) in
      let n = ap bit new in
      let w = ap bit old in
      omega arith
  | inr other ↦
      let c = count_one_no (is_reply k j) a b (Reply_frame (holder, asker)) other in
      let n = ap bit (has-without_other v.waits asker holder j k (not_both_from holder asker k j other)) in
      omega arith
]

-- what is owed to the asker after its ask, at the site of k
owed-ask : (t : Topology) (s : ℕ) (r : Relation) (asker : ℕ) (ks : List ℕ) (k : ℕ) → At t k s → has (owed_after_ask (λ p. is_at t p s) r asker ks) k asker ≡ (list_any (λ q. q == k) ks || has r k asker)
owed-ask t s r asker [] k at = refl
owed-ask t s r asker (q ∷ ks) k at = elim (cases_eq q k) [
  | inl e ↦
      ap (λ z. has (if z then with_pair (owed_after_ask (λ p. is_at t p s) r asker ks) q asker else owed_after_ask (λ p. is_at t p s) r asker ks) k asker) (is_at-yes t q s (subst (λ x. At t x s) (sym e) at))
      ∙ ap (λ x. has (with_pair (owed_after_ask (λ p. is_at t p s) r asker ks) x asker) k asker) e
      ∙ has-with_same (owed_after_ask (λ p. is_at t p s) r asker ks) k asker
      ∙ ap (λ z. (z || list_any (λ q. q == k) ks) || has r k asker) (sym (eq-eqb q k e))
  | inr n ↦
      elim (cases_Bool (is_at t q s)) [
        | inl z ↦ ap (λ c. has (if c then with_pair (owed_after_ask (λ p. is_at t p s) r asker ks) q asker else owed_after_ask (λ p. is_at t p s) r asker ks) k asker) z ∙ has-with_other (owed_after_ask (λ p. is_at t p s) r asker ks) q asker k asker (λ p. n (sym p.0))
        | inr z ↦ ap (λ c. has (if c then with_pair (owed_after_ask (λ p. is_at t p s) r asker ks) q asker else owed_after_ask (λ p. is_at t p s) r asker ks) k asker) z
      ]
      ∙ owed-ask t s r asker ks k at
      ∙ ap (λ z. (z || list_any (λ q. q == k) ks) || has r k asker) (sym (ne_eqb q k n))
]

-- an ask leaves what is owed to others
owed-ask_other : (t : Topology) (s : ℕ) (r : Relation) (asker : ℕ) (ks : List ℕ) (k j : ℕ) → j ≢ asker → has (owed_after_ask (λ p. is_at t p s) r asker ks) k j ≡ has r k j
owed-ask_other t s r asker [] k j n = refl
owed-ask_other t s r asker (q ∷ ks) k j n =
    elim (cases_Bool (is_at t q s)) [
      | inl z ↦ ap (λ c. has (if c then with_pair (owed_after_ask (λ p. is_at t p s) r asker ks) q asker else owed_after_ask (λ p. is_at t p s) r asker ks) k j) z ∙ has-with_other (owed_after_ask (λ p. is_at t p s) r asker ks) q asker k j (λ p. n p.1)
      | inr z ↦ ap (λ c. has (if c then with_pair (owed_after_ask (λ p. is_at t p s) r asker ks) q asker else owed_after_ask (λ p. is_at t p s) r asker ks) k j) z
    ]
    ∙ owed-ask_other t s r asker ks k j n

-- what k owes j, at the site of k
pub owed_move :
    (t : Topology) (s : ℕ) (v : State) (ev : Event) (d : Option ℕ) (j k a : ℕ) → Accepts t s v ev → At t k s → At t j a → (asks_for j k ev ≡ true → has v.owed k j ≡ false)
    → bit (has (after t s v ev d).owed k j) + bit (grants k j ev) ≡ bit (has v.owed k j) + count_of (is_request j k) (frame_from a ev) + bit (asks_for j k ev && is_at t j s)
owed_move t s v (Ask asker targets) d j k a acc at_k at_j free = elim (cases_eq j asker) [
  | inl e ↦
      let new : has (owed_after_ask (λ p. is_at t p s) v.owed asker targets) k j ≡ (list_any (λ q. q == k) targets || has v.owed k j) =
      ap (λ x. has (owed_after_ask (λ p. is_at t p s) v.owed asker targets) k x) e ∙ owed-ask t s v.owed asker targets k at_k ∙ ap (λ x. list_any (λ q. q == k) targets || has v.owed k x) (sym e) in
      let here : is_at t j s ≡ true = is_at-yes t j s (subst (λ p. At t p s) (sym e) acc.0) in
      let asks : ((asker == j) && list_any (λ q. q == k) targets) ≡ list_any (λ q. q == k) targets = ap (λ z. z && list_any (λ q. q == k) targets) (eq-eqb asker j (sym e)) in
      owed_sum _ _ _ _ (list_any (λ q. q == k) targets) new asks here (λ l. free (asks ∙ l))
  | inr n ↦
      let new = ap bit (owed-ask_other t s v.owed asker targets k j n) in
      let none : bit (((asker == j) && list_any (λ q. q == k) targets) && is_at t j s) ≡ 0 = ap (λ z. bit ((z && list_any (λ q. q == k) targets) && is_at t j s)) (ne_eqb asker j (λ x. n (sym x))) in
      omega arith
]
  where
    owed_sum : (n o q h l : Bool) → n ≡ (l || o) → q ≡ l → h ≡ true → (l ≡ true → o ≡ false) → bit n + 0 ≡ bit o + 0 + bit (q && h)
    owed_sum n o q h true p e f g = let a = ap bit p in let b = ap bit (g refl) in let c : bit (q && h) ≡ 1 = ap (λ z. bit (z && h)) e ∙ ap bit f in omega arith
    owed_sum n o q h false p e f g = let a = ap bit p in let c : bit (q && h) ≡ 0 = ap (λ z. bit (z && h)) e in omega arith
owed_move t s v (Reply holder asker) d j k a acc at_k at_j free = elim (both_or_not holder asker k j) [
  | inl e ↦
      let new : has (after t s v (Reply holder asker) d).owed k j ≡ false =
      ap (λ r. has r k j) (reply_owed t s v holder asker d) ∙ ap (λ x. has (without_pair v.owed x asker) k j) e.0 ∙ ap (λ x. has (without_pair v.owed k x) k j) e.1 ∙ has-without_same v.owed k j in
      let n = ap bit new in
      let g = ap bit (both_yes holder asker k j e.0 e.1) in
      let o : bit (has v.owed k j) ≡ 1 = ap bit (ap (λ x. has v.owed x j) (sym e.0) ∙ ap (λ x. has v.owed holder x) (sym e.1) ∙ acc.2) in
      omega arith
  | inr other ↦
      let n : bit (has (after t s v (Reply holder asker) d).owed k j) ≡ bit (has v.owed k j) =
      ap bit (ap (λ r. has r k j) (reply_owed t s v holder asker d) ∙ has-without_other v.owed holder asker k j (λ p. true≢false (sym (both_yes holder asker k j (sym p.0) (sym p.1)) ∙ other))) in
      let g = ap bit other in
      omega arith
]
owed_move t s v (Start i) d j k a acc at_k at_j free = omega arith
owed_move t s v (Got b (Request (asker, holder))) d j k a acc at_k at_j free = elim (both_or_not asker holder j k) [
  | inl e ↦
      let new : has (with_pair v.owed holder asker) k j ≡ true =
      ap (λ x. has (with_pair v.owed x asker) k j) e.1 ∙ ap (λ x. has (with_pair v.owed k x) k j) e.0 ∙ has-with_same v.owed k j in
      let old : has v.owed k j ≡ false = ap (λ x. has v.owed x j) (sym e.1) ∙ ap (λ x. has v.owed holder x) (sym e.0) ∙ acc.3 in
      let c = count_one_yes (is_request j k) b a (Request (asker, holder)) (both_yes asker holder j k e.0 e.1) (one_place t j b a (subst (λ p. At t p b) e.0 acc.1) at_j) in
      let n = ap bit new in
      let w = ap bit old in
      omega arith
  | inr other ↦
      let c = count_one_no (is_request j k) b a (Request (asker, holder)) other in
      let n = ap bit (has-with_other v.owed holder asker k j (λ p. true≢false (sym (both_yes asker holder j k (sym p.1) (sym p.0)) ∙ other))) in
      omega arith
]
owed_move t s v (Got b (Reply_frame (holder, asker))) d j k a acc at_k at_j free = let c = count_one_no (is_request j k) b a (Reply_frame (holder, asker)) refl in omega arith
owed_move t s v (Got b (Probe (o, f, g))) d j k a acc at_k at_j free =
    let c = count_one_no (is_request j k) b a (Probe (o, f, g)) refl in
    let w = ap (λ r. bit (has r k j)) (probe_owed t s v b o f g d) in
    omega arith

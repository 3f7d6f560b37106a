-- What an event changes of one wait at the sites that keep it.
use Rattle.std.proofs.Common.{◌≡◌, ◌≢◌, ℕ, ◌+◌, ◌≤◌, max, Bool, true, false, not, ◌&&◌, ◌||◌, List, [], ◌∷◌, ◌==◌, if◌then◌else◌, refl, sym, ap, ◌∙◌, inl, inr, Option, None, MatchBool, true≢false, arith}
use Rattle.std.proofs.lemmas.Bool.{cases_Bool, cases_eq, eq-eqb, ne_eqb, and_from}
use Rattle.cmh_model3.specs.declared.frame.Frame.TheVariants.{Request, Reply as Reply_frame, Withdraw as Withdraw_frame, Probe}
use Rattle.cmh_model3.specs.declared.frame.Message.{Message}
use Rattle.cmh_model3.specs.declared.event.Event.{Event}
use Rattle.cmh_model3.specs.declared.event.Event.TheVariants.{Ask, Reply, Withdraw, Got, Turn}
use Rattle.cmh_model3.specs.Lists.{with_each, in_list, without, without_all, set_at, set_pair}
use Rattle.cmh_model3.specs.State.{passes, State, waits_for, with_waits}
use Rattle.cmh_model3.specs.Paths.{ReachesLocally}
use Rattle.cmh_model3.specs.Rules.{Accepts, Sends, changed, requests, withdraws, probe_acts, DeclaresOrProbes}
use Rattle.cmh_model3.specs.Journals.{frames_to, message_from}
use Rattle.cmh_model3.specs.Frames.{bit, count, is_reply}
use Rattle.cmh_model3.proofs.World.{is_request, held}
use Rattle.cmh_model3.proofs.Invariants.{OwnPlace}
use Rattle.cmh_model3.proofs.Counts.{in_with, and_no, and_yes, or_no, both_or_not, both_yes, swap, count_if, count_cons, count_sent_append, count_empty, count_none, requests_none, withdraws_none, outcome_counts, without_same, without_other, in_minus, or_yes, or_swap, and_swap, count_requests}

-- ---- fields of either of two states
pub if-owed : (c : Bool) (x y : State) → (if c then x else y).owed ≡ (if c then x.owed else y.owed)
if-owed true x y = refl
if-owed false x y = refl

pub if_same : {X : Type 0} (c : Bool) (x : X) → (if c then x else x) ≡ x
if_same true x = refl
if_same false x = refl

module _ (home : ℕ → ℕ) (s : ℕ) (v : State) where
  pub reply_owed : (h i : ℕ) → (changed home s v (Reply h i)).owed ≡ set_pair v.owed h i false
  reply_owed h i = if-owed (home i == s) _ _ ∙ if_same (home i == s) (set_pair v.owed h i false)

  pub reply_waits : (h i j k : ℕ) → waits_for (changed home s v (Reply h i)) j k ≡ (if (home i == s) && (j == i) then in_list (without (v.waits i) h) k else waits_for v j k)
  reply_waits h i j k = go (home i == s) (j == i) refl
    where
      go : (c d : Bool) → (j == i) ≡ d → waits_for (if c then with_waits (record v { owed = set_pair v.owed h i false }) i (without (v.waits i) h) else record v { owed = set_pair v.owed h i false }) j k ≡ (if c && d then in_list (without (v.waits i) h) k else waits_for v j k)
      go true true e = ap (λ z. in_list (if z then without (v.waits i) h else v.waits j) k) e
      go true false e = ap (λ z. in_list (if z then without (v.waits i) h else v.waits j) k) e
      go false d e = refl

  pub reply_leaving : (h i : ℕ) → (changed home s v (Reply h i)).leaving ≡ v.leaving
  reply_leaving h i = go (home i == s)
    where
      go : (c : Bool) → (if c then with_waits (record v { owed = set_pair v.owed h i false }) i (without (v.waits i) h) else record v { owed = set_pair v.owed h i false }).leaving ≡ v.leaving
      go true = refl
      go false = refl

  pub got_reply_owed : (a c h i : ℕ) → (changed home s v (Got a c (Reply_frame h i))).owed ≡ v.owed
  got_reply_owed a c h i = go (waits_for v i h)
    where
      go : (z : Bool) → (if z then with_waits v i (without (v.waits i) h) else record v { leaving = set_pair v.leaving i h false }).owed ≡ v.owed
      go true = refl
      go false = refl

  pub got_probe : (a c i n x y : ℕ) → ((changed home s v (Got a c (Probe i n x y))).owed ≡ v.owed) × ((changed home s v (Got a c (Probe i n x y))).waits ≡ v.waits) × ((changed home s v (Got a c (Probe i n x y))).leaving ≡ v.leaving)
  got_probe a c i n x y = go (probe_acts v i n x y)
    where
      go : (z : Bool) → ((if z then record v { marks = set_at v.marks y (set_at (v.marks y) i n) } else v).owed ≡ v.owed) × ((if z then record v { marks = set_at v.marks y (set_at (v.marks y) i n) } else v).waits ≡ v.waits) × ((if z then record v { marks = set_at v.marks y (set_at (v.marks y) i n) } else v).leaving ≡ v.leaving)
      go true = (refl, refl, refl)
      go false = (refl, refl, refl)

  pub probe_counts : (p : Message → Bool) (b a c i n x y : ℕ) (sent : List (ℕ × Message)) (d : Option ℕ) → ((c i n a b : ℕ) → p (record { clock = c; frame = Probe i n a b }) ≡ false) → Sends home s v (Got a c (Probe i n x y)) sent d → count p (frames_to b sent) ≡ 0
  probe_counts p b a c i n x y sent d blind h = go (probe_acts v i n x y) h
    where
      go : (z : Bool) → MatchBool z (DeclaresOrProbes home (ReachesLocally home s v n i y i × (passes v n i i ≡ true)) s v (max v.clock c) i n y sent d) ((sent ≡ []) × (d ≡ None)) → count p (frames_to b sent) ≡ 0
      go true g = outcome_counts home _ p b s v (max v.clock c) i n y sent d blind g
      go false g = count_empty p b sent g.0

module _ (home : ℕ → ℕ) (s : ℕ) (v : State) (sent : List (ℕ × Message)) (d : Option ℕ) (j k : ℕ) where
  -- an equal pair or none: the change of what is owed
  owed_gone : (h i : ℕ) → (k ≡ h) × (j ≡ i) → set_pair v.owed h i false k j ≡ false
  owed_gone h i e = ap (λ z. if z then false else v.owed k j) (both_yes k j h i e.0 e.1)

  owed_else : (h i : ℕ) (x : Bool) → ((k == h) && (j == i)) ≡ false → set_pair v.owed h i x k j ≡ v.owed k j
  owed_else h i x e = ap (λ z. if z then x else v.owed k j) e

  -- at the site of k, with j elsewhere
  pub far_to : (ev : Event) → Accepts home s v ev → Sends home s v ev sent d → home k ≡ s → home j ≢ s
      → bit ((changed home s v ev).owed k j) + count (is_reply k j) (frames_to (home j) sent) ≡ bit (v.owed k j) + count (is_request j k) (message_from (home j) ev)
  far_to (Ask i ks) acc out at far =
      let other : (j == i) ≡ false = ne_eqb j i (λ e. far (ap home e ∙ acc.0)) in
      let owed = ap (λ z. bit (((z && (home k == s)) && in_list ks k) || v.owed k j)) other in
      let c1 = ap (λ l. count (is_reply k j) (frames_to (home j) l)) out.1 in
      let c2 = count_sent_append (is_reply k j) (home j) (requests home s (v.clock + 1) i ks) out.0 in
      let c3 = count_none (is_reply k j) (home j) (requests home s (v.clock + 1) i ks) (requests_none home (is_reply k j) s (v.clock + 1) i ks (λ q. refl)) in
      let c4 = outcome_counts home _ (is_reply k j) (home j) s _ (v.clock + 1) i (v.clock + 1) i out.0 d (λ c i n a b. refl) out.2 in
      omega (arith, owed, c1, c2, c3, c4)
  far_to (Reply h i) acc out at far =
      let owed = ap (λ r. bit (r k j)) (reply_owed home s v h i) in
      let c1 = ap (λ l. count (is_reply k j) (frames_to (home j) l)) out.0 in
      elim (both_or_not k j h i) [
        | inl e ↦
            let gone = ap bit (owed_gone h i e) in
            let was : bit (v.owed k j) ≡ 1 = ap bit (ap (λ x. v.owed x j) e.0 ∙ ap (v.owed h) e.1 ∙ acc.2) in
            let away : (home i == s) ≡ false = ne_eqb (home i) s (λ f. far (ap home e.1 ∙ f)) in
            let m : ℕ × Message = (home i, record { clock = v.clock; frame = Reply_frame h i }) in
            let c2 = ap (λ z. count (is_reply k j) (frames_to (home j) (if z then [] else m ∷ []))) away in
            let c3 = count_cons (is_reply k j) (home j) m [] in
            let c4 : bit ((home i == home j) && ((h == k) && (i == j))) ≡ 1 = ap bit (and_from (home i == home j) ((h == k) && (i == j)) (eq-eqb (home i) (home j) (ap home (sym e.1))) (both_yes h i k j (sym e.0) (sym e.1))) in
            omega (arith, owed, c1, gone, was, c2, c3, c4)
        | inr o ↦
            let same = ap bit (owed_else h i false o) in
            let c2 = reply_miss (home i == s) (home i) v.clock h i (swap h i k j ∙ o) in
            omega (arith, owed, c1, same, c2)
      ]
    where
      reply_miss : (z : Bool) (b c h i : ℕ) → ((h == k) && (i == j)) ≡ false → count (is_reply k j) (frames_to (home j) (if z then [] else (b, record { clock = c; frame = Reply_frame h i }) ∷ [])) ≡ 0
      reply_miss true b c h i o = refl
      reply_miss false b c h i o = count_none (is_reply k j) (home j) ((b, record { clock = c; frame = Reply_frame h i }) ∷ []) (o, tt)
  far_to (Withdraw i ks) acc out at far =
      let other : (j == i) ≡ false = ne_eqb j i (λ e. far (ap home e ∙ acc.0)) in
      let owed = ap (λ z. bit (not ((z && (home k == s)) && in_list ks k) && v.owed k j)) other in
      let c1 = ap (λ l. count (is_reply k j) (frames_to (home j) l)) out.0 in
      let c2 = count_none (is_reply k j) (home j) (withdraws home s v.clock i ks) (withdraws_none home (is_reply k j) s v.clock i ks (λ q. refl)) in
      omega (arith, owed, c1, c2)
  far_to (Turn d) acc out at far = let c1 = count_empty (is_reply k j) (home j) sent out.0 in omega (arith, c1)
  far_to (Got a c (Request x y)) acc out at far =
      let c1 = count_empty (is_reply k j) (home j) sent out.0 in
      let m : Message = record { clock = c; frame = Request x y } in
      let c2 = count_if (is_request j k) (a == home j) m in
      elim (both_or_not k j y x) [
        | inl e ↦
            let new : bit (set_pair v.owed y x true k j) ≡ 1 = ap (λ z. bit (if z then true else v.owed k j)) (both_yes k j y x e.0 e.1) in
            let was : bit (v.owed k j) ≡ 0 = ap bit (ap (λ q. v.owed q j) e.0 ∙ ap (v.owed y) e.1 ∙ acc.3) in
            let hit : bit ((a == home j) && ((x == j) && (y == k))) ≡ 1 =
            ap bit (and_from (a == home j) ((x == j) && (y == k)) (eq-eqb a (home j) (sym acc.1 ∙ ap home (sym e.1))) (both_yes x y j k (sym e.1) (sym e.0))) in
            omega (arith, c1, c2, new, was, hit)
        | inr o ↦
            let same = ap bit (owed_else y x true o) in
            let no : ((x == j) && (y == k)) ≡ false = elim (both_or_not x y j k) [ inl e ↦ absurd (true≢false (sym (both_yes k j y x (sym e.1) (sym e.0)) ∙ o)) | inr q ↦ q ] in
            let miss : bit ((a == home j) && ((x == j) && (y == k))) ≡ 0 = ap (λ z. bit ((a == home j) && z)) no ∙ ap bit (and_no (a == home j)) in
            omega (arith, c1, c2, same, miss)
      ]
  far_to (Got a c (Reply_frame h i)) acc out at far =
      let owed = ap (λ r. bit (r k j)) (got_reply_owed home s v a c h i) in
      let c1 = count_empty (is_reply k j) (home j) sent out.0 in
      let c2 = count_if (is_request j k) (a == home j) (record { clock = c; frame = Reply_frame h i }) in
      let c3 = ap bit (and_no (a == home j)) in
      omega (arith, owed, c1, c2, c3)
  far_to (Got a c (Withdraw_frame x y)) acc out at far =
      let c0 = ap (λ l. count (is_reply k j) (frames_to (home j) l)) out.0 in
      let c2 = count_if (is_request j k) (a == home j) (record { clock = c; frame = Withdraw_frame x y }) in
      let c3 = ap bit (and_no (a == home j)) in
      let m : ℕ × Message = (a, record { clock = max v.clock c; frame = Reply_frame y x }) in
      let c4 = answer (v.owed y x) a (max v.clock c) x y in
      elim (both_or_not k j y x) [
        | inl e ↦
            let gone = ap bit (owed_gone y x e) in
            let was : bit (v.owed k j) ≡ bit (v.owed y x) = ap bit (ap (λ q. v.owed q j) e.0 ∙ ap (v.owed y) e.1) in
            let hit : bit (v.owed y x && ((a == home j) && ((y == k) && (x == j)))) ≡ bit (v.owed y x) =
            ap (λ z. bit (v.owed y x && z)) (and_from (a == home j) ((y == k) && (x == j)) (eq-eqb a (home j) (sym acc.1 ∙ ap home (sym e.1))) (both_yes y x k j (sym e.0) (sym e.1))) ∙ ap bit (and_yes (v.owed y x)) in
            omega (arith, c0, c2, c3, c4, gone, was, hit)
        | inr o ↦
            let same = ap bit (owed_else y x false o) in
            let miss : bit (v.owed y x && ((a == home j) && ((y == k) && (x == j)))) ≡ 0 =
            ap (λ z. bit (v.owed y x && ((a == home j) && z))) (swap y x k j ∙ o) ∙ ap (λ z. bit (v.owed y x && z)) (and_no (a == home j)) ∙ ap bit (and_no (v.owed y x)) in
            omega (arith, c0, c2, c3, c4, same, miss)
      ]
    where
      answer : (z : Bool) (a c x y : ℕ) → count (is_reply k j) (frames_to (home j) (if z then (a, record { clock = c; frame = Reply_frame y x }) ∷ [] else [])) ≡ bit (z && ((a == home j) && ((y == k) && (x == j))))
      answer true a c x y = let one = count_cons (is_reply k j) (home j) (a, record { clock = c; frame = Reply_frame y x }) [] in omega (arith, one)
      answer false a c x y = refl
  far_to (Got a c (Probe i n x y)) acc out at far =
      let same = ap (λ r. bit (r k j)) (got_probe home s v a c i n x y).0 in
      let c1 = probe_counts home s v (is_reply k j) (home j) a c i n x y sent d (λ c i n a b. refl) out in
      let c2 = count_if (is_request j k) (a == home j) (record { clock = c; frame = Probe i n x y }) in
      let c3 = ap bit (and_no (a == home j)) in
      omega (arith, same, c1, c2, c3)

  -- j keeps k as before, where these are the same
  same_held : (w : State) → waits_for w j k ≡ waits_for v j k → w.leaving j k ≡ v.leaving j k → held w j k ≡ held v j k
  same_held w e f = let a = ap bit e in let b = ap bit f in omega (arith, a, b)

  -- at the site of j, with k elsewhere
  pub far_from : (ev : Event) → Accepts home s v ev → Sends home s v ev sent d → home j ≡ s → home k ≢ s → held v j k ≤ 1
      → (held (changed home s v ev) j k + count (is_reply k j) (message_from (home k) ev) ≡ held v j k + count (is_request j k) (frames_to (home k) sent))
      × (held (changed home s v ev) j k ≤ 1)
  far_from (Ask i ks) acc out at far most =
      let c1 = ap (λ l. count (is_request j k) (frames_to (home k) l)) out.1 in
      let c2 = count_sent_append (is_request j k) (home k) (requests home s (v.clock + 1) i ks) out.0 in
      let c3 = count_requests home s (v.clock + 1) i j k ks far acc.2.0 in
      let c4 = outcome_counts home _ (is_request j k) (home k) s _ (v.clock + 1) i (v.clock + 1) i out.0 d (λ c i n a b. refl) out.2 in
      elim (cases_eq j i) [
        | inl e ↦
            let new : bit (waits_for (changed home s v (Ask i ks)) j k) ≡ bit (waits_for v j k || in_list ks k) =
            ap (λ z. bit (in_list (if z then with_each (v.waits i) ks else v.waits j) k)) (eq-eqb j i e) ∙ ap bit (in_with (v.waits i) ks k) ∙ ap (λ q. bit (in_list (v.waits q) k || in_list ks k)) (sym e) in
            let asks : bit ((i == j) && in_list ks k) ≡ bit (in_list ks k) = ap (λ z. bit (z && in_list ks k)) (eq-eqb i j (sym e)) in
            elim (cases_Bool (in_list ks k)) [
              | inl y ↦
                  let l = ap bit (ap (λ q. v.leaving q k) e ∙ (acc.2.1 k y).1) in
                  let o = ap bit (ap (λ q. in_list (v.waits q) k) e ∙ (acc.2.1 k y).2) in
                  let b = ap bit y in
                  let sum : bit (waits_for v j k || in_list ks k) ≡ 1 = ap (λ z. bit (waits_for v j k || z)) y ∙ ap bit (or_yes (waits_for v j k)) in
                  (omega (arith, c1, c2, c3, c4, new, asks, sum, b, o), omega (arith, new, sum, l))
              | inr y ↦
                  let b = ap bit y in
                  let sum : bit (waits_for v j k || in_list ks k) ≡ bit (waits_for v j k) = ap (λ z. bit (waits_for v j k || z)) y ∙ ap bit (or_no (waits_for v j k)) in
                  (omega (arith, c1, c2, c3, c4, new, asks, sum, b), omega (arith, new, sum, most))
            ]
        | inr n ↦
            let new : bit (waits_for (changed home s v (Ask i ks)) j k) ≡ bit (waits_for v j k) = ap (λ z. bit (in_list (if z then with_each (v.waits i) ks else v.waits j) k)) (ne_eqb j i n) in
            let asks : bit ((i == j) && in_list ks k) ≡ 0 = ap (λ z. bit (z && in_list ks k)) (ne_eqb i j (λ e. n (sym e))) in
            (omega (arith, c1, c2, c3, c4, new, asks), omega (arith, new, most))
      ]
  far_from (Reply h i) acc out at far most =
      let c1 = ap (λ l. count (is_request j k) (frames_to (home k) l)) out.0 in
      let c2 = blind (home i == s) (home i) v.clock h i in
      let other : h ≢ k = λ e. far (ap home (sym e) ∙ acc.0) in
      let w : waits_for (changed home s v (Reply h i)) j k ≡ waits_for v j k = reply_waits home s v h i j k ∙ keeps (home i == s) i h other in
      let same = same_held (changed home s v (Reply h i)) w (ap (λ r. r j k) (reply_leaving home s v h i)) in
      (omega (arith, c1, c2, same), omega (arith, same, most))
    where
      blind : (z : Bool) (b c h i : ℕ) → count (is_request j k) (frames_to (home k) (if z then [] else (b, record { clock = c; frame = Reply_frame h i }) ∷ [])) ≡ 0
      blind true b c h i = refl
      blind false b c h i = count_none (is_request j k) (home k) ((b, record { clock = c; frame = Reply_frame h i }) ∷ []) (refl, tt)

      keeps : (z : Bool) (i h : ℕ) → h ≢ k → (if z && (j == i) then in_list (without (v.waits i) h) k else waits_for v j k) ≡ waits_for v j k
      keeps false i h n = refl
      keeps true i h n = elim (cases_eq j i) [
        | inl e ↦ ap (λ z. if z then in_list (without (v.waits i) h) k else waits_for v j k) (eq-eqb j i e) ∙ without_other (v.waits i) h k n ∙ ap (λ q. in_list (v.waits q) k) (sym e)
        | inr e ↦ ap (λ z. if z then in_list (without (v.waits i) h) k else waits_for v j k) (ne_eqb j i e)
      ]
  far_from (Withdraw i ks) acc out at far most =
      let c1 = ap (λ l. count (is_request j k) (frames_to (home k) l)) out.0 in
      let c2 = count_none (is_request j k) (home k) (withdraws home s v.clock i ks) (withdraws_none home (is_request j k) s v.clock i ks (λ q. refl)) in
      elim (cases_eq j i) [
        | inl e ↦
            let new : bit (waits_for (changed home s v (Withdraw i ks)) j k) ≡ bit (waits_for v j k && not (in_list ks k)) =
            ap (λ z. bit (in_list (if z then without_all (v.waits i) ks else v.waits j) k)) (eq-eqb j i e) ∙ ap bit (in_minus (v.waits i) ks k) ∙ ap (λ q. bit (in_list (v.waits q) k && not (in_list ks k))) (sym e) in
            let l1 : bit ((changed home s v (Withdraw i ks)).leaving j k) ≡ bit (in_list ks k || v.leaving j k) =
            ap (λ z. bit (((z && not (home k == s)) && in_list ks k) || v.leaving j k)) (eq-eqb j i e)
            ∙ ap (λ z. bit ((not z && in_list ks k) || v.leaving j k)) (ne_eqb (home k) s far) in
            let sum = moved (waits_for v j k) (v.leaving j k) (in_list ks k) most (λ y. ap (λ q. in_list (v.waits q) k) e ∙ acc.3 k y) in
            (omega (arith, c1, c2, new, l1, sum), omega (arith, new, l1, sum, most))
        | inr n ↦
            let new : waits_for (changed home s v (Withdraw i ks)) j k ≡ waits_for v j k = ap (λ z. in_list (if z then without_all (v.waits i) ks else v.waits j) k) (ne_eqb j i n) in
            let l1 : (changed home s v (Withdraw i ks)).leaving j k ≡ v.leaving j k = ap (λ z. ((z && not (home k == s)) && in_list ks k) || v.leaving j k) (ne_eqb j i n) in
            let same = same_held (changed home s v (Withdraw i ks)) new l1 in
            (omega (arith, c1, c2, same), omega (arith, same, most))
      ]
    where
      moved : (x y z : Bool) → bit x + bit y ≤ 1 → (z ≡ true → x ≡ true) → bit (x && not z) + bit (z || y) ≡ bit x + bit y
      moved true true z h g = absurd (omega (arith, h))
      moved true false true h g = refl
      moved true false false h g = refl
      moved false y true h g = absurd (true≢false (sym (g refl)))
      moved false y false h g = refl
  far_from (Turn d) acc out at far most = let c1 = count_empty (is_request j k) (home k) sent out.0 in (omega (arith, c1), most)
  far_from (Got a c (Request x y)) acc out at far most =
      let c1 = count_empty (is_request j k) (home k) sent out.0 in
      let c2 = count_if (is_reply k j) (a == home k) (record { clock = c; frame = Request x y }) in
      let c3 = ap bit (and_no (a == home k)) in
      (omega (arith, c1, c2, c3), most)
  far_from (Got a c (Reply_frame h i)) acc out at far most =
      let c1 = count_empty (is_request j k) (home k) sent out.0 in
      let c2 = count_if (is_reply k j) (a == home k) (record { clock = c; frame = Reply_frame h i }) in
      elim (both_or_not h i k j) [
        | inl e ↦
            let hit : bit ((a == home k) && ((h == k) && (i == j))) ≡ 1 =
            ap bit (and_from (a == home k) ((h == k) && (i == j)) (eq-eqb a (home k) (sym acc.1 ∙ ap home e.0)) (both_yes h i k j e.0 e.1)) in
            let one = taken h i (waits_for v i h) (sym e.0) (sym e.1) refl acc.3 most in
            (omega (arith, c1, c2, hit, one), omega (arith, one, most))
        | inr o ↦
            let miss : bit ((a == home k) && ((h == k) && (i == j))) ≡ 0 = ap (λ z. bit ((a == home k) && z)) o ∙ ap bit (and_no (a == home k)) in
            let same = kept h i (waits_for v i h) (sym (swap h i k j) ∙ o) in
            (omega (arith, c1, c2, miss, same), omega (arith, same, most))
      ]
    where
      taken : (h i : ℕ) (z : Bool) → k ≡ h → j ≡ i → waits_for v i h ≡ z → (waits_for v i h || v.leaving i h) ≡ true → bit (in_list (v.waits j) k) + bit (v.leaving j k) ≤ 1
          → bit (waits_for (if z then with_waits v i (without (v.waits i) h) else record v { leaving = set_pair v.leaving i h false }) j k)
          + bit ((if z then with_waits v i (without (v.waits i) h) else record v { leaving = set_pair v.leaving i h false }).leaving j k) + 1 ≡ bit (in_list (v.waits j) k) + bit (v.leaving j k)
      taken h i true ek ej w some m =
          let new : bit (in_list (if j == i then without (v.waits i) h else v.waits j) k) ≡ 0 =
          ap (λ z. bit (in_list (if z then without (v.waits i) h else v.waits j) k)) (eq-eqb j i ej) ∙ ap (λ q. bit (in_list (without (v.waits i) q) k)) (sym ek) ∙ ap bit (without_same (v.waits i) k) in
          let old : bit (in_list (v.waits j) k) ≡ 1 = ap bit (ap (λ q. in_list (v.waits q) k) ej ∙ ap (λ q. in_list (v.waits i) q) ek ∙ w) in
          omega (arith, new, old)
      taken h i false ek ej w some m =
          let new : bit (if (j == i) && (k == h) then false else v.leaving j k) ≡ 0 = ap (λ z. bit (if z then false else v.leaving j k)) (both_yes j k i h ej ek) in
          let old : bit (v.leaving j k) ≡ 1 = ap bit (ap (λ q. v.leaving q k) ej ∙ ap (v.leaving i) ek ∙ sym (ap (λ z. z || v.leaving i h) w) ∙ some) in
          omega (arith, new, old)

      kept : (h i : ℕ) (z : Bool) → ((k == h) && (j == i)) ≡ false
          → bit (waits_for (if z then with_waits v i (without (v.waits i) h) else record v { leaving = set_pair v.leaving i h false }) j k)
          + bit ((if z then with_waits v i (without (v.waits i) h) else record v { leaving = set_pair v.leaving i h false }).leaving j k) ≡ bit (in_list (v.waits j) k) + bit (v.leaving j k)
      kept h i true o = elim (cases_eq j i) [
        | inl e ↦
            let n : h ≢ k = λ f. true≢false (sym (both_yes k j h i (sym f) e) ∙ o) in
            let new : bit (in_list (if j == i then without (v.waits i) h else v.waits j) k) ≡ bit (in_list (v.waits j) k) =
            ap (λ z. bit (in_list (if z then without (v.waits i) h else v.waits j) k)) (eq-eqb j i e) ∙ ap bit (without_other (v.waits i) h k n) ∙ ap (λ q. bit (in_list (v.waits q) k)) (sym e) in
            omega (arith, new)
        | inr e ↦
            let new = ap (λ z. bit (in_list (if z then without (v.waits i) h else v.waits j) k)) (ne_eqb j i e) in
            omega (arith, new)
      ]
      kept h i false o =
          let no : ((j == i) && (k == h)) ≡ false = elim (both_or_not j k i h) [ inl e ↦ absurd (true≢false (sym (both_yes k j h i e.1 e.0) ∙ o)) | inr q ↦ q ] in
          let new = ap (λ z. bit (if z then false else v.leaving j k)) no in
          omega (arith, new)
  far_from (Got a c (Withdraw_frame x y)) acc out at far most =
      let c1 = ap (λ l. count (is_request j k) (frames_to (home k) l)) out.0 in
      let c2 = count_if (is_reply k j) (a == home k) (record { clock = c; frame = Withdraw_frame x y }) in
      let c3 = ap bit (and_no (a == home k)) in
      let c4 = blind (v.owed y x) a (max v.clock c) x y in
      (omega (arith, c1, c2, c3, c4), most)
    where
      blind : (z : Bool) (a c x y : ℕ) → count (is_request j k) (frames_to (home k) (if z then (a, record { clock = c; frame = Reply_frame y x }) ∷ [] else [])) ≡ 0
      blind true a c x y = count_none (is_request j k) (home k) ((a, record { clock = c; frame = Reply_frame y x }) ∷ []) (refl, tt)
      blind false a c x y = refl
  far_from (Got a c (Probe i n x y)) acc out at far most =
      let same = got_probe home s v a c i n x y in
      let held_same = same_held (changed home s v (Got a c (Probe i n x y))) (ap (λ r. in_list (r j) k) same.1) (ap (λ r. r j k) same.2) in
      let c1 = probe_counts home s v (is_request j k) (home k) a c i n x y sent d (λ c i n a b. refl) out in
      let c2 = count_if (is_reply k j) (a == home k) (record { clock = c; frame = Probe i n x y }) in
      let c3 = ap bit (and_no (a == home k)) in
      (omega (arith, held_same, c1, c2, c3), omega (arith, held_same, most))

  -- at the one site of both
  pub own_move : (ev : Event) → Accepts home s v ev → home j ≡ s → home k ≡ s → OwnPlace v j k → OwnPlace (changed home s v ev) j k
  own_move (Ask i ks) acc at_j at_k inv = elim (cases_eq j i) [
    | inl e ↦ (
      ap (λ z. in_list (if z then with_each (v.waits i) ks else v.waits j) k) (eq-eqb j i e) ∙ in_with (v.waits i) ks k ∙ ap (λ q. in_list (v.waits q) k || in_list ks k) (sym e)
          ∙ or_swap (waits_for v j k) (in_list ks k) ∙ ap (λ z. in_list ks k || z) inv.0
          ∙ ap (λ z. (z && in_list ks k) || v.owed k j) (sym (and_from (j == i) (home k == s) (eq-eqb j i e) (eq-eqb (home k) s at_k))),
      inv.1,
    )
    | inr n ↦ (ap (λ z. in_list (if z then with_each (v.waits i) ks else v.waits j) k) (ne_eqb j i n) ∙ inv.0 ∙ ap (λ z. ((z && (home k == s)) && in_list ks k) || v.owed k j) (sym (ne_eqb j i n)), inv.1)
  ]
  own_move (Reply h i) acc at_j at_k inv =
      let owed : (changed home s v (Reply h i)).owed k j ≡ set_pair v.owed h i false k j = ap (λ r. r k j) (reply_owed home s v h i) in
      let waits = reply_waits home s v h i j k in
      (waits ∙ go ∙ sym owed, ap (λ r. r j k) (reply_leaving home s v h i) ∙ inv.1)
    where
      go : (if (home i == s) && (j == i) then in_list (without (v.waits i) h) k else waits_for v j k) ≡ set_pair v.owed h i false k j
      go = elim (cases_eq j i) [
        | inl e ↦
            ap (λ z. if z then in_list (without (v.waits i) h) k else waits_for v j k) (and_from (home i == s) (j == i) (eq-eqb (home i) s (ap home (sym e) ∙ at_j)) (eq-eqb j i e))
            ∙ elim (cases_eq h k) [
              | inl f ↦ ap (λ q. in_list (without (v.waits i) q) k) f ∙ without_same (v.waits i) k ∙ sym (owed_gone h i (sym f, e))
              | inr f ↦ without_other (v.waits i) h k f ∙ ap (λ q. in_list (v.waits q) k) (sym e) ∙ inv.0 ∙ sym (owed_else h i false (ap (λ z. z && (j == i)) (ne_eqb k h (λ g. f (sym g)))))
            ]
        | inr n ↦
            ap (λ z. if (home i == s) && z then in_list (without (v.waits i) h) k else waits_for v j k) (ne_eqb j i n)
            ∙ ap (λ z. if z then in_list (without (v.waits i) h) k else waits_for v j k) (and_no (home i == s))
            ∙ inv.0 ∙ sym (owed_else h i false (ap (λ z. (k == h) && z) (ne_eqb j i n) ∙ and_no (k == h)))
      ]
  own_move (Withdraw i ks) acc at_j at_k inv = elim (cases_eq j i) [
    | inl e ↦
        let here : ((j == i) && (home k == s)) ≡ true = and_from (j == i) (home k == s) (eq-eqb j i e) (eq-eqb (home k) s at_k) in (
          ap (λ z. in_list (if z then without_all (v.waits i) ks else v.waits j) k) (eq-eqb j i e) ∙ in_minus (v.waits i) ks k ∙ ap (λ q. in_list (v.waits q) k && not (in_list ks k)) (sym e)
              ∙ and_swap (waits_for v j k) (not (in_list ks k)) ∙ ap (λ z. not (in_list ks k) && z) inv.0 ∙ sym (ap (λ z. not (z && in_list ks k) && v.owed k j) here),
          ap (λ z. ((z && not (home k == s)) && in_list ks k) || v.leaving j k) (eq-eqb j i e) ∙ ap (λ z. (not z && in_list ks k) || v.leaving j k) (eq-eqb (home k) s at_k) ∙ inv.1,
        )
    | inr n ↦ (
      ap (λ z. in_list (if z then without_all (v.waits i) ks else v.waits j) k) (ne_eqb j i n) ∙ inv.0 ∙ sym (ap (λ z. not ((z && (home k == s)) && in_list ks k) && v.owed k j) (ne_eqb j i n)),
      ap (λ z. ((z && not (home k == s)) && in_list ks k) || v.leaving j k) (ne_eqb j i n) ∙ inv.1,
    )
  ]
  own_move (Turn d) acc at_j at_k inv = inv
  own_move (Got a c (Request x y)) acc at_j at_k inv =
      let away : (j == x) ≡ false = ne_eqb j x (λ e. acc.0 (sym acc.1 ∙ ap home (sym e) ∙ at_j)) in
      (inv.0 ∙ sym (owed_else y x true (ap (λ z. (k == y) && z) away ∙ and_no (k == y))), inv.1)
  own_move (Got a c (Reply_frame h i)) acc at_j at_k inv = go (waits_for v i h)
    where
      n : h ≢ k
      n e = acc.0 (sym acc.1 ∙ ap home e ∙ at_k)

      go : (z : Bool) → OwnPlace (if z then with_waits v i (without (v.waits i) h) else record v { leaving = set_pair v.leaving i h false }) j k
      go true = elim (cases_eq j i) [
        | inl e ↦ (ap (λ z. in_list (if z then without (v.waits i) h else v.waits j) k) (eq-eqb j i e) ∙ without_other (v.waits i) h k n ∙ ap (λ q. in_list (v.waits q) k) (sym e) ∙ inv.0, inv.1)
        | inr f ↦ (ap (λ z. in_list (if z then without (v.waits i) h else v.waits j) k) (ne_eqb j i f) ∙ inv.0, inv.1)
      ]
      go false = (inv.0, ap (λ z. if (j == i) && z then false else v.leaving j k) (ne_eqb k h (λ e. n (sym e))) ∙ ap (λ z. if z then false else v.leaving j k) (and_no (j == i)) ∙ inv.1)
  own_move (Got a c (Withdraw_frame x y)) acc at_j at_k inv =
      let away : (j == x) ≡ false = ne_eqb j x (λ e. acc.0 (sym acc.1 ∙ ap home (sym e) ∙ at_j)) in
      (inv.0 ∙ sym (owed_else y x false (ap (λ z. (k == y) && z) away ∙ and_no (k == y))), inv.1)
  own_move (Got a c (Probe i n x y)) acc at_j at_k inv =
      let same = got_probe home s v a c i n x y in
      (ap (λ r. in_list (r j) k) same.1 ∙ inv.0 ∙ sym (ap (λ r. r k j) same.0), ap (λ r. r j k) same.2 ∙ inv.1)

-- Probes under way, and what is lit, after an event.
use Rattle.std.proofs.Common.{◌≡◌, ◌≢◌, ◌⊎◌, ℕ, ◌≤◌, ◌<◌, Bool, true, false, List, [], ◌∷◌, ◌++◌, ◌==◌, if◌then◌else◌, refl, sym, ap, ◌∙◌, subst, inl, inr, append-nil, append_assoc, length, Contains, slice_index_or, zero, suc, arith}
use Rattle.std.proofs.lemmas.Bool.{cases_eq, eq-eqb, ne_eqb}
use Rattle.cmh_model3.specs.declared.frame.Frame.{Frame}
use Rattle.cmh_model3.specs.declared.frame.Frame.TheVariants.{Probe}
use Rattle.cmh_model3.specs.declared.frame.Message.{Message}
use Rattle.cmh_model3.specs.declared.event.Event.{Event}
use Rattle.cmh_model3.specs.declared.event.Event.TheVariants.{Ask, Reply, Withdraw, Got, Turn}
use Rattle.cmh_model3.specs.Entries.{WorldEvent}
use Rattle.cmh_model3.specs.State.{counts, State, waits_for, passes}
use Rattle.cmh_model3.specs.Paths.{IsLocalPath}
use Rattle.cmh_model3.specs.Rules.{changed}
use Rattle.cmh_model3.specs.Journals.{frames_to, message_from}
use Rattle.cmh_model3.specs.Frames.{bit, count, is_reply}
use Rattle.cmh_model3.proofs.World.{is_request, World, Step, sent_on, got_on}
use Rattle.cmh_model3.proofs.Invariants.{Holds, MarksFit, LiveProbe, IsSource, IsLit, IsPassed, Known}
use Rattle.cmh_model3.proofs.Counts.{bit_at_most, count-append}
use Rattle.cmh_model3.proofs.Moves.{far_to}
use Rattle.cmh_model3.proofs.Kept.{link_count, sent_yes, got_no, here}
use Rattle.cmh_model3.proofs.Settled.{clock_up}
use Rattle.cmh_model3.proofs.Agreed.{bit_one}
use Rattle.cmh_model3.proofs.Held.{all_kept}
use Rattle.cmh_model3.proofs.Marks.{marks_kept}

-- what came from a site is nothing or one message
message_parts : (a : ℕ) (ev : Event) → (message_from a ev ≡ []) ⊎ ((c : ℕ) × (f : Frame) × (ev ≡ Got a c f) × (message_from a ev ≡ record { clock = c; frame = f } ∷ []))
message_parts a (Ask i ks) = inl refl
message_parts a (Reply x i) = inl refl
message_parts a (Withdraw i ks) = inl refl
message_parts a (Turn d) = inl refl
message_parts a (Got b c f) = elim (cases_eq b a) [
  | inl e ↦ inr (c, f, (λ t. Got (e t) c f), ap (λ z. if z then record { clock = c; frame = f } ∷ [] else []) (eq-eqb b a e))
  | inr n ↦ inl (ap (λ z. if z then record { clock = c; frame = f } ∷ [] else []) (ne_eqb b a n))
]

first_or_later : (f : Message) (ahead : List Message) (p : Message) (behind q : List Message) → ahead ++ p ∷ behind ≡ f ∷ q
    → ((ahead ≡ []) × (p ≡ f)) ⊎ ((rest : List Message) × (ahead ≡ f ∷ rest) × (q ≡ rest ++ p ∷ behind))
first_or_later f [] p behind q h = let same : p ≡ f = cc h in inl (refl, same)
first_or_later f (x ∷ ahead) p behind q h =
    let same : x ≡ f = cc h in
    let tail : ahead ++ p ∷ behind ≡ q = cc h in
    inr (ahead, (λ t. same t ∷ ahead), sym tail)

contains_split : (xs : List (ℕ × Message)) (x : ℕ × Message) → Contains xs x → (front : List (ℕ × Message)) × (back : List (ℕ × Message)) × (xs ≡ front ++ x ∷ back)
contains_split [] x h = let l = h.1 in absurd (omega (arith, l))
contains_split (y ∷ ys) x h = go h.0 h.1 h.2 (λ k l e. contains_split ys x (k, l, e))
  where
    go : (k : ℕ) → k < length (y ∷ ys) → slice_index_or (y ∷ ys) k x ≡ x → ((k : ℕ) → k < length ys → slice_index_or ys k x ≡ x → (front : List (ℕ × Message)) × (back : List (ℕ × Message)) × (ys ≡ front ++ x ∷ back)) → (front : List (ℕ × Message)) × (back : List (ℕ × Message)) × (y ∷ ys ≡ front ++ x ∷ back)
    go zero l e more = ([], ys, (λ t. e t ∷ ys))
    go (suc k) l e more = let r = more k (omega (arith, l)) e in (y ∷ r.0, r.1, (λ t. y ∷ r.2 t))

messages-append : (b : ℕ) (xs ys : List (ℕ × Message)) → frames_to b (xs ++ ys) ≡ frames_to b xs ++ frames_to b ys
messages-append b [] ys = refl
messages-append b (x ∷ xs) ys = go (x.0 == b) (messages-append b xs ys)
  where
    go : (z : Bool) → frames_to b (xs ++ ys) ≡ frames_to b xs ++ frames_to b ys → (if z then x.1 ∷ frames_to b (xs ++ ys) else frames_to b (xs ++ ys)) ≡ (if z then x.1 ∷ frames_to b xs else frames_to b xs) ++ frames_to b ys
    go true h = ap (λ l. x.1 ∷ l) h
    go false h = h

-- a local path is one in another state, where its waits count there too
pub path_back : (home : ℕ → ℕ) (s : ℕ) (v u : State) (m i : ℕ)
    → ((a b : ℕ) → home a ≡ s → counts v m i a b ≡ true → counts u m i a b ≡ true)
    → (p : ℕ) (xs : List ℕ) (q : ℕ) → home p ≡ s → IsLocalPath home s v m i p xs q → IsLocalPath home s u m i p xs q
path_back home s v u m i count p [] q at h = h
path_back home s v u m i count p (x ∷ xs) q at h = (count p x at h.0, h.1, path_back home s v u m i count x xs q h.1 h.2)

pub path_home : (home : ℕ → ℕ) (s : ℕ) (v : State) (m i p : ℕ) (xs : List ℕ) (q : ℕ) → home p ≡ s → IsLocalPath home s v m i p xs q → home q ≡ s
path_home home s v m i p [] q at h = sym (ap home h) ∙ at
path_home home s v m i p (x ∷ xs) q at h = path_home home s v m i x xs q h.1 h.2

pub path_end : (home : ℕ → ℕ) (s : ℕ) (v : State) (m i p : ℕ) (xs : List ℕ) (q k : ℕ) → IsLocalPath home s v m i p xs q → counts v m i q k ≡ true → home k ≡ s → IsLocalPath home s v m i p (xs ++ (k ∷ [])) k
path_end home s v m i p [] q k h w at = (subst (λ z. counts v m i z k ≡ true) (sym h) w, at, refl)
path_end home s v m i p (x ∷ xs) q k h w at = (h.0, h.1, path_end home s v m i x xs q k h.2 w at)

module _ (home : ℕ → ℕ) (w : World) (e : WorldEvent) (n : World) (old : Holds home w) (fit : MarksFit home w) (st : Step home w e n) where
  -- where a wait stands no reply is under way
  pub no_reply_where_stands : (j k : ℕ) → home j ≢ home k → n.wait j k ≡ true → (count (is_reply k j) (n.queue (home k) (home j)) ≡ 0) × (waits_for (n.value (home j)) j k ≡ true)
  no_reply_where_stands j k apart y =
      let waits = (marks_kept home w e n old fit st).back j k y in
      let one = (all_kept home w e n old st).agrees.far j k apart waits in
      let b = ap bit y in
      (omega (arith, one, b), waits)

  -- a live probe stays live, or it has just come
  pub live_kept : (i m j k : ℕ) → home j ≢ home k → n.wait j k ≡ true → LiveProbe home w i m j k
      → LiveProbe home n i m j k ⊎ ((c : ℕ) × (e.site ≡ home k) × (e.entry.event ≡ Got (home j) c (Probe i m j k)) × ((w.value (home k)).owed k j ≡ true))
  live_kept i m j k apart y p =
      let msg : Message = record { clock = p.0; frame = Probe i m j k } in
      let live = p.4 in
      elim (cases_eq e.site (home k)) [
        | inr far ↦
            let none : got_on (home j) (home k) e ≡ [] = ap (λ z. if z then message_from (home j) e.entry.event else []) (ne_eqb e.site (home k) far) in
            let queue : n.queue (home j) (home k) ≡ p.1 ++ msg ∷ (p.2 ++ sent_on (home j) (home k) e) =
            sym (st.links (home j) (home k) ∙ ap (λ l. l ++ n.queue (home j) (home k)) none) ∙ ap (λ l. l ++ sent_on (home j) (home k) e) p.3 ∙ append_assoc p.1 (msg ∷ p.2) (sent_on (home j) (home k) e) in
            let owed = ap (λ v. bit (v.owed k j)) (st.elsewhere (home k) (λ g. far (sym g))) in
            inl (p.0, p.1, p.2 ++ sent_on (home j) (home k) e, queue, omega (arith, live, owed))
        | inl h ↦
            let not_j : e.site ≢ home j = λ g. apart (sym g ∙ h) in
            let none : sent_on (home j) (home k) e ≡ [] = ap (λ z. if z then frames_to (home k) e.entry.sent else []) (ne_eqb e.site (home j) not_j) in
            let got : got_on (home j) (home k) e ≡ message_from (home j) e.entry.event = ap (λ z. if z then message_from (home j) e.entry.event else []) (eq-eqb e.site (home k) h) in
            let queue : p.1 ++ msg ∷ p.2 ≡ message_from (home j) e.entry.event ++ n.queue (home j) (home k) =
            sym p.3 ∙ sym (append-nil (w.queue (home j) (home k))) ∙ ap (λ l. w.queue (home j) (home k) ++ l) (sym none) ∙ st.links (home j) (home k) ∙ ap (λ l. l ++ n.queue (home j) (home k)) got in
            let replies = (no_reply_where_stands j k apart y).0 in
            let back = link_count home w e n old.single st (is_reply k j) (home k) (home j) in
            let s2 = sent_yes home w e n old.single st (is_reply k j) (home k) (home j) h in
            let g2 = got_no home w e n old.single st (is_reply k j) (home k) (home j) not_j in
            let before : bit ((w.value e.site).owed k j) ≡ bit ((w.value (home k)).owed k j) = ap (λ z. bit ((w.value z).owed k j)) h in
            let now : bit ((n.value (home k)).owed k j) ≡ bit ((changed home e.site (w.value e.site) e.entry.event).owed k j) = ap (λ v. bit (v.owed k j)) (here home w e n old.single st (home k) h) in
            let move = far_to home e.site (w.value e.site) e.entry.sent e.entry.declared j k e.entry.event st.accepted st.sends (sym h) (λ g. not_j (sym g)) in
            elim (message_parts (home j) e.entry.event) [
              | inl nothing ↦
                  let zero = ap (count (is_request j k)) nothing in
                  inl (p.0, p.1, p.2, sym (queue ∙ ap (λ l. l ++ n.queue (home j) (home k)) nothing), omega (arith, live, before, now, move, zero, replies, back, s2, g2))
              | inr one ↦
                  let f : Message = record { clock = one.0; frame = one.1 } in
                  let came = ap (count (is_request j k)) one.3 in
                  elim (first_or_later f p.1 msg p.2 (n.queue (home j) (home k)) (queue ∙ ap (λ l. l ++ n.queue (home j) (home k)) one.3)) [
                    | inl head ↦
                        let frame : one.1 ≡ Probe i m j k = ap (λ (x : Message). x.frame) (sym head.1) in
                        let empty = ap (count (is_request j k)) head.0 in
                        let most = bit_at_most ((w.value (home k)).owed k j) in
                        let owes : bit ((w.value (home k)).owed k j) ≡ 1 = omega (arith, live, empty, most) in
                        inr (one.0, h, one.2 ∙ (λ t. Got (home j) one.0 (frame t)), bit_one ((w.value (home k)).owed k j) owes)
                    | inr later ↦
                        let all = ap (count (is_request j k)) later.1 in
                        inl (p.0, later.0, p.2, later.2, omega (arith, live, before, now, move, came, all, replies, back, s2, g2))
                  ]
            ]
      ]

  -- a probe that is sent along a wait that stands is live
  pub sent_live : (i m j k c : ℕ) (pre probes : List (ℕ × Message)) → e.entry.sent ≡ pre ++ probes → count (is_request j k) (frames_to (home k) probes) ≡ 0
      → Contains probes (home k, record { clock = c; frame = Probe i m j k }) → e.site ≡ home j → home j ≢ home k → n.wait j k ≡ true → LiveProbe home n i m j k
  sent_live i m j k c pre probes sent blind has at apart y =
      let msg : Message = record { clock = c; frame = Probe i m j k } in
      let x : ℕ × Message = (home k, msg) in
      let r = contains_split probes x has in
      let b : ℕ = home k in
      let parts : frames_to b probes ≡ frames_to b r.0 ++ msg ∷ frames_to b r.1 =
      ap (frames_to b) r.2 ∙ messages-append b r.0 (x ∷ r.1) ∙ ap (λ z. frames_to b r.0 ++ (if z then msg ∷ frames_to b r.1 else frames_to b r.1)) (eq-eqb (home k) (home k) refl) in
      let not_k : e.site ≢ home k = λ g. apart (sym at ∙ g) in
      let none : got_on (home j) b e ≡ [] = ap (λ z. if z then message_from (home j) e.entry.event else []) (ne_eqb e.site (home k) not_k) in
      let all_sent : sent_on (home j) b e ≡ frames_to b pre ++ (frames_to b r.0 ++ msg ∷ frames_to b r.1) =
      ap (λ z. if z then frames_to b e.entry.sent else []) (eq-eqb e.site (home j) at) ∙ ap (frames_to b) sent ∙ messages-append b pre probes ∙ ap (λ l. frames_to b pre ++ l) parts in
      let front : List Message = (w.queue (home j) b ++ frames_to b pre) ++ frames_to b r.0 in
      let queue : n.queue (home j) b ≡ front ++ msg ∷ frames_to b r.1 =
      sym (st.links (home j) b ∙ ap (λ l. l ++ n.queue (home j) b) none) ∙ ap (λ l. w.queue (home j) b ++ l) all_sent
      ∙ sym (append_assoc (w.queue (home j) b) (frames_to b pre) (frames_to b r.0 ++ msg ∷ frames_to b r.1))
      ∙ sym (append_assoc (w.queue (home j) b ++ frames_to b pre) (frames_to b r.0) (msg ∷ frames_to b r.1)) in
      let c1 = ap (count (is_request j k)) parts ∙ count-append (is_request j k) (frames_to b r.0) (msg ∷ frames_to b r.1) in
      let c2 = ap (count (is_request j k)) queue ∙ count-append (is_request j k) front (msg ∷ frames_to b r.1) in
      let place = ((all_kept home w e n old st).single.far j k apart).0 in
      let stands = no_reply_where_stands j k apart y in
      let replies = stands.0 in
      let waits = ap bit stands.1 in
      (c, front, frames_to b r.1, queue, omega (arith, blind, c1, c2, place, replies, waits))

  -- what keeps all that is known of ask m of i
  pub record Calm (i m : ℕ) : Type 0 where
    pub start : (p : ℕ) → home p ≡ e.site → (n.value e.site).marks p i ≡ m → (w.value e.site).marks p i ≡ m
    pub count : (a b : ℕ) → m ≤ (w.value e.site).clock → home a ≡ e.site → counts (n.value e.site) m i a b ≡ true → counts (w.value e.site) m i a b ≡ true
    pub kept : (k : ℕ) → home k ≡ e.site → m ≤ (w.value e.site).clock → passes (n.value e.site) m i k ≡ true → (passes (w.value e.site) m i k ≡ true) × ((w.value e.site).marks k i ≡ m → (n.value e.site).marks k i ≡ m)
    pub wait : (j k : ℕ) → (home j ≡ e.site → m ≤ (w.value e.site).clock) → counts (n.value (home j)) m i j k ≡ true → n.wait j k ≡ true → w.wait j k ≡ true
    pub got : (c j k : ℕ) → e.entry.event ≡ Got (home j) c (Probe i m j k) → e.site ≡ home k → (w.value (home k)).owed k j ≡ true → IsPassed home n i m k

  module _ (i m : ℕ) (now : (w.value (home i)).stamp i ≡ m) (calm : Calm i m) where
    lit_back : (q : ℕ) → IsLit home n i m q → IsLit home w i m q × (home q ≡ e.site → m ≤ (w.value e.site).clock)
    lit_back q lit = elim (cases_eq (home lit.0) e.site) [
      | inr far ↦
          let same = st.elsewhere (home lit.0) far in
          let source : IsSource home w i m lit.0 = elim lit.1 [ inl s ↦ inl s | inr s ↦ inr (sym (ap (λ (v : State). v.marks lit.0 i) same) ∙ s) ] in (
            (lit.0, source, (lit.2.0, subst (λ v. IsLocalPath home (home lit.0) v m i lit.0 lit.2.0 q) same lit.2.1)),
            λ at. absurd (far (sym (path_home home (home lit.0) (n.value (home lit.0)) m i lit.0 lit.2.0 q refl lit.2.1) ∙ at)),
          )
      | inl at ↦
          let begin : IsSource home w i m lit.0 × (m ≤ (w.value e.site).clock) = source lit.0 at lit.1 in
          let path = path_back home e.site (n.value e.site) (w.value e.site) m i (λ a b. calm.count a b begin.1) lit.0 lit.2.0 q at (subst (λ z. IsLocalPath home z (n.value z) m i lit.0 lit.2.0 q) at lit.2.1) in
          ((lit.0, begin.0, (lit.2.0, subst (λ z. IsLocalPath home z (w.value z) m i lit.0 lit.2.0 q) (sym at) path)), λ h. begin.1)
    ]
      where
        source : (p : ℕ) → home p ≡ e.site → IsSource home n i m p → IsSource home w i m p × (m ≤ (w.value e.site).clock)
        source p at (inl same) =
            let at_i : home i ≡ e.site = sym (ap home same) ∙ at in
            let low = old.stamps.behind i in
            let clock = ap (λ z. (w.value z).clock) at_i in
            (inl same, omega (arith, low, clock, now))
        source p at (inr mark) =
            let r = calm.start p at (ap (λ z. (n.value z).marks p i) (sym at) ∙ mark) in
            let was : (w.value (home p)).marks p i ≡ m = ap (λ z. (w.value z).marks p i) at ∙ r in
            let low = fit.reached p i in
            let clock = ap (λ z. (w.value z).clock) at in
            (inr was, omega (arith, was, low, clock))

    counted : (j k : ℕ) → (home j ≡ e.site → m ≤ (w.value e.site).clock) → counts (n.value (home j)) m i j k ≡ true → counts (w.value (home j)) m i j k ≡ true
    counted j k low h = elim (cases_eq (home j) e.site) [
      | inl at ↦ ap (λ z. counts (w.value z) m i j k) at ∙ calm.count j k (low at) at (ap (λ z. counts (n.value z) m i j k) (sym at) ∙ h)
      | inr far ↦ sym (ap (λ v. counts v m i j k) (st.elsewhere (home j) far)) ∙ h
    ]

    pub passed_kept : (k : ℕ) → IsPassed home w i m k → IsPassed home n i m k
    passed_kept k p = elim (cases_eq (home k) e.site) [
      | inr far ↦ subst (λ (v : State). (m ≤ v.clock) × (passes v m i k ≡ true → v.marks k i ≡ m)) (sym (st.elsewhere (home k) far)) p
      | inl at ↦
          let low = p.0 in
          let up = clock_up home w e n st (home k) in
          let clock = ap (λ z. (w.value z).clock) at in (
            omega (arith, low, up),
            λ pass.
                let r = calm.kept k at (omega (arith, low, clock)) (ap (λ z. passes (n.value z) m i k) (sym at) ∙ pass) in
                let was : (w.value e.site).marks k i ≡ m = ap (λ z. (w.value z).marks k i) (sym at) ∙ p.1 (ap (λ z. passes (w.value z) m i k) at ∙ r.0) in
                ap (λ z. (n.value z).marks k i) at ∙ r.1 was,
          )
    ]

    pub far_kept : (j k : ℕ) → home j ≢ home k → n.wait j k ≡ true → LiveProbe home w i m j k ⊎ IsPassed home w i m k → LiveProbe home n i m j k ⊎ IsPassed home n i m k
    far_kept j k apart y (inr p) = inr (passed_kept k p)
    far_kept j k apart y (inl p) = elim (live_kept i m j k apart y p) [
      | inl live ↦ inl live
      | inr came ↦ inr (calm.got came.0 j k came.2 came.1 came.3)
    ]

    pub known_calm : Known home w i m → Known home n i m
    known_calm old_known = record {
      near = λ j k lit y c same. let was = lit_back j lit in old_known.near j k was.0 (calm.wait j k was.1 c y) (counted j k was.1 c) same;
      far = λ j k lit y c apart. let was = lit_back j lit in far_kept j k apart y (old_known.far j k was.0 (calm.wait j k was.1 c y) (counted j k was.1 c) apart);
      own = λ h. elim (cases_eq (home i) e.site) [
        | inl at ↦ old_known.own (ap (λ z. (w.value z).marks i i) at ∙ calm.start i at (ap (λ z. (n.value z).marks i i) (sym at) ∙ h))
        | inr far ↦ old_known.own (sym (ap (λ (v : State). v.marks i i) (st.elsewhere (home i) far)) ∙ h)
      ];
    }

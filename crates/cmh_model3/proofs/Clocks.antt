-- Clocks only rise, and what is sent carries the clock.
use Rattle.std.proofs.Common.{◌≡◌, ℕ, ◌+◌, ◌≤◌, max, Bool, true, false, List, [], ◌∷◌, ◌++◌, ◌==◌, if◌then◌else◌, refl, sym, ap, subst, inl, inr, Option, MatchBool, None, arith}
use Rattle.std.specs.List.{AllByRecursion}
use Rattle.std.proofs.lemmas.Bool.{cases_Bool}
use Rattle.cmh_model3.specs.declared.frame.Frame.{Frame}
use Rattle.cmh_model3.specs.declared.frame.Frame.TheVariants.{Request, Reply as Reply_frame, Withdraw as Withdraw_frame, Probe}
use Rattle.cmh_model3.specs.declared.frame.Message.{Message}
use Rattle.cmh_model3.specs.declared.event.Event.{Event}
use Rattle.cmh_model3.specs.declared.event.Event.TheVariants.{Ask, Reply, Withdraw, Got, Turn}
use Rattle.cmh_model3.specs.Entries.{Entry}
use Rattle.cmh_model3.specs.State.{passes, State}
use Rattle.cmh_model3.specs.Paths.{ReachesLocally}
use Rattle.cmh_model3.specs.Rules.{clock_after, after, Sends, requests, withdraws, AreProbes, DeclaresOrProbes, probe_acts}
use Rattle.cmh_model3.specs.Journals.{state_after, frames_to}
use Rattle.cmh_model3.proofs.Sent.{IsProbe, each_probe}

-- an event does not lower the clock
pub clock_grows : (c : ℕ) (ev : Event) → c ≤ clock_after c ev
clock_grows c (Ask j ks) = omega arith
clock_grows c (Reply k j) = omega arith
clock_grows c (Withdraw j ks) = omega arith
clock_grows c (Turn d) = omega arith
clock_grows c (Got a d f) = omega arith

-- the clock of the site that got a message is at least the message's
pub got_clock : (c a d : ℕ) (f : Frame) → d ≤ clock_after c (Got a d f)
got_clock c a d f = omega arith

pub clock_of-after : (home : ℕ → ℕ) (s : ℕ) (v : State) (ev : Event) (d : Option ℕ) → (after home s v ev d).clock ≡ clock_after v.clock ev
clock_of-after home s v ev d = refl

-- clocks only rise
pub clocks_rise_from : (home : ℕ → ℕ) (s : ℕ) (v : State) (es : List Entry) → v.clock ≤ (state_after home s v es).clock
clocks_rise_from home s v [] = omega arith
clocks_rise_from home s v (e ∷ es) =
    let one = clock_grows v.clock e.event in
    let more = clocks_rise_from home s (after home s v e.event e.declared) es in
    omega (arith, one, more)

pub clocks_rise : (home : ℕ → ℕ) (s : ℕ) (v : State) (es more : List Entry) → (state_after home s v es).clock ≤ (state_after home s v (es ++ more)).clock
clocks_rise home s v [] more = clocks_rise_from home s v more
clocks_rise home s v (e ∷ es) more = clocks_rise home s (after home s v e.event e.declared) es more

-- all of these carry clock c
abbrev pub Carry : ℕ → List (ℕ × Message) → Type 0
Carry c sent = AllByRecursion (λ (m : ℕ × Message). m.1.clock ≡ c) sent

carry_append : (c : ℕ) (xs ys : List (ℕ × Message)) → Carry c xs → Carry c ys → Carry c (xs ++ ys)
carry_append c [] ys h g = g
carry_append c (x ∷ xs) ys h g = (h.0, carry_append c xs ys h.1 g)

requests_carry : (home : ℕ → ℕ) (s c j : ℕ) (ks : List ℕ) → Carry c (requests home s c j ks)
requests_carry home s c j [] = tt
requests_carry home s c j (k ∷ ks) = elim (cases_Bool (home k == s)) [
  | inl h ↦ subst (λ z. Carry c (if z then requests home s c j ks else (home k, record { clock = c; frame = Request j k }) ∷ requests home s c j ks)) (sym h) (requests_carry home s c j ks)
  | inr h ↦ subst (λ z. Carry c (if z then requests home s c j ks else (home k, record { clock = c; frame = Request j k }) ∷ requests home s c j ks)) (sym h) (refl, requests_carry home s c j ks)
]

withdraws_carry : (home : ℕ → ℕ) (s c j : ℕ) (ks : List ℕ) → Carry c (withdraws home s c j ks)
withdraws_carry home s c j [] = tt
withdraws_carry home s c j (k ∷ ks) = elim (cases_Bool (home k == s)) [
  | inl h ↦ subst (λ z. Carry c (if z then withdraws home s c j ks else (home k, record { clock = c; frame = Withdraw_frame j k }) ∷ withdraws home s c j ks)) (sym h) (withdraws_carry home s c j ks)
  | inr h ↦ subst (λ z. Carry c (if z then withdraws home s c j ks else (home k, record { clock = c; frame = Withdraw_frame j k }) ∷ withdraws home s c j ks)) (sym h) (refl, withdraws_carry home s c j ks)
]

none_carry : (c : ℕ) (xs : List (ℕ × Message)) → xs ≡ [] → Carry c xs
none_carry c xs h = subst (Carry c) (sym h) tt

one_carries : (c b : ℕ) (z : Bool) (f : Frame) → Carry c (if z then (b, record { clock = c; frame = f }) ∷ [] else [])
one_carries c b true f = (refl, tt)
one_carries c b false f = tt

none_or_one_carries : (c b : ℕ) (z : Bool) (f : Frame) → Carry c (if z then [] else (b, record { clock = c; frame = f }) ∷ [])
none_or_one_carries c b true f = tt
none_or_one_carries c b false f = (refl, tt)

probes_carry : (home : ℕ → ℕ) (s : ℕ) (v : State) (c i n p : ℕ) (sent : List (ℕ × Message)) → AreProbes home s v c i n p sent → Carry c sent
probes_carry home s v c i n p sent h = go sent (each_probe home s v c i n p sent h).each
  where
    go : (xs : List (ℕ × Message)) → AllByRecursion (IsProbe home s v c i n p) xs → Carry c xs
    go [] g = tt
    go (x ∷ xs) g = (ap (λ (m : Message). m.clock) g.0.6, go xs g.1)

outcome_carries : (home : ℕ → ℕ) (D : Type 0) (s : ℕ) (v : State) (c i n p : ℕ) (sent : List (ℕ × Message)) (d : Option ℕ) → DeclaresOrProbes home D s v c i n p sent d → Carry c sent
outcome_carries home D s v c i n p sent d (inl h) = none_carry c sent h.1
outcome_carries home D s v c i n p sent d (inr h) = probes_carry home s v c i n p sent h.1

-- every message sent carries the clock after the event
pub sent_carries : (home : ℕ → ℕ) (s : ℕ) (v : State) (ev : Event) (sent : List (ℕ × Message)) (d : Option ℕ) → Sends home s v ev sent d → Carry (clock_after v.clock ev) sent
sent_carries home s v (Ask j ks) sent d h =
    subst (Carry (v.clock + 1)) (sym h.1) (carry_append (v.clock + 1) (requests home s (v.clock + 1) j ks) h.0 (requests_carry home s (v.clock + 1) j ks)
    (outcome_carries home _ s _ (v.clock + 1) j (v.clock + 1) j h.0 d h.2))
sent_carries home s v (Reply k j) sent d h = subst (Carry v.clock) (sym h.0) (none_or_one_carries v.clock (home j) (home j == s) (Reply_frame k j))
sent_carries home s v (Withdraw j ks) sent d h = subst (Carry v.clock) (sym h.0) (withdraws_carry home s v.clock j ks)
sent_carries home s v (Turn q1) sent d h = none_carry _ sent h.0
sent_carries home s v (Got a c (Request j k)) sent d h = none_carry _ sent h.0
sent_carries home s v (Got a c (Reply_frame k j)) sent d h = none_carry _ sent h.0
sent_carries home s v (Got a c (Withdraw_frame j k)) sent d h = subst (Carry (max v.clock c)) (sym h.0) (one_carries (max v.clock c) a (v.owed k j) (Reply_frame k j))
sent_carries home s v (Got a c (Probe i n j k)) sent d h = go (probe_acts v i n j k) h
  where
    go : (z : Bool) → MatchBool z (DeclaresOrProbes home (ReachesLocally home s v n i k i × (passes v n i i ≡ true)) s v (max v.clock c) i n k sent d) ((sent ≡ []) × (d ≡ None)) → Carry (max v.clock c) sent
    go true g = outcome_carries home _ s v (max v.clock c) i n k sent d g
    go false g = none_carry _ sent g.0

-- of the messages of an entry to a site too
pub messages_carry : (c b : ℕ) (sent : List (ℕ × Message)) → Carry c sent → AllByRecursion (λ (m : Message). m.clock ≡ c) (frames_to b sent)
messages_carry c b [] h = tt
messages_carry c b (x ∷ xs) h = elim (cases_Bool (x.0 == b)) [
  | inl g ↦ subst (λ z. AllByRecursion (λ (m : Message). m.clock ≡ c) (if z then x.1 ∷ frames_to b xs else frames_to b xs)) (sym g) (h.0, messages_carry c b xs h.1)
  | inr g ↦ subst (λ z. AllByRecursion (λ (m : Message). m.clock ≡ c) (if z then x.1 ∷ frames_to b xs else frames_to b xs)) (sym g) (messages_carry c b xs h.1)
]

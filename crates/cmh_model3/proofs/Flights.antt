-- What is under way, in one list.
use Rattle.std.proofs.Common.{◌≡◌, ◌≢◌, ℕ, ◌+◌, Bool, true, false, ◌&&◌, List, [], ◌∷◌, ◌++◌, ◌==◌, if◌then◌else◌, refl, sym, ap, ◌∙◌, subst, inl, inr, true≢false, append-nil, append_assoc, arith}
use Rattle.std.proofs.lemmas.Bool.{cases_Bool, eqb-true, eq-eqb, ne_eqb, and_parts}
use Rattle.std.specs.List.{AllByRecursion}
use Rattle.cmh_model3.specs.declared.frame.Frame.{Frame}
use Rattle.cmh_model3.specs.declared.frame.Frame.TheVariants.{Request, Reply as Reply_frame, Withdraw as Withdraw_frame, Probe}
use Rattle.cmh_model3.specs.declared.frame.Message.{Message}
use Rattle.cmh_model3.specs.declared.event.Event.{Event}
use Rattle.cmh_model3.specs.declared.event.Event.TheVariants.{Ask, Reply, Withdraw, Got, Turn}
use Rattle.cmh_model3.specs.Entries.{WorldEvent}
use Rattle.cmh_model3.specs.State.{State}
use Rattle.cmh_model3.specs.Rules.{Accepts}
use Rattle.cmh_model3.specs.Journals.{frames_to, message_from}
use Rattle.cmh_model3.specs.Runs.{IsRun}
use Rattle.cmh_model3.specs.Rest.{Flying, on_link, AreUnderWay, total, ask_of, asks_of}
use Rattle.cmh_model3.proofs.World.{World, Step, sent_on, got_on}
use Rattle.cmh_model3.proofs.Pairs.{In}
use Rattle.cmh_model3.proofs.Moves.{if_same}
use Rattle.cmh_model3.proofs.Runs.{world_of, one_step}
use Rattle.cmh_model3.proofs.Senders.{in_front, in_back}

abbrev pub sent_by : ℕ → List (ℕ × Message) → List Flying
sent_by s [] = []
sent_by s (x ∷ xs) = record { from = s; to = x.0; message = x.1 } ∷ sent_by s xs

on_append : (a b : ℕ) (xs ys : List Flying) → on_link a b (xs ++ ys) ≡ on_link a b xs ++ on_link a b ys
on_append a b [] ys = refl
on_append a b (x ∷ xs) ys = go ((x.from == a) && (x.to == b)) (on_append a b xs ys)
  where
    go : (z : Bool) → on_link a b (xs ++ ys) ≡ on_link a b xs ++ on_link a b ys
        → (if z then x.message ∷ on_link a b (xs ++ ys) else on_link a b (xs ++ ys)) ≡ (if z then x.message ∷ on_link a b xs else on_link a b xs) ++ on_link a b ys
    go true h = ap (λ l. x.message ∷ l) h
    go false h = h

on_own : (a b s : ℕ) (xs : List (ℕ × Message)) → (s == a) ≡ true → on_link a b (sent_by s xs) ≡ frames_to b xs
on_own a b s [] h = refl
on_own a b s (x ∷ xs) h =
    let r = on_own a b s xs h in
    ap (λ z. if z && (x.0 == b) then x.1 ∷ on_link a b (sent_by s xs) else on_link a b (sent_by s xs)) h
    ∙ ap (λ l. if x.0 == b then x.1 ∷ l else l) r

on_other : (a b s : ℕ) (xs : List (ℕ × Message)) → (s == a) ≡ false → on_link a b (sent_by s xs) ≡ []
on_other a b s [] h = refl
on_other a b s (x ∷ xs) h = ap (λ z. if z && (x.0 == b) then x.1 ∷ on_link a b (sent_by s xs) else on_link a b (sent_by s xs)) h ∙ on_other a b s xs h

on_sent : (a b : ℕ) (e : WorldEvent) → on_link a b (sent_by e.site e.entry.sent) ≡ sent_on a b e
on_sent a b e = elim (cases_Bool (e.site == a)) [
  | inl y ↦ on_own a b e.site e.entry.sent y ∙ sym (ap (λ z. if z then frames_to b e.entry.sent else []) y)
  | inr n ↦ on_other a b e.site e.entry.sent n ∙ sym (ap (λ z. if z then frames_to b e.entry.sent else []) n)
]

pub total-append : (g : Frame → ℕ) (xs ys : List Flying) → total g (xs ++ ys) ≡ total g xs + total g ys
total-append g [] ys = omega arith
total-append g (x ∷ xs) ys = let r = total-append g xs ys in omega (arith, r)

-- the asks of its probes are among these
abbrev pub Numbered : List (ℕ × ℕ) → Frame → Type 0
Numbered ds f = (x : ℕ × ℕ) → In x (ask_of f) → In x ds

abbrev pub AllNumbered : List (ℕ × ℕ) → List Flying → Type 0
AllNumbered ds xs = AllByRecursion (λ (x : Flying). Numbered ds x.message.frame) xs

pub all_numbered : (ds : List (ℕ × ℕ)) (xs : List Flying) → ((x : ℕ × ℕ) → In x (asks_of xs) → In x ds) → AllNumbered ds xs
all_numbered ds [] f = tt
all_numbered ds (x ∷ xs) f = (
  (λ y h. f y (in_front y (ask_of x.message.frame) (asks_of xs) h)),
  all_numbered ds xs (λ y h. f y (in_back y (ask_of x.message.frame) (asks_of xs) h)),
)

pub numbered_append : (ds : List (ℕ × ℕ)) (xs ys : List Flying) → AllNumbered ds xs → AllNumbered ds ys → AllNumbered ds (xs ++ ys)
numbered_append ds [] ys h g = g
numbered_append ds (x ∷ xs) ys h g = (h.0, numbered_append ds xs ys h.1 g)

-- the first message of a link taken away
abbrev Taken : ℕ → ℕ → List Flying → Message → List Message → Type 0
Taken a b xs m q =
    (ys : List Flying) × (on_link a b ys ≡ q) × ((x y : ℕ) → ((a == x) && (b == y)) ≡ false → on_link x y ys ≡ on_link x y xs)
    × ((g : Frame → ℕ) → total g xs ≡ g m.frame + total g ys) × ((ds : List (ℕ × ℕ)) → AllNumbered ds xs → AllNumbered ds ys × Numbered ds m.frame)

take : (a b : ℕ) (xs : List Flying) (m : Message) (q : List Message) → on_link a b xs ≡ m ∷ q → Taken a b xs m q
take a b [] m q h = absurd (cc h)
take a b (x ∷ xs) m q h = go (take a b xs m q) ((x.from == a) && (x.to == b)) refl h
  where
    go : (on_link a b xs ≡ m ∷ q → Taken a b xs m q) → (z : Bool) → ((x.from == a) && (x.to == b)) ≡ z → (if z then x.message ∷ on_link a b xs else on_link a b xs) ≡ m ∷ q → Taken a b (x ∷ xs) m q
    go f true e h =
        let same : x.message ≡ m = cc h in
        let tail : on_link a b xs ≡ q = cc h in
        let at = and_parts (x.from == a) (x.to == b) e in
        let at_a = eqb-true x.from a at.0 in
        let at_b = eqb-true x.to b at.1 in (
          xs,
          tail,
          (λ c d other. sym (ap (λ z. if z then x.message ∷ on_link c d xs else on_link c d xs) (ap (λ t. (t == c) && (x.to == d)) at_a ∙ ap (λ t. (a == c) && (t == d)) at_b ∙ other))),
          (λ g. ap (λ (z : Message). g z.frame + total g xs) same),
          (λ ds all. (all.1, subst (λ (z : Message). Numbered ds z.frame) same all.0)),
        )
    go f false e h =
        let r = f h in (
          x ∷ r.0,
          ap (λ z. if z then x.message ∷ on_link a b r.0 else on_link a b r.0) e ∙ r.1,
          (λ c d other. ap (λ l. if (x.from == c) && (x.to == d) then x.message ∷ l else l) (r.2 c d other)),
          (λ g. let w = r.3 g in omega (arith, w)),
          (λ ds all. let more = r.4 ds all.1 in ((all.0, more.0), more.1)),
        )

-- who gets a message is elsewhere
got_apart : (home : ℕ → ℕ) (s : ℕ) (v : State) (a c : ℕ) (f : Frame) → Accepts home s v (Got a c f) → a ≢ s
got_apart home s v a c (Request j k) acc = acc.0
got_apart home s v a c (Reply_frame j k) acc = acc.0
got_apart home s v a c (Withdraw_frame j k) acc = acc.0
got_apart home s v a c (Probe i n j k) acc = acc.0

abbrev pub Lists : World → List Flying → Type 0
Lists w xs = (a b : ℕ) → on_link a b xs ≡ w.queue a b

module _ (home : ℕ → ℕ) (w : World) (e : WorldEvent) (n : World) (st : Step home w e n) (xs : List Flying) (flat : Lists w xs) where
  -- an event that gets nothing
  pub own_flat : ((a : ℕ) → message_from a e.entry.event ≡ []) → Lists n (xs ++ sent_by e.site e.entry.sent)
  own_flat none a b =
      on_append a b xs (sent_by e.site e.entry.sent) ∙ ap (λ l. l ++ on_link a b (sent_by e.site e.entry.sent)) (flat a b) ∙ ap (λ l. w.queue a b ++ l) (on_sent a b e)
      ∙ st.links a b ∙ ap (λ l. (if e.site == b then l else []) ++ n.queue a b) (none a) ∙ ap (λ l. l ++ n.queue a b) (if_same (e.site == b) [])

  pub got_flat : (a c : ℕ) (f : Frame) → e.entry.event ≡ Got a c f
      → (ys : List Flying) × Lists n (ys ++ sent_by e.site e.entry.sent) × ((g : Frame → ℕ) → total g xs ≡ g f + total g ys) × ((ds : List (ℕ × ℕ)) → AllNumbered ds xs → AllNumbered ds ys × Numbered ds f)
  got_flat a c f ev =
      let msg : Message = record { clock = c; frame = f } in
      let apart = got_apart home e.site (w.value e.site) a c f (subst (Accepts home e.site (w.value e.site)) ev st.accepted) in
      let got : got_on a e.site e ≡ msg ∷ [] = ap (λ z. if z then message_from a e.entry.event else []) (eq-eqb e.site e.site refl) ∙ ap (message_from a) ev ∙ ap (λ z. if z then msg ∷ [] else []) (eq-eqb a a refl) in
      let none : sent_on a e.site e ≡ [] = ap (λ z. if z then frames_to e.site e.entry.sent else []) (ne_eqb e.site a (λ g. apart (sym g))) in
      let queue : w.queue a e.site ≡ msg ∷ n.queue a e.site = sym (append-nil (w.queue a e.site)) ∙ ap (λ l. w.queue a e.site ++ l) (sym none) ∙ st.links a e.site ∙ ap (λ l. l ++ n.queue a e.site) got in
      let r = take a e.site xs msg (n.queue a e.site) (flat a e.site ∙ queue) in (
        r.0,
        (λ x y. on_append x y r.0 (sent_by e.site e.entry.sent) ∙ ap (λ l. on_link x y r.0 ++ l) (on_sent x y e) ∙ elim (cases_Bool ((a == x) && (e.site == y))) [
          | inl here ↦
              let at = and_parts (a == x) (e.site == y) here in
              let is_a = eqb-true a x at.0 in
              let is_s = eqb-true e.site y at.1 in
              ap (λ l. l ++ sent_on x y e) (ap (λ t. on_link t y r.0) (sym is_a) ∙ ap (λ t. on_link a t r.0) (sym is_s) ∙ r.1)
              ∙ ap (λ l. n.queue a e.site ++ l) (ap (λ t. sent_on t y e) (sym is_a) ∙ ap (λ t. sent_on a t e) (sym is_s) ∙ none)
              ∙ append-nil (n.queue a e.site) ∙ ap (λ t. n.queue t e.site) is_a ∙ ap (n.queue x) is_s
          | inr other ↦ ap (λ l. l ++ sent_on x y e) (r.2 x y other ∙ flat x y) ∙ st.links x y ∙ ap (λ l. l ++ n.queue x y) (nothing x y other)
        ]),
        r.3,
        r.4,
      )
    where
      nothing : (x y : ℕ) → ((a == x) && (e.site == y)) ≡ false → got_on x y e ≡ []
      nothing x y other = ap (λ l. if e.site == y then l else []) (ap (message_from x) ev) ∙ go (record { clock = c; frame = f }) (a == x) (e.site == y) other
        where
          go : (m : Message) (p q : Bool) → (p && q) ≡ false → (if q then (if p then m ∷ [] else []) else []) ≡ []
          go m true true h = absurd (true≢false h)
          go m true false h = refl
          go m false true h = refl
          go m false false h = refl

  any_flat : (ev : Event) → e.entry.event ≡ ev → (ys : List Flying) × Lists n ys
  any_flat (Ask j ks) ev = (xs ++ sent_by e.site e.entry.sent, own_flat (λ a. ap (message_from a) ev))
  any_flat (Reply k j) ev = (xs ++ sent_by e.site e.entry.sent, own_flat (λ a. ap (message_from a) ev))
  any_flat (Withdraw j ks) ev = (xs ++ sent_by e.site e.entry.sent, own_flat (λ a. ap (message_from a) ev))
  any_flat (Got a c f) ev = let r = got_flat a c f ev in (r.0 ++ sent_by e.site e.entry.sent, r.1)
  any_flat (Turn c) ev = (xs ++ sent_by e.site e.entry.sent, own_flat (λ a. ap (message_from a) ev))

flights_on : (home : ℕ → ℕ) (before rest : List WorldEvent) → IsRun home (before ++ rest) → (xs : List Flying) → AreUnderWay before xs → (ys : List Flying) × AreUnderWay (before ++ rest) ys
flights_on home before [] run xs flat = (xs, (λ a b. subst (λ l. on_link a b xs ≡ (world_of home l).queue a b) (sym (append-nil before)) (flat a b)))
flights_on home before (e ∷ rest) run xs flat =
    let same = append_assoc before (e ∷ []) rest in
    let now = any_flat home (world_of home before) e (world_of home (before ++ e ∷ [])) (one_step home before e rest run) xs flat e.entry.event refl in
    let r = flights_on home (before ++ e ∷ []) rest (subst (IsRun home) (sym same) run) now.0 now.1 in
    (r.0, (λ a b. subst (λ l. on_link a b r.0 ≡ (world_of home l).queue a b) same (r.1 a b)))

pub flights : (home : ℕ → ℕ) (events : List WorldEvent) → IsRun home events → (xs : List Flying) × AreUnderWay events xs
flights home events run = flights_on home [] events run [] (λ a b. refl)

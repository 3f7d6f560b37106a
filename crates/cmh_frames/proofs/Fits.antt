-- A frame goes between the homes of the processes that it names.
use Rattle.std.proofs.Common.{◌≡◌, ◌≢◌, ℕ, zero, suc, Bool, true, false, List, [], ◌∷◌, map, drop, if◌then◌else◌, refl, sym, ap, ◌∙◌, subst, inl, inr, true≢false, Option, Some, IsSome}
use Rattle.std.specs.List.{AllByRecursion}
use Rattle.std.proofs.lemmas.Bool.{cases_eq}
use Rattle.cmh_frames.specs.declared.frame.Frame.{Frame}
use Rattle.cmh_frames.specs.declared.frame.Frame.TheVariants.{Request, Reply as Reply_frame, Probe}
use Rattle.cmh_frames.specs.declared.event.Event.{Event}
use Rattle.cmh_frames.specs.declared.event.Event.TheVariants.{Ask, Reply, Start, Got}
use Rattle.cmh_frames.specs.Entries.{Entry, WorldEvent}
use Rattle.cmh_frames.specs.Topology.{Topology, home, At, is_at, site_of}
use Rattle.cmh_frames.specs.Relation.{Relation}
use Rattle.cmh_frames.specs.State.{State}
use Rattle.cmh_frames.specs.Rules.{Accepts, Sends, after, IsEdgeFrom, requests, replies}
use Rattle.cmh_frames.specs.Journals.{frames_to, sendings_of, LawfulFrom}
use Rattle.cmh_frames.specs.Runs.{IsRun, under_way, entries_of}
use Rattle.cmh_frames.proofs.Each.{all_append}
use Rattle.cmh_frames.proofs.Edges.{each_edge, reach_ends}
use Rattle.cmh_frames.proofs.Effects.{some_home}
use Rattle.cmh_frames.proofs.Places.{is_at-yes, site_of-at}
use Rattle.cmh_frames.proofs.Sent.{shape, answers_of, IsOrigin, to_yes, to_no}

-- the frame goes from a, the home of who sends it, to b, the home of whom it is for, and its origin is known
abbrev pub FrameFits : Topology → ℕ → ℕ → Frame → Type 0
FrameFits t a b (Request (asker, holder)) = (a ≢ b) × At t asker a × At t holder b
FrameFits t a b (Reply_frame (holder, asker)) = (a ≢ b) × At t holder a × At t asker b
FrameFits t a b (Probe (origin, from, to)) = (a ≢ b) × At t from a × At t to b × IsSome (home t origin)

-- so does each of what s sends
abbrev SentFits : Topology → ℕ → List (ℕ × Frame) → Type 0
SentFits t s sent = AllByRecursion (λ (x : ℕ × Frame). FrameFits t s x.0 x.1) sent

all_drop : {X : Type 0} (P : X → Type 0) (n : ℕ) (xs : List X) → AllByRecursion P xs → AllByRecursion P (drop n xs)
all_drop P zero xs a = a
all_drop P (suc n) [] a = a
all_drop P (suc n) (x ∷ xs) a = all_drop P n xs a.1

module _ (t : Topology) (s : ℕ) where
  -- a known process that is not here has another home
  elsewhere : (k : ℕ) → IsSome (home t k) → is_at t k s ≡ false → (s ≢ site_of t k) × At t k (site_of t k)
  elsewhere k known far =
      let b = some_home (home t k) known in
      let site = site_of-at t k b.0 b.1 in
      ((λ e. true≢false (sym (is_at-yes t k s (b.1 ∙ ap Some (sym site ∙ sym e))) ∙ far)), subst (At t k) (sym site) b.1)

  known_here : (p : ℕ) → At t p s → IsSome (home t p)
  known_here p h = subst IsSome (sym h) refl

  requests_fit : (asker : ℕ) (targets : List ℕ) → At t asker s → AllByRecursion (λ k. IsSome (home t k) × (k ≢ asker)) targets → SentFits t s (requests t s asker targets)
  requests_fit asker [] here known = tt
  requests_fit asker (k ∷ ks) here known = go (is_at t k s) refl (requests_fit asker ks here known.1)
    where
      go : (b : Bool) → is_at t k s ≡ b → SentFits t s (requests t s asker ks) → SentFits t s (if b then requests t s asker ks else (site_of t k, Request (asker, k)) ∷ requests t s asker ks)
      go true is more = more
      go false is more = let away = elsewhere k known.0.0 is in ((away.0, here, away.1), more)

  replies_fit : (holder asker : ℕ) → At t holder s → IsSome (home t asker) → SentFits t s (replies t s holder asker)
  replies_fit holder asker here known = go (is_at t asker s) refl
    where
      go : (b : Bool) → is_at t asker s ≡ b → SentFits t s (if b then [] else (site_of t asker, Reply_frame (holder, asker)) ∷ [])
      go true is = tt
      go false is = let away = elsewhere asker known is in ((away.0, here, away.1), tt)

  answers_fit : (v : State) (ev : Event) → Accepts t s v ev → SentFits t s (answers_of t s ev)
  answers_fit v (Ask asker targets) acc = requests_fit asker targets acc.0 acc.2.known
  answers_fit v (Reply holder asker) acc = replies_fit holder asker acc.0 acc.3
  answers_fit v (Start i) acc = tt
  answers_fit v (Got a f) acc = tt

  probes_fit : (waits : Relation) (origin from : ℕ) (edges : List (ℕ × ℕ)) → IsSome (home t origin) → AllByRecursion (IsEdgeFrom t s waits from) edges
      → SentFits t s (map (λ (edge : ℕ × ℕ). (site_of t edge.1, Probe (origin, edge.0, edge.1))) edges)
  probes_fit waits origin from [] known each = tt
  probes_fit waits origin from (x ∷ xs) known each =
      let site = site_of-at t x.1 each.0.2.0 each.0.2.1 in (
        (
          (λ e. each.0.2.2 (sym site ∙ sym e)),
          reach_ends t s waits from each.0.0.1.0 x.0 each.0.0.0 each.0.0.1.1,
          subst (At t x.1) (sym site) each.0.2.1,
          known,
        ),
        probes_fit waits origin from xs known each.1,
      )

  -- the origin of probes is known
  origin_known : (v : State) (ev : Event) (i p : ℕ) → Accepts t s v ev → IsOrigin v ev i p → IsSome (home t i)
  origin_known v (Ask asker targets) i p acc o = subst (λ z. IsSome (home t z)) (sym o.0) (known_here asker acc.0)
  origin_known v (Reply holder asker) i p acc o = absurd o
  origin_known v (Start x) i p acc o = subst (λ z. IsSome (home t z)) (sym o.0) (known_here x acc.0)
  origin_known v (Got a (Request (x, y))) i p acc o = absurd o
  origin_known v (Got a (Reply_frame (x, y))) i p acc o = absurd o
  origin_known v (Got a (Probe (x, f, to))) i p acc o = subst (λ z. IsSome (home t z)) (sym o.0) acc.3

  -- what an accepted event sends fits
  sent_fits : (v : State) (ev : Event) (sent : List (ℕ × Frame)) (d : Option ℕ) → Accepts t s v ev → Sends t s v ev sent d → SentFits t s sent
  sent_fits v ev sent d acc sends =
      let x = shape t s v ev sent d sends in
      let probes : SentFits t s x.probes = elim x.from [
        | inl none ↦ subst (SentFits t s) (sym none) tt
        | inr y ↦ subst (SentFits t s) (sym y.3.are) (probes_fit (after t s v ev d).waits y.0 y.1 y.3.edges (origin_known v ev y.0 y.1 acc y.2) (each_edge t s (after t s v ev d).waits y.0 y.1 x.probes y.3))
      ] in
      subst (SentFits t s) (sym x.is) (all_append _ (answers_of t s ev) x.probes (answers_fit v ev acc) probes)

  -- of what is sent, the frames to b
  to_fit : (b : ℕ) (sent : List (ℕ × Frame)) → SentFits t s sent → AllByRecursion (FrameFits t s b) (frames_to b sent)
  to_fit b [] fit = tt
  to_fit b (x ∷ xs) fit = elim (cases_eq x.0 b) [
    | inl e ↦ subst (AllByRecursion (FrameFits t s b)) (sym (to_yes b x.0 x.1 xs e)) (subst (λ z. FrameFits t s z x.1) e fit.0, to_fit b xs fit.1)
    | inr n ↦ subst (AllByRecursion (FrameFits t s b)) (sym (to_no b x.0 x.1 xs n)) (to_fit b xs fit.1)
  ]

  sendings_fit : (b : ℕ) (v : State) (es : List Entry) → LawfulFrom t s v es → AllByRecursion (FrameFits t s b) (sendings_of b es)
  sendings_fit b v [] lawful = tt
  sendings_fit b v (e ∷ es) lawful =
      all_append (FrameFits t s b) (frames_to b e.sent) (sendings_of b es) (to_fit b e.sent (sent_fits v e.event e.sent e.declared lawful.0 lawful.1))
      (sendings_fit b (after t s v e.event e.declared) es lawful.2)

-- each frame that is under way in a run fits
pub under_way_fits : (t : Topology) (events : List WorldEvent) → IsRun t events → (a b : ℕ) → AllByRecursion (FrameFits t a b) (under_way a b events)
under_way_fits t events run a b = all_drop (FrameFits t a b) _ (sendings_of b (entries_of a events)) (sendings_fit t a b _ (entries_of a events) (run.lawful a))

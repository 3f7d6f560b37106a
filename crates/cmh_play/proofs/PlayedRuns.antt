-- What is done to a world that is played makes its run longer.
use Rattle.std.proofs.Common.{◌≡◌, ℕ, Bool, true, false, true≢false, ◌&&◌, ◌==◌, if◌then◌else◌, List, [], ◌∷◌, ◌++◌, Option, None, Some, refl, sym, ap, subst, ◌∙◌, inl, inr, append-nil, append_assoc}
use Rattle.std.specs.Prelude.{MatchOption, ⊤}
use Rattle.std.proofs.lemmas.Bool.{cases_eq, eq-eqb, ne_eqb, eqb-true}
use Rattle.cmh_frames.specs.declared.frame.Frame.{Frame}
use Rattle.cmh_frames.specs.declared.event.Event.{Event}
use Rattle.cmh_frames.specs.declared.event.Event.TheVariants.{Ask, Reply, Start, Got}
use Rattle.cmh_frames.specs.Entries.{WorldEvent}
use Rattle.cmh_frames.specs.Journals.{value, frames_to, frame_from}
use Rattle.cmh_frames.specs.Rules.{Accepts, Sends}
use Rattle.cmh_frames.specs.Runs.{IsRun, IsBeginningOf, entries_of, under_way}
use Rattle.cmh_frames.specs.Settling.{is_delivery}
use Rattle.cmh_frames.proofs.Choices.{if_same}
use Rattle.cmh_frames.proofs.LongerRuns.{run_first, run_longer}
use Rattle.cmh_world.proofs.Delivered.{first_accepted}
use Rattle.cmh_world.proofs.RunsSoFar.{one_step}
use Rattle.cmh_controller.specs.Refusals.{Holds as IsHeld}
use Rattle.cmh_controller.specs.declared.refusal.Refusal.{Refusal}
use Rattle.cmh_controller.specs.declared.refusal.Refusal.TheVariants.{UnknownProcess, NotHere, BadTargets, Blocked, NotBlocked, NotOwed, AlreadyDeclared, Unlawful, Memory}
use Rattle.cmh_audit.specs.Verdicts.{IsAccepted, IsVerdictOn}
use Rattle.cmh_audit.specs.declared.verdict.Verdict.{Verdict}
use Rattle.cmh_audit.proofs.RunLemmas.{entries_of_same, entries_of_other}
use Rattle.cmh_frames.specs.declared.done.Done.{Done}
use Rattle.cmh_play.specs.declared.site.Refused.TheVariants.{Rule}
use Rattle.cmh_play.specs.Links.{with_all}
use Rattle.cmh_play.specs.World.{World, IsLink, IsReason, Steps, entries_at, with_link}
use Rattle.cmh_play.specs.Runs.{IsRunOf, IsPlayed}

-- the frames of a link, where it is not cut
abbrev Carries : Option (List Frame) → List Frame → Type 0
Carries link frames = MatchOption link ⊤ (λ held. frames ≡ held)

-- the same where these were got before
abbrev Leaves : Option (List Frame) → List Frame → List Frame → Type 0
Leaves link got frames = MatchOption link ⊤ (λ held. frames ≡ got ++ held)

-- ---- frames that are sent and got

-- an event that is no delivery gets nothing
got_none : (c : ℕ) (event : Event) → is_delivery event ≡ false → frame_from c event ≡ []
got_none c (Ask asker targets) off = refl
got_none c (Reply holder asker) off = refl
got_none c (Start i) off = refl
got_none c (Got from frame) off = absurd (true≢false off)

same_behind : (front xs ys : List Frame) → front ++ xs ≡ front ++ ys → xs ≡ ys
same_behind [] xs ys is = is
same_behind (frame ∷ front) xs ys is =
    let whole : frame ∷ (front ++ xs) ≡ frame ∷ (front ++ ys) = is in
    let rest : front ++ xs ≡ front ++ ys = cc whole in
    same_behind front xs ys rest

-- a link grows by what is sent on it
sent_more : (link : Option (List Frame)) (got old new sent : List Frame) (here : Bool) → Leaves link got old → old ++ (if here then sent else []) ≡ got ++ new → Carries (if here then with_all link sent else link) new
sent_more None got old new sent true holds is = tt
sent_more None got old new sent false holds is = tt
sent_more (Some frames) got old new sent true holds is = same_behind got new (frames ++ sent) (sym is ∙ ap (λ z. z ++ sent) holds ∙ append_assoc got frames sent)
sent_more (Some frames) got old new sent false holds is = same_behind got new frames (sym is ∙ append-nil old ∙ holds)

-- ---- the run

-- a world in which nothing has happened
pub nothing_played : (world : World) → ((s : ℕ) → entries_at world s ≡ []) → ((a b : ℕ) → world.links a b ≡ Some []) → IsPlayed world
nothing_played world journals links = (
  [],
  record {
    run = run_first world.topology;
    comes = λ s. sym (journals s);
    links = λ a b. subst (λ link. Carries link []) (sym (links a b)) refl;
  },
)

-- A site takes an event. Its links are those that the world has once the site has got what the event gives it.
module _ (old new : World) (events : List WorldEvent) (of : IsRunOf old events) (s : ℕ) (event : Event) (done : Done) (links : ℕ → ℕ → Option (List Frame))
    (steps : Steps (record old { links = links }) new s event done) (next : (a : ℕ) → IsBeginningOf (frame_from a event) (under_way a s events))
    (leaves : (c d : ℕ) → Leaves (links c d) (if s == d then frame_from c event else []) (under_way c d events)) where
  abbrev entry : WorldEvent
  entry = record { site = s; entry = record { event = event; sent = steps.sent; declared = done.declared } }

  longer : IsRun old.topology (events ++ entry ∷ [])
  longer = run_longer old.topology events entry of.run
      (subst (λ es. Accepts old.topology s (value old.topology s es) event) (sym (of.comes s)) steps.accepted)
      (subst (λ es. Sends old.topology s (value old.topology s es) event steps.sent done.declared) (sym (of.comes s)) steps.sends)
      next

  comes : (q : ℕ) → entries_of q (events ++ entry ∷ []) ≡ entries_at new q
  comes q = elim (cases_eq s q) [
    | inl here ↦ subst (λ z. entries_of z (events ++ entry ∷ []) ≡ entries_at new z) here
        (entries_of_same s events entry refl ∙ ap (λ es. es ++ entry.entry ∷ []) (of.comes s) ∙ sym steps.grows)
    | inr far ↦ entries_of_other q events entry far ∙ of.comes q ∙ sym (steps.others q (λ e. far (sym e)))
  ]

  -- on each link: what was under way and what is sent is what is got and what is under way then
  each_link : (c d : ℕ) → under_way c d events ++ (if s == c then frames_to d steps.sent else []) ≡ (if s == d then frame_from c event else []) ++ under_way c d (events ++ entry ∷ [])
  each_link c d = (one_step old.topology events entry [] longer).links c d

  grown : IsPlayed new
  grown = (
    events ++ entry ∷ [],
    record {
      run = subst (λ t. IsRun t (events ++ entry ∷ [])) (sym steps.topology) longer;
      comes = comes;
      links = λ c d. subst (λ link. Carries link (under_way c d (events ++ entry ∷ []))) (sym (steps.links c d))
          (sent_more (links c d) (if s == d then frame_from c event else []) (under_way c d events) (under_way c d (events ++ entry ∷ [])) (frames_to d steps.sent) (s == c) (leaves c d) (each_link c d));
    },
  )

-- a step that is no delivery
pub stepped : (old new : World) (s : ℕ) (event : Event) (done : Done) → is_delivery event ≡ false → Steps old new s event done → IsPlayed old → IsPlayed new
stepped old new s event done off step (events, of) =
    grown old new events of s event done old.links step
    (λ a. (under_way a s events, ap (λ z. z ++ under_way a s events) (got_none a event off)))
    (λ c d. subst (λ got. Leaves (old.links c d) got (under_way c d events)) (sym (ap (λ z. if s == d then z else []) (got_none c event off) ∙ if_same (s == d) [])) (of.links c d))

-- a frame that is handed over is the first under way
first_under_way : (old : World) (a b : ℕ) (frame : Frame) (frames : List Frame) (events : List WorldEvent) → IsLink old a b (Some (frame ∷ frames)) → IsRunOf old events → under_way a b events ≡ frame ∷ frames
first_under_way old a b frame frames events link of = subst (λ held. Carries held (under_way a b events)) link.1 (of.links a b)

-- the oldest frame of a link is handed over
pub handed_over : (old new : World) (a b : ℕ) (frame : Frame) (frames : List Frame) (done : Done) → IsLink old a b (Some (frame ∷ frames)) → Steps (with_link old a b (Some frames)) new b (Got a frame) done → IsPlayed old → IsPlayed new
handed_over old new a b frame frames done link step (events, of) =
    grown old new events of b (Got a frame) done (with_link old a b (Some frames)).links step next (λ c d. leaves c d (a == c) (b == d) (eqb-true a c) (eqb-true b d))
  where
    front : under_way a b events ≡ frame ∷ frames
    front = first_under_way old a b frame frames events link of

    next : (c : ℕ) → IsBeginningOf (frame_from c (Got a frame)) (under_way c b events)
    next c = elim (cases_eq a c) [
      | inl same ↦ (frames, ap (λ z. (if z then frame ∷ [] else []) ++ frames) (eq-eqb a c same) ∙ sym front ∙ ap (λ z. under_way z b events) same)
      | inr other ↦ (under_way c b events, ap (λ z. (if z then frame ∷ [] else []) ++ under_way c b events) (ne_eqb a c other))
    ]

    leaves : (c d : ℕ) (x y : Bool) → (x ≡ true → a ≡ c) → (y ≡ true → b ≡ d) → Leaves (if x && y then Some frames else old.links c d) (if y then (if x then frame ∷ [] else []) else []) (under_way c d events)
    leaves c d true true at_c at_d = sym (λ i. under_way (at_c refl i) (at_d refl i) events) ∙ front
    leaves c d true false at_c at_d = of.links c d
    leaves c d false true at_c at_d = of.links c d
    leaves c d false false at_c at_d = of.links c d

-- a link is cut
pub cut_off : (old : World) (a b : ℕ) → IsPlayed old → IsPlayed (with_link old a b None)
cut_off old a b (events, of) = (
  events,
  record {
    run = of.run;
    comes = of.comes;
    links = λ c d. kept c d ((a == c) && (b == d));
  },
)
  where
    kept : (c d : ℕ) (cut : Bool) → Carries (if cut then None else old.links c d) (under_way c d events)
    kept c d true = tt
    kept c d false = of.links c d

-- ---- what is answered

-- no frame is refused for what it says
pub refused_for_memory : (old : World) (a b : ℕ) (frame : Frame) (frames : List Frame) (refusal : Refusal) → IsLink old a b (Some (frame ∷ frames)) → IsReason old b (Got a frame) (Rule refusal) → IsPlayed old → refusal ≡ Memory
refused_for_memory old a b frame frames refusal link is (events, of) = go refusal is.1.holds
  where
    accepted : Accepts old.topology b (value old.topology b (entries_at old b)) (Got a frame)
    accepted =
        subst (λ es. Accepts old.topology b (value old.topology b es) (Got a frame)) (of.comes b)
        (first_accepted old.topology events of.run a b frame frames (first_under_way old a b frame frames events link of))

    go : (refusal : Refusal) → IsHeld old.topology b (value old.topology b (entries_at old b)) (Got a frame) refusal → refusal ≡ Memory
    go UnknownProcess h = absurd h
    go NotHere h = absurd h
    go BadTargets h = absurd h
    go Blocked h = absurd h
    go NotBlocked h = absurd h
    go NotOwed h = absurd h
    go AlreadyDeclared h = absurd h
    go Unlawful h = absurd (h accepted)
    go Memory h = refl

-- and the journals are accepted
pub accepted_report : (world : World) (verdict : Verdict) → IsVerdictOn world.topology world.journals verdict → IsPlayed world → IsAccepted verdict
accepted_report world verdict v (events, of) = v.accepted.1 (events, of.run, of.comes)

-- One step more of a world that is played.
use Rattle.std.proofs.Common.{◌≡◌, ℕ, zero, suc, ◌<◌, ◌==◌, List, [], ◌∷◌, ◌++◌, length, map, get_or, drop, if◌then◌else◌, Some, refl, sym, ap, subst, ◌∙◌, arith}
use Rattle.std.proofs.Math.ListN.{set}
use Rattle.std.proofs.Math.Seq.{drop-append_seam}
use Rattle.std.specs.List.{AllByRecursion}
use Rattle.std.specs.List.Sorted.{IsStrictlyIncreasing}
use Rattle.cmh_controller3.specs.Controller as control
use Rattle.cmh_controller3.specs.Steps.{Steps, process_in}
use Rattle.cmh_controller3.specs.declared.outcome.Declaration.{Declaration}
use Rattle.cmh_controller3.specs.declared.outcome.Outcome.{Outcome}
use Rattle.cmh_controller3.specs.declared.refusal.Refusal.{Refusal}
use Rattle.cmh_controller3.specs.Refusals.{Refuses}
use Rattle.cmh_frames.proofs.Ascending.{head_below}
use Rattle.cmh_frames.proofs.Members.{increasing_tail}
use Rattle.cmh_model3.specs.declared.event.Event.{Event}
use Rattle.cmh_model3.specs.declared.frame.Message.{Message}
use Rattle.cmh_model3.specs.Entries.{WorldEvent}
use Rattle.cmh_model3.specs.Journals.{frames_to, message_from}
use Rattle.cmh_model3.specs.Rules.{Accepts, Sends, after}
use Rattle.cmh_model3.specs.Runs.{IsRun, state_of, under_way}
use Rattle.cmh_model3.specs.Stops.{declared_at}
use Rattle.cmh_model3.proofs.Runs.{one_step}
use Rattle.cmh_topology3.specs.Topology.{Topology, site_of}

-- where each of these controllers stands
abbrev pub Stand : (ℕ → ℕ) → List WorldEvent → List control.Controller → Type 0
Stand home events cs = AllByRecursion (λ (c : control.Controller). control.state_of c ≡ state_of home c.site events) cs

abbrev pub sites_in : List control.Controller → List ℕ
sites_in cs = map (λ (c : control.Controller). c.site) cs

-- ---- the controller at a place

pub all_at : {X : Type 0} (P : X → Type 0) (xs : List X) (k : ℕ) (x : X) → AllByRecursion P xs → k < length xs → x ≡ get_or xs k x → P x
all_at P [] k x all inside is = absurd (omega arith)
all_at P (y ∷ ys) zero x all inside is = subst P (sym is) all.0
all_at P (y ∷ ys) (suc k) x all inside is = all_at P ys k x all.1 (omega arith) is

pub site_at : (cs : List control.Controller) (k : ℕ) (c : control.Controller) → k < length cs → c ≡ get_or cs k c → get_or (sites_in cs) k 0 ≡ c.site
site_at [] k c inside is = absurd (omega arith)
site_at (y ∷ ys) zero c inside is = ap (λ (d : control.Controller). d.site) (sym is)
site_at (y ∷ ys) (suc k) c inside is = site_at ys k c (omega arith) is

pub sites_set : (cs : List control.Controller) (k : ℕ) (d : control.Controller) → k < length cs → get_or (sites_in cs) k 0 ≡ d.site → sites_in (set cs k d) ≡ sites_in cs
sites_set [] k d inside is = refl
sites_set (y ∷ ys) zero d inside is = ap (λ s. s ∷ sites_in ys) (sym is)
sites_set (y ∷ ys) (suc k) d inside is = ap (λ ss. y.site ∷ ss) (sites_set ys k d (omega arith) is)

pub all_set : {X : Type 0} (P : X → Type 0) (xs : List X) (k : ℕ) (x : X) → AllByRecursion P xs → P x → AllByRecursion P (set xs k x)
all_set P [] k x all here = tt
all_set P (y ∷ ys) zero x all here = (here, all.1)
all_set P (y ∷ ys) (suc k) x all here = (all.0, all_set P ys k x all.1 here)

-- ---- one entry more

module _ (home : ℕ → ℕ) (events : List WorldEvent) (e : WorldEvent) (longer : IsRun home (events ++ e ∷ [])) where
  -- what is under way after it: what was sent lies behind, and what was got is off
  pub links_on : (before later : ℕ → ℕ → List Message) → ((a b : ℕ) → before a b ≡ under_way a b events)
      → ((a b : ℕ) → later a b ≡ drop (length (if e.site == b then message_from a e.entry.event else []))
      (before a b ++ (if e.site == a then frames_to b e.entry.sent else [])))
      → (a b : ℕ) → later a b ≡ under_way a b (events ++ e ∷ [])
  links_on before later are taken a b =
      let got : List Message = if e.site == b then message_from a e.entry.event else [] in
      let sent : List Message = if e.site == a then frames_to b e.entry.sent else [] in
      taken a b ∙ ap (λ q. drop (length got) (q ++ sent)) (are a b) ∙ ap (drop (length got)) ((one_step home events e [] longer).links a b)
      ∙ drop-append_seam got (under_way a b (events ++ e ∷ []))

  others_on : (s : ℕ) (cs : List control.Controller) → s ≡ e.site → AllByRecursion (λ y. s < y) (sites_in cs) → Stand home events cs
      → Stand home (events ++ e ∷ []) cs
  others_on s [] is above all = tt
  others_on s (c ∷ cs) is above all = (
    all.0 ∙ sym ((one_step home events e [] longer).elsewhere c.site (λ q. let l = above.0 in absurd (omega (arith, l, q, is)))),
    others_on s cs is above.1 all.1,
  )

  pub stand_on : (cs : List control.Controller) (k : ℕ) (d : control.Controller) → IsStrictlyIncreasing (sites_in cs) → k < length cs
      → get_or (sites_in cs) k 0 ≡ e.site → d.site ≡ e.site → control.state_of d ≡ state_of home e.site (events ++ e ∷ [])
      → Stand home events cs → Stand home (events ++ e ∷ []) (set cs k d)
  stand_on [] k d up inside is at stands all = absurd (omega arith)
  stand_on (c ∷ cs) zero d up inside is at stands all =
      (stands ∙ ap (λ s. state_of home s (events ++ e ∷ [])) (sym at), others_on c.site cs is (head_below c.site (sites_in cs) up) all.1)
  stand_on (c ∷ cs) (suc k) d up inside is at stands all =
      let below = head_below c.site (sites_in cs) up in (
        all.0 ∙ sym ((one_step home events e [] longer).elsewhere c.site (λ q.
            let l = all_below c.site (sites_in cs) k below (sites_long cs k (omega arith)) in absurd (omega (arith, l, q, is)))),
        stand_on cs k d (increasing_tail c.site (sites_in cs) up) (omega arith) is at stands all.1,
      )
    where
      all_below : (x : ℕ) (xs : List ℕ) (k : ℕ) → AllByRecursion (λ y. x < y) xs → k < length xs → x < get_or xs k 0
      all_below x [] k all inside = absurd (omega arith)
      all_below x (y ∷ ys) zero all inside = all.0
      all_below x (y ∷ ys) (suc k) all inside = all_below x ys k all.1 (omega arith)

      sites_long : (ds : List control.Controller) (k : ℕ) → k < length ds → k < length (sites_in ds)
      sites_long [] k inside = absurd (omega arith)
      sites_long (y ∷ ys) zero inside = omega arith
      sites_long (y ∷ ys) (suc k) inside = let h = sites_long ys k (omega arith) in omega (arith, h)

-- ---- a step of the controller at a site

module _ (t : Topology) (events : List WorldEvent) (s : ℕ) (c d : control.Controller) (event : Event) (outcome : Outcome)
    (top : c.topology ≡ t) (at : c.site ≡ s) (stands : control.state_of c ≡ state_of (site_of t) c.site events) where
  state_here : control.state_of c ≡ state_of (site_of t) s events
  state_here = stands ∙ ap (λ q. state_of (site_of t) q events) at

  module _ (steps : Steps c event outcome d) where
    pub accepts : Accepts (site_of t) s (state_of (site_of t) s events) event
    accepts =
        subst (λ v. Accepts (site_of t) s v event) state_here
        (subst (λ q. Accepts (site_of t) q (control.state_of c) event) at
        (subst (λ (u : Topology). Accepts (site_of u) c.site (control.state_of c) event) top steps.accepted))

    pub sends : Sends (site_of t) s (state_of (site_of t) s events) event outcome.sent (process_in outcome.declared)
    sends =
        subst (λ v. Sends (site_of t) s v event outcome.sent (process_in outcome.declared)) state_here
        (subst (λ q. Sends (site_of t) q (control.state_of c) event outcome.sent (process_in outcome.declared)) at
        (subst (λ (u : Topology). Sends (site_of u) c.site (control.state_of c) event outcome.sent (process_in outcome.declared)) top steps.sends))

    pub goes_to : control.state_of d ≡ after (site_of t) s (state_of (site_of t) s events) event (process_in outcome.declared)
    goes_to =
        subst (λ v. control.state_of d ≡ after (site_of t) s v event (process_in outcome.declared)) state_here
        (subst (λ q. control.state_of d ≡ after (site_of t) q (control.state_of c) event (process_in outcome.declared)) at
        (subst (λ (u : Topology). control.state_of d ≡ after (site_of u) c.site (control.state_of c) event (process_in outcome.declared)) top steps.state))

    pub stop_is : (declaration : Declaration) → outcome.declared ≡ Some declaration → declaration.stop ≡ declared_at (state_of (site_of t) s events).clock event
    stop_is declaration is = steps.stop declaration is ∙ ap (λ v. declared_at v.clock event) state_here

-- the same of a refusal
pub refuses : (t : Topology) (events : List WorldEvent) (s : ℕ) (c : control.Controller) (event : Event) → c.topology ≡ t → c.site ≡ s
    → control.state_of c ≡ state_of (site_of t) c.site events → (reason : Refusal)
    → Refuses (control.home_of c) c.site (control.state_of c) event reason → Refuses (site_of t) s (state_of (site_of t) s events) event reason
refuses t events s c event top at stands reason h =
    subst (λ v. Refuses (site_of t) s v event reason) (stands ∙ ap (λ q. state_of (site_of t) q events) at)
    (subst (λ q. Refuses (site_of t) q (control.state_of c) event reason) at
    (subst (λ (u : Topology). Refuses (site_of u) c.site (control.state_of c) event reason) top h))

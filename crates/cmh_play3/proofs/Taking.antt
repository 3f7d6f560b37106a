-- A site takes an event: what is held is played still.
use Rattle.std.proofs.Common.{◌≡◌, ℕ, zero, suc, ◌+◌, ◌<◌, ◌==◌, Bool, true, List, [], ◌∷◌, ◌++◌, length, map, get_or, drop, if◌then◌else◌, Option, refl, sym, ap, subst, ◌∙◌, arith}
use Rattle.std.proofs.Math.ListN.{set}
use Rattle.std.proofs.Math.Path.{fun_ext}
use Rattle.std.specs.List.{list_any}
use Rattle.std.specs.List.Sorted.{IsStrictlyIncreasing}
use Rattle.cmh_controller3.specs.Controller as control
use Rattle.cmh_controller3.specs.Refusals.{Refuses}
use Rattle.cmh_controller3.specs.Steps.{Steps as Moves, process_in}
use Rattle.cmh_controller3.specs.declared.outcome.Declaration.{Declaration}
use Rattle.cmh_controller3.specs.declared.outcome.Outcome.{Outcome}
use Rattle.cmh_controller3.specs.declared.refusal.Refusal.{Refusal}
use Rattle.cmh_frames.proofs.Each.{all_append}
use Rattle.cmh_model3.specs.declared.event.Event.{Event}
use Rattle.cmh_model3.specs.declared.frame.Message.{Message}
use Rattle.cmh_model3.specs.Entries.{WorldEvent}
use Rattle.cmh_model3.specs.Journals.{frames_to, message_from}
use Rattle.cmh_model3.specs.Laws.{entry_at}
use Rattle.cmh_model3.specs.Rules.{Sends}
use Rattle.cmh_model3.specs.Runs as runs
use Rattle.cmh_model3.specs.Runs.{IsBeginningOf, IsRun, state_of}
use Rattle.cmh_model3.proofs.Extends.{accepted_extends}
use Rattle.cmh_model3.proofs.Runs.{one_step}
use Rattle.cmh_report3.specs.Kept.{without_sent}
use Rattle.cmh_report3.specs.Reports.{StandEach}
use Rattle.cmh_report3.specs.Transit.{kept, sent_in}
use Rattle.cmh_topology3.specs.Topology.{Topology, is_site, site_of, sites_of}
use Rattle.cmh_play3.specs.Held.{StandAfter}
use Rattle.cmh_play3.specs.World.{World, Steps}
use Rattle.cmh_play3.specs.declared.reply.Done.{Done}
use Rattle.cmh_play3.proofs.Stepping.{accepts, all_at, all_set, goes_to, links_on, refuses, sends, site_at, sites_in, sites_set, stand_on, stop_is}

-- worlds with the same events and cuts
pub same_world : (w v : World) → w.topology ≡ v.topology → w.events ≡ v.events → ((a b : ℕ) → w.is_cut a b ≡ v.is_cut a b) → w ≡ v
same_world w v tops events cuts =
    λ i. record { topology = tops i; events = events i; is_cut = fun_ext {f = w.is_cut} {g = v.is_cut} (λ a. fun_ext (cuts a)) i }

pub set_same : {X : Type 0} (xs : List X) (k : ℕ) (x : X) → x ≡ get_or xs k x → set xs k x ≡ xs
set_same [] k x is = refl
set_same (y ∷ ys) zero x is = ap (λ z. z ∷ ys) is
set_same (y ∷ ys) (suc k) x is = ap (λ zs. y ∷ zs) (set_same ys k x is)

-- controllers in the order of the topology are those of all sites
pub stand_each : (t : Topology) (es : List WorldEvent) (cs : List control.Controller) → StandAfter t es cs → StandEach t es cs
stand_each t es cs stand = record {
  sites = λ s. ap (list_any (λ q. q == s)) stand.sites;
  topologies = stand.topologies;
  states = stand.states;
  of_world = stand.of_world;
}

-- ---- what is kept of one entry more

bare_push : (es : List WorldEvent) (e : WorldEvent) → map without_sent (es ++ e ∷ []) ≡ map without_sent es ++ without_sent e ∷ []
bare_push [] e = refl
bare_push (d ∷ es) e = ap (λ (xs : List WorldEvent). without_sent d ∷ xs) (bare_push es e)

pub nothing_kept : (held : List WorldEvent) → held ≡ [] → map without_sent held ≡ []
nothing_kept held none = ap (λ (es : List WorldEvent). map without_sent es) none

pub kept_more : (held es : List WorldEvent) (x e : WorldEvent) → without_sent x ≡ without_sent e → map without_sent held ≡ map without_sent es
    → map without_sent (held ++ x ∷ []) ≡ map without_sent (es ++ e ∷ [])
kept_more held es x e one all =
    bare_push held x ∙ ap (λ (xs : List WorldEvent). xs ++ without_sent x ∷ []) all ∙ ap (λ (y : WorldEvent). map without_sent es ++ y ∷ []) one
    ∙ sym (bare_push es e)

sent_push : (es : List WorldEvent) (e : WorldEvent) → sent_in (es ++ e ∷ []) ≡ sent_in es + length e.entry.sent
sent_push [] e = omega arith
sent_push (d ∷ es) e = let rest = sent_push es e in omega (arith, rest)

pub sent_more : (es : List WorldEvent) (e : WorldEvent) (n : ℕ) → n ≡ kept (sent_in es) → kept (n + length e.entry.sent) ≡ kept (sent_in (es ++ e ∷ []))
sent_more es e n so_far = let push = sent_push es e in omega (arith, so_far, push)

-- ---- a controller at its place

long : (cs : List control.Controller) → length (sites_in cs) ≡ length cs
long [] = refl
long (c ∷ cs) = let rest = long cs in omega (arith, rest)

module _ (t : Topology) (cs : List control.Controller) (es : List WorldEvent) (run : IsRun (site_of t) es) (stand : StandAfter t es cs)
    (s k : ℕ) (within : k < length (sites_of t)) (at : get_or (sites_of t) k 0 ≡ s) (c : control.Controller) (here : c ≡ get_or cs k c) where
  inside : k < length cs
  inside = let sites = ap length stand.sites in let same = long cs in omega (arith, within, sites, same)

  pub place_site : get_or (sites_in cs) k 0 ≡ s
  place_site = ap (λ ss. get_or ss k 0) stand.sites ∙ at

  pub c_site : c.site ≡ s
  c_site = sym (site_at cs k c inside here) ∙ place_site

  pub c_top : c.topology ≡ t
  c_top = all_at (λ (d : control.Controller). d.topology ≡ t) cs k c stand.topologies inside here

  pub c_state : control.state_of c ≡ state_of (site_of t) c.site es
  c_state = all_at (λ (d : control.Controller). control.state_of d ≡ state_of (site_of t) d.site es) cs k c stand.states inside here

  abbrev world_with : List WorldEvent → (ℕ → ℕ → Bool) → World
  world_with events cut = record { topology = t; events = events; is_cut = cut }

  -- it refuses the event
  pub refuses_it : (event : Event) (reason : Refusal) → Refuses (control.home_of c) c.site (control.state_of c) event reason
      → Refuses (site_of t) s (state_of (site_of t) s es) event reason
  refuses_it event reason h = refuses t es s c event c_top c_site c_state reason h

  module _ (d : control.Controller) (event : Event) (outcome : Outcome) (steps : Moves c event outcome d) (known : is_site t s ≡ true)
      (up : IsStrictlyIncreasing (sites_of t)) (next : (a : ℕ) → IsBeginningOf (message_from a event) (runs.under_way a s es)) where
    abbrev entry : WorldEvent
    entry = entry_at s event outcome.sent (process_in outcome.declared)

    pub longer : IsRun (site_of t) (es ++ entry ∷ [])
    longer = accepted_extends (site_of t) es entry run (accepts t es s c d event outcome c_top c_site c_state steps)
        (sends t es s c d event outcome c_top c_site c_state steps) next

    state_now : control.state_of d ≡ state_of (site_of t) s (es ++ entry ∷ [])
    state_now = goes_to t es s c d event outcome c_top c_site c_state steps ∙ sym ((one_step (site_of t) es entry [] longer).here)

    pub stand_now : StandAfter t (es ++ entry ∷ []) (set cs k d)
    stand_now = record {
      sites = sites_set cs k d inside (place_site ∙ sym c_site ∙ sym steps.site) ∙ stand.sites;
      topologies = all_set (λ (x : control.Controller). x.topology ≡ t) cs k d stand.topologies (steps.topology ∙ c_top);
      states = stand_on (site_of t) es entry longer cs k d (subst IsStrictlyIncreasing (sym stand.sites) up) inside place_site (steps.site ∙ c_site) state_now stand.states;
      of_world = all_append (λ (e : WorldEvent). is_site t e.site ≡ true) es (entry ∷ []) stand.of_world (known, tt);
    }

    pub links_now : (before later : ℕ → ℕ → List Message) → ((a b : ℕ) → before a b ≡ runs.under_way a b es)
        → ((a b : ℕ) → later a b ≡ drop (length (if s == b then message_from a event else [])) (before a b ++ (if s == a then frames_to b outcome.sent else [])))
        → (a b : ℕ) → later a b ≡ runs.under_way a b (es ++ entry ∷ [])
    links_now before later are taken = links_on (site_of t) es entry longer before later are taken

    pub steps_now : (cut : ℕ → ℕ → Bool) (new : World) (done : Done) → done.sent ≡ length outcome.sent → done.declared ≡ outcome.declared
        → new.topology ≡ t → new.events ≡ es ++ entry ∷ [] → ((a b : ℕ) → new.is_cut a b ≡ cut a b)
        → Steps (record { topology = t; events = es; is_cut = cut }) new s event done
    steps_now cut new done counted same tops events cuts =
        subst (λ (w : World). Steps (record { topology = t; events = es; is_cut = cut }) w s event done)
        (sym (same_world new (record { topology = t; events = es ++ entry ∷ []; is_cut = cut }) tops events cuts)) (record {
          sent = outcome.sent;
          accepted = accepts t es s c d event outcome c_top c_site c_state steps;
          sends = subst (λ (o : Option Declaration). Sends (site_of t) s (state_of (site_of t) s es) event outcome.sent (process_in o)) (sym same)
              (sends t es s c d event outcome c_top c_site c_state steps);
          counted = counted;
          stop = λ declaration h. stop_is t es s c d event outcome c_top c_site c_state steps declaration (sym same ∙ h);
          grows = ap (λ (o : Option Declaration). world_with (es ++ entry_at s event outcome.sent (process_in o) ∷ []) cut) (sym same);
        })

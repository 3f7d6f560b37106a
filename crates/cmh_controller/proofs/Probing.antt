-- The probes of a verdict are those of the rules.
use Rattle.std.proofs.Common.{inl, inr, if◌then◌else◌, suc, ◌≡◌, ℕ, ◌<◌, true, false, true≢false, List, [], ◌∷◌, ◌++◌, map, length, Contains, Option, None, Some, IsSome, refl, sym, ap, ◌∙◌, subst, arith}
use Rattle.std.specs.FinSet as set
use Rattle.std.specs.List.{AllByRecursion}
use Rattle.std.proofs.lemmas.List.{append-nil}
use Rattle.cmh_frames.proofs.Choices.{match_true, match_false}
use Rattle.cmh_frames.specs.declared.frame.Frame.{Frame}
use Rattle.cmh_frames.specs.declared.frame.Frame.TheVariants.{Probe}
use Rattle.cmh_frames.specs.Edition.{starts_at_ask}
use Rattle.cmh_frames.specs.Topology.{Topology, home, site_of}
use Rattle.cmh_frames.specs.Relation.{Relation, Numbers, with_each}
use Rattle.cmh_frames.specs.Paths.{WaitsAmong, WaitsLocally, ReachesLocally, DependsOnItself as DependsLocally}
use Rattle.cmh_frames.specs.declared.event.Event.TheVariants.{Ask, Got}
use Rattle.cmh_frames.specs.Rules.{AreProbes, IsEdgeFrom, Sends, requests}
use Rattle.cmh_frames.proofs.Effects.{some_home}
use Rattle.cmh_frames.proofs.PathLemmas.{path_map}
use Rattle.cmh_waits.specs.Held.{Held, IsMember}
use Rattle.cmh_rules.specs.Verdicts.{Reaches, DependsOnItself, LeavesFrom, AreProbesFrom, acts}
use Rattle.cmh_controller.specs.Controller.{IsOfSite, state_of}
use Rattle.cmh_controller.specs.Destinations.{addressed, receiver_of}
use Rattle.cmh_controller.specs.Beginnings.{Begins}
use Rattle.cmh_controller.proofs.OfSite.{member_here, here_member, elsewhere}

module _ (t : Topology) (s : ℕ) (held : Held) (site : IsOfSite t s held) where
  waits_here : (x y : ℕ) → WaitsAmong (λ r. IsMember held r) held.waits x y → WaitsLocally t s held.waits x y
  waits_here x y w = (here_member t s held x site w.0, here_member t s held y site w.1, w.2)

  here_waits : (x y : ℕ) → WaitsLocally t s held.waits x y → WaitsAmong (λ r. IsMember held r) held.waits x y
  here_waits x y w = (member_here t s held x site w.0, member_here t s held y site w.1, w.2)

  -- to reach among the members is to reach locally
  pub reaches_locally : (p q : ℕ) → Reaches held p q → ReachesLocally t s held.waits p q
  reaches_locally p q r = (here_member t s held p site r.0, (r.1.0, path_map (WaitsAmong (λ r. IsMember held r) held.waits) (WaitsLocally t s held.waits) waits_here p r.1.0 q r.1.1))

  pub locally_reaches : (p q : ℕ) → ReachesLocally t s held.waits p q → Reaches held p q
  locally_reaches p q r = (member_here t s held p site r.0, (r.1.0, path_map (WaitsLocally t s held.waits) (WaitsAmong (λ r. IsMember held r) held.waits) here_waits p r.1.0 q r.1.1))

  pub depends_locally : (p : ℕ) → DependsOnItself held p → DependsLocally t s held.waits p
  depends_locally p d = (d.0, waits_here p d.0 d.1, reaches_locally d.0 p d.2)

  pub locally_depends : (p : ℕ) → DependsLocally t s held.waits p → DependsOnItself held p
  locally_depends p d = (d.0, here_waits p d.0 d.1, locally_reaches d.0 p d.2)

  leaves : (from : ℕ) (edge : ℕ × ℕ) → LeavesFrom held from edge → IsEdgeFrom t s held.waits from edge
  leaves from edge l =
      let place = some_home (home t edge.1) (site.known edge.0 edge.1 l.1) in
      (reaches_locally from edge.0 l.0, l.1, (place.0, place.1, λ same. true≢false (sym (member_here t s held edge.1 site (place.1 ∙ ap Some same)) ∙ l.2)))

  is_left : (from : ℕ) (edge : ℕ × ℕ) → IsEdgeFrom t s held.waits from edge → LeavesFrom held from edge
  is_left from edge l = (locally_reaches from edge.0 l.0, l.1, elsewhere t s l.2.0 held edge.1 site l.2.1 l.2.2)

  sent_along : (origin : ℕ) (edges : List (ℕ × ℕ)) → map (addressed t) (map (λ (edge : ℕ × ℕ). Probe (origin, edge.0, edge.1)) edges) ≡ map (λ (edge : ℕ × ℕ). (site_of t edge.1, Probe (origin, edge.0, edge.1))) edges
  sent_along origin [] = refl
  sent_along origin (edge ∷ edges) = ap (λ fs. (site_of t edge.1, Probe (origin, edge.0, edge.1)) ∷ fs) (sent_along origin edges)

  -- with the sites to which they go they are the probes of the rules
  pub probes_sent : (origin from : ℕ) (frames : List Frame) → AreProbesFrom held origin from frames → AreProbes t s held.waits origin from (map (addressed t) frames)
  probes_sent origin from frames p = record {
    edges = p.edges;
    ascending = p.ascending;
    all = λ edge. (λ c. leaves from edge ((p.all edge).0 c), λ l. (p.all edge).1 (is_left from edge l));
    are = ap (map (addressed t)) p.are ∙ sent_along origin p.edges;
  }

  each_known : (origin : ℕ) (edges : List (ℕ × ℕ)) → ((edge : ℕ × ℕ) → Contains edges edge → IsSome (home t edge.1)) → AllByRecursion (λ frame. IsSome (home t (receiver_of frame))) (map (λ (edge : ℕ × ℕ). Probe (origin, edge.0, edge.1)) edges)
  each_known origin [] known = tt
  each_known origin (edge ∷ edges) known = (known edge (0, omega arith, refl), each_known origin edges (λ e c. known e (suc c.0, (let h : c.0 < length edges = c.1 in omega arith), c.2)))

  -- each goes to a known process
  pub receivers_known : (origin from : ℕ) (frames : List Frame) → AreProbesFrom held origin from frames → AllByRecursion (λ frame. IsSome (home t (receiver_of frame))) frames
  receivers_known origin from frames p =
      subst (AllByRecursion (λ (frame : Frame). IsSome (home t (receiver_of frame)))) (sym p.are)
      (each_known origin p.edges (λ edge c. let l = (p.all edge).0 c in site.known edge.0 edge.1 l.1))

  pub begins_declared : (known : Numbers) (process : ℕ) (sent : List (ℕ × Frame)) (found : Option ℕ) → DependsOnItself held process → (found ≡ if set.contains known process then None else Some process) → Begins t s held.waits known process sent sent found
  begins_declared known process sent found d is = record {
    probes = [];
    sent = sym (append-nil sent);
    starts = inl (depends_locally process d, refl, is);
  }

  pub begins_probes : (known : Numbers) (process : ℕ) (frames : List Frame) (before afterwards : List (ℕ × Frame)) → (DependsOnItself held process → ⊥) → AreProbesFrom held process process frames → afterwards ≡ before ++ map (addressed t) frames → Begins t s held.waits known process before afterwards None
  begins_probes known process frames before afterwards none p is = record {
    probes = map (addressed t) frames;
    sent = is;
    starts = inr ((λ d. none (locally_depends process d)), probes_sent process process frames p, refl);
  }

  -- ---- the receipt of a probe that acts

  pub receipt_declared : (deps : Relation) (known : Numbers) (a origin from to : ℕ) (sent : List (ℕ × Frame)) (declared : Option ℕ)
      → acts held deps origin from to ≡ true → Reaches held to origin → sent ≡ [] → (declared ≡ if set.contains known origin then None else Some origin)
      → Sends t s (state_of held deps known) (Got a (Probe (origin, from, to))) sent declared
  receipt_declared deps known a origin from to sent declared act r none is =
      match_true _ _ _ act
      (inl (reaches_locally to origin r, none, is))

  pub receipt_forward : (deps : Relation) (known : Numbers) (a origin from to : ℕ) (frames : List Frame) (sent : List (ℕ × Frame))
      → acts held deps origin from to ≡ true → (Reaches held to origin → ⊥) → AreProbesFrom held origin to frames → sent ≡ map (addressed t) frames
      → Sends t s (state_of held deps known) (Got a (Probe (origin, from, to))) sent None
  receipt_forward deps known a origin from to frames sent act none p is =
      match_true _ _ _ act
      (inr ((λ r. none (locally_reaches to origin r)), subst (λ fs. AreProbes t s held.waits origin to fs) (sym is) (probes_sent origin to frames p), refl))

  -- ---- the outcome of an ask

  -- where it starts a computation
  pub ask_begins : (left : Held) (deps : Relation) (known : Numbers) (asker : ℕ) (targets : List ℕ) (sent : List (ℕ × Frame)) (found : Option ℕ)
      → starts_at_ask t.edition ≡ true → left.waits ≡ with_each held.waits asker targets → Begins t s left.waits known asker (requests t s asker targets) sent found
      → Sends t s (state_of held deps known) (Ask asker targets) sent found
  ask_begins left deps known asker targets sent found starts is begins =
      match_true _ _ _ starts
      (let b = subst (λ w. Begins t s w known asker (requests t s asker targets) sent found) is begins in (b.probes, b.sent, b.starts))

  -- where it does not
  pub ask_alone : (deps : Relation) (known : Numbers) (asker : ℕ) (targets : List ℕ) (sent : List (ℕ × Frame)) (found : Option ℕ)
      → starts_at_ask t.edition ≡ false → sent ≡ requests t s asker targets → found ≡ None
      → Sends t s (state_of held deps known) (Ask asker targets) sent found
  ask_alone deps known asker targets sent found alone is none = match_false _ _ _ alone (is, none)

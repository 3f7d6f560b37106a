-- What an event leaves of marks and declarations.
use Rattle.std.proofs.Common.{◌≡◌, ◌⊎◌, ◌<◌, ℕ, suc, zero, Bool, true, false, not, ◌&&◌, ◌||◌, List, [], ◌∷◌, ◌++◌, map, Contains, get_or, length, ◌==◌, if◌then◌else◌, refl, sym, ap, ◌∙◌, subst, inl, inr, true≢false, Option, None, Some, arith}
use Rattle.std.specs.List.{list_any}
use Rattle.std.specs.Cmp.{nat_cmp_total, unsigned_tied}
use Rattle.std.specs.FinSet as set
use Rattle.std.proofs.lemmas.Bool.{eqb-true, eq-eqb, ne_eqb, and_parts, and_from, or_cases, cases_eq, cases_Bool, MatchBool-at_true}
use Rattle.cmh_frames.proofs.Choices.{if_same, not_ended}
use Rattle.cmh_frames.specs.declared.frame.Frame.{Frame}
use Rattle.cmh_frames.specs.declared.frame.Frame.TheVariants.{Request, Reply as Reply_frame, Probe}
use Rattle.cmh_frames.specs.declared.event.Event.{Event}
use Rattle.cmh_frames.specs.declared.event.Event.TheVariants.{Ask, Reply, Start, Got}
use Rattle.cmh_frames.specs.Edition.{starts_at_ask}
use Rattle.cmh_frames.specs.Topology.{Topology, is_at}
use Rattle.cmh_frames.specs.Relation.{Relation, Numbers, has, has_some, with_pair, without_pair, only_firsts}
use Rattle.cmh_frames.specs.State.{State, is_blocked}
use Rattle.cmh_frames.specs.Rules.{Accepts, Sends, Starts, after, declared_after, probe_acts}
use Rattle.cmh_frames.proofs.Words.{newly}
use Rattle.cmh_frames.specs.Journals.{frame_from}
use Rattle.cmh_frames.specs.Waits.{asks_for}
use Rattle.cmh_frames.proofs.Pairs.{has-only, has-with_same, has-with_kept}
use Rattle.cmh_frames.proofs.Places.{if-dependents}
use Rattle.cmh_frames.proofs.Moves.{reply_waits}
use Rattle.cmh_frames.proofs.Sent.{answers_of}

-- a dependent of a process that is blocked afterwards is not forgotten
kept_mark : (r waits waits' : Relation) (k i : ℕ) → has r k i ≡ true → has_some waits' k ≡ true → has (only_firsts r (λ p. not (has_some waits p && not (has_some waits' p)))) k i ≡ true
kept_mark r waits waits' k i h b = has-only r (λ p. not (has_some waits p && not (has_some waits' p))) k i ∙ and_from (has r k i) (not (has_some waits k && not (has_some waits' k))) h (not_ended (has_some waits k) (has_some waits' k) b)

-- a dependent stays where its process stays blocked
pub dependents_stay : (t : Topology) (s : ℕ) (v : State) (ev : Event) (d : Option ℕ) (k i : ℕ) → has v.dependents k i ≡ true → is_blocked (after t s v ev d) k ≡ true → has (after t s v ev d).dependents k i ≡ true
dependents_stay t s v (Ask asker targets) d k i h b = h
dependents_stay t s v (Reply holder asker) d k i h b = elim (cases_Bool (is_at t asker s)) [
  | inl z ↦
      ap (λ r. has r k i) (if-dependents (is_at t asker s) _ _ ∙ ap (λ c. if c then only_firsts v.dependents (λ p. not (has_some v.waits p && not (has_some (without_pair v.waits asker holder) p))) else v.dependents) z)
      ∙ kept_mark v.dependents v.waits (without_pair v.waits asker holder) k i h (sym (ap (λ r. has_some r k) (reply_waits t s v holder asker d ∙ ap (λ c. if c then without_pair v.waits asker holder else v.waits) z)) ∙ b)
  | inr z ↦ ap (λ r. has r k i) (if-dependents (is_at t asker s) _ _ ∙ ap (λ c. if c then only_firsts v.dependents (λ p. not (has_some v.waits p && not (has_some (without_pair v.waits asker holder) p))) else v.dependents) z) ∙ h
]
dependents_stay t s v (Start p) d k i h b = h
dependents_stay t s v (Got a (Request (x, y))) d k i h b = h
dependents_stay t s v (Got a (Reply_frame (holder, asker))) d k i h b = kept_mark v.dependents v.waits (without_pair v.waits asker holder) k i h b
dependents_stay t s v (Got a (Probe (o, f, to))) d k i h b = elim (cases_Bool (probe_acts v o f to)) [
  | inl z ↦ ap (λ r. has r k i) (if-dependents (probe_acts v o f to) _ _ ∙ ap (λ c. if c then with_pair v.dependents to o else v.dependents) z) ∙ has-with_kept v.dependents to o k i h
  | inr z ↦ ap (λ r. has r k i) (if-dependents (probe_acts v o f to) _ _ ∙ ap (λ c. if c then with_pair v.dependents to o else v.dependents) z) ∙ h
]

-- a probe that comes to a blocked process that owes its sender leaves its mark
pub probe_marks : (t : Topology) (s : ℕ) (v : State) (a i f k : ℕ) (d : Option ℕ) → is_blocked v k ≡ true → has v.owed k f ≡ true → has (after t s v (Got a (Probe (i, f, k))) d).dependents k i ≡ true
probe_marks t s v a i f k d b o = elim (cases_Bool (has v.dependents k i)) [
  | inl old ↦ elim (cases_Bool (probe_acts v i f k)) [
    | inl z ↦ ap (λ r. has r k i) (if-dependents (probe_acts v i f k) _ _ ∙ ap (λ c. if c then with_pair v.dependents k i else v.dependents) z) ∙ has-with_same v.dependents k i
    | inr z ↦ ap (λ r. has r k i) (if-dependents (probe_acts v i f k) _ _ ∙ ap (λ c. if c then with_pair v.dependents k i else v.dependents) z) ∙ old
  ]
  | inr new ↦
      let acts : probe_acts v i f k ≡ true = and_from (is_blocked v k) (not (has v.dependents k i) && has v.owed k f) b (and_from (not (has v.dependents k i)) (has v.owed k f) (ap not new) o) in
      ap (λ r. has r k i) (if-dependents (probe_acts v i f k) _ _ ∙ ap (λ c. if c then with_pair v.dependents k i else v.dependents) acts) ∙ has-with_same v.dependents k i
]

-- ---- declarations

-- who is declared with one more was so before, or is that one
in_declared : (known : Numbers) (d : Option ℕ) (i : ℕ) → set.contains (declared_after known d) i ≡ true → (set.contains known i ≡ true) ⊎ (d ≡ Some i)
in_declared known None i h = inl h
in_declared known (Some x) i h = elim (or_cases (i == x) (set.contains known i) (sym (set.contains-insert nat_cmp_total known x i ∙ ap (λ z. z || set.contains known i) (unsigned_tied i x)) ∙ h)) [
  | inl e ↦ inr (ap Some (sym (eqb-true i x e)))
  | inr e ↦ inl e
]

-- the declared processes of either of two states
pub if-declared : (c : Bool) (x y : State) → (if c then x else y).declared ≡ (if c then x.declared else y.declared)
if-declared true x y = refl
if-declared false x y = refl

-- who is declared was declared before or by this event
pub declared_means : (t : Topology) (s : ℕ) (v : State) (ev : Event) (d : Option ℕ) (i : ℕ) → set.contains (after t s v ev d).declared i ≡ true → (set.contains v.declared i ≡ true) ⊎ (d ≡ Some i)
declared_means t s v (Ask asker targets) d i h = in_declared v.declared d i h
declared_means t s v (Reply holder asker) d i h = inl (sym (ap (λ r. set.contains r i) (if-declared (is_at t asker s) _ _ ∙ if_same (is_at t asker s) v.declared)) ∙ h)
declared_means t s v (Start p) d i h = in_declared v.declared d i h
declared_means t s v (Got a (Request (x, y))) d i h = inl h
declared_means t s v (Got a (Reply_frame (x, y))) d i h = inl h
declared_means t s v (Got a (Probe (o, f, to))) d i h = elim (cases_Bool (probe_acts v o f to)) [
  | inl z ↦ in_declared v.declared d i (sym (ap (λ r. set.contains r i) (if-declared (probe_acts v o f to) _ _ ∙ ap (λ c. if c then declared_after v.declared d else v.declared) z)) ∙ h)
  | inr z ↦ inl (sym (ap (λ r. set.contains r i) (if-declared (probe_acts v o f to) _ _ ∙ ap (λ c. if c then declared_after v.declared d else v.declared) z)) ∙ h)
]

-- a declaration that is new, or was made before
pub newly_means : (v : State) (p : ℕ) (d : Option ℕ) → d ≡ newly v p → (set.contains v.declared p ≡ true) ⊎ (d ≡ Some p)
newly_means v p d e = elim (cases_Bool (set.contains v.declared p)) [
  | inl c ↦ inl c
  | inr c ↦ inr (e ∙ ap (λ z. if z then None else Some p) c)
]

-- ---- the computation that an ask starts

-- what the ask of u starts in edition 2
pub record StartsOne (t : Topology) (s : ℕ) (v : State) (ev : Event) (sent : List (ℕ × Frame)) (d : Option ℕ) (u : ℕ) : Type 0 where
  -- the asker was active
  pub active : is_blocked v u ≡ false
  -- its answers go out, and then what the start sends
  pub probes : List (ℕ × Frame)
  pub are : sent ≡ answers_of t s ev ++ probes
  pub start : Starts t s (after t s v ev None) u probes d
  -- the ask without its declaration has the same waits and declares nobody, and dependents stay
  pub waits : (after t s v ev None).waits ≡ (after t s v ev d).waits
  pub declared : (after t s v ev None).declared ≡ v.declared
  pub dependents : (after t s v ev d).dependents ≡ v.dependents

-- an accepted ask starts it
pub ask_starts : (t : Topology) (s : ℕ) (v : State) (ev : Event) (sent : List (ℕ × Frame)) (d : Option ℕ) (u k : ℕ) → (starts_at_ask t.edition) ≡ true → Accepts t s v ev → Sends t s v ev sent d → asks_for u k ev ≡ true → StartsOne t s v ev sent d u
ask_starts t s v (Ask asker targets) sent d u k two acc sends q =
    let same : asker ≡ u = eqb-true asker u (and_parts (asker == u) (list_any (λ z. z == k) targets) q).0 in
    let x = MatchBool-at_true _ _ two sends in
    record {
      active = ap (is_blocked v) (sym same) ∙ acc.1;
      probes = x.0;
      are = x.1;
      start = subst (λ z. Starts t s (after t s v (Ask asker targets) None) z x.0 d) same x.2;
      waits = refl;
      declared = refl;
      dependents = refl;
    }
ask_starts t s v (Reply x y) sent d u k two acc sends q = absurd (true≢false (sym q))
ask_starts t s v (Start p) sent d u k two acc sends q = absurd (true≢false (sym q))
ask_starts t s v (Got a f) sent d u k two acc sends q = absurd (true≢false (sym q))

-- ---- frames

-- an event from which a frame comes is its receipt
pub frame_from_is : (a : ℕ) (ev : Event) (g : Frame) (gs : List Frame) → frame_from a ev ≡ g ∷ gs → (ev ≡ Got a g) × (gs ≡ [])
frame_from_is a (Ask x y) g gs h = absurd (cc h)
frame_from_is a (Reply x y) g gs h = absurd (cc h)
frame_from_is a (Start x) g gs h = absurd (cc h)
frame_from_is a (Got b f) g gs h = elim (cases_eq b a) [
  | inl e ↦
      let one : f ∷ [] ≡ g ∷ gs = sym (ap (λ z. if z then f ∷ [] else []) (eq-eqb b a e)) ∙ h in
      let first : f ≡ g = cc one in
      let rest : [] ≡ gs = cc one in
      ((λ i. Got (e i) (first i)), sym rest)
  | inr n ↦ let none : [] ≡ g ∷ gs = sym (ap (λ z. if z then f ∷ [] else []) (ne_eqb b a n)) ∙ h in absurd (cc none)
]

-- a list around one of its members
pub contains_split : (xs : List (ℕ × ℕ)) (x : ℕ × ℕ) → Contains xs x → (us : List (ℕ × ℕ)) × (vs : List (ℕ × ℕ)) × (xs ≡ us ++ x ∷ vs)
contains_split xs x h = go xs h.0 h.1 h.2
  where
    go : (xs : List (ℕ × ℕ)) (k : ℕ) → k < length xs → get_or xs k x ≡ x → (us : List (ℕ × ℕ)) × (vs : List (ℕ × ℕ)) × (xs ≡ us ++ x ∷ vs)
    go [] k l e = absurd (omega arith)
    go (y ∷ ys) zero l e = ([], ys, ap (λ z. z ∷ ys) e)
    go (y ∷ ys) (suc k) l e = let r = go ys k (omega arith) e in (y ∷ r.0, r.1, ap (λ z. y ∷ z) r.2)

-- a map over a list around one member
pub map-append_one : (f : ℕ × ℕ → ℕ × Frame) (us : List (ℕ × ℕ)) (x : ℕ × ℕ) (vs : List (ℕ × ℕ)) → map f (us ++ x ∷ vs) ≡ map f us ++ f x ∷ map f vs
map-append_one f [] x vs = refl
map-append_one f (u ∷ us) x vs = ap (λ z. f u ∷ z) (map-append_one f us x vs)

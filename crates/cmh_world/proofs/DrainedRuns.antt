-- Drained runs: the process of a cycle that asked last is declared.
use Rattle.std.proofs.Common.{◌≡◌, ◌⊎◌, ℕ, true, false, List, [], ◌∷◌, ◌++◌, ◌==◌, refl, sym, ap, ◌∙◌, subst, inl, inr, length, drop, true≢false, Some, append_assoc, append-nil}
use Rattle.std.proofs.Math.Seq.{drop-length}
use Rattle.std.proofs.lemmas.Bool.{cases_eq, eq-eqb, or_left}
use Rattle.std.specs.List.{list_any}
use Rattle.std.specs.Ordering.{nat_cmp}
use Rattle.std.specs.FinSet as set
use Rattle.cmh_frames.specs.Entries.{WorldEvent}
use Rattle.cmh_frames.specs.Edition.{starts_at_ask}
use Rattle.cmh_frames.specs.Topology.{Topology}
use Rattle.cmh_frames.specs.Paths.{IsPath}
use Rattle.cmh_frames.specs.Runs.{IsRun, IsDrained, sendings, under_way, state_of}
use Rattle.cmh_frames.specs.Waits.{IsDeclared, IsCycle, Waits}
use Rattle.cmh_world.proofs.World.{Step, Invariant}
use Rattle.cmh_world.proofs.Kept.{kept}
use Rattle.cmh_frames.proofs.AfterEvents.{declared_means}
use Rattle.cmh_frames.specs.LastAsker.{AskedLast, LastAskerDeclared}
use Rattle.cmh_world.proofs.Drained.{Followed, followed_kept, followed_from, ends_where_drained, began}
use Rattle.cmh_world.proofs.LastAsker.{last_ask, waited, around, path_waited}
use Rattle.cmh_frames.proofs.PathLemmas.{LeadsTo}
use Rattle.cmh_frames.proofs.Journals.{run_front}
use Rattle.cmh_frames.specs.Waits.{asks_for}
use Rattle.cmh_world.proofs.RunsSoFar.{world_of, one_step, invariant_of_run}

-- who a site has declared is declared in the list
abbrev KnownDeclared : Topology → List WorldEvent → Type 0
KnownDeclared t events = (s i : ℕ) → set.contains (state_of t s events).declared i ≡ true → IsDeclared events i

-- who is declared by a list or by the next entry is declared by the longer list
declared-more : (events : List WorldEvent) (e : WorldEvent) (i : ℕ) → IsDeclared events i ⊎ (e.entry.declared ≡ Some i) → IsDeclared (events ++ e ∷ []) i
declared-more [] e i (inl h) = absurd h
declared-more [] e i (inr h) = inl h
declared-more (x ∷ xs) e i (inl (inl h)) = inl h
declared-more (x ∷ xs) e i (inl (inr h)) = inr (declared-more xs e i (inl h))
declared-more (x ∷ xs) e i (inr h) = inr (declared-more xs e i (inr h))

-- an entry more keeps this
known_on : (t : Topology) (before : List WorldEvent) (e : WorldEvent) → Step t (world_of t before) e (world_of t (before ++ e ∷ [])) → KnownDeclared t before → KnownDeclared t (before ++ e ∷ [])
known_on t before e st known s i h = elim (cases_eq e.site s) [
  | inl at ↦ declared-more before e i (elim (declared_means t e.site (state_of t e.site before) e.entry.event e.entry.declared i
      (ap (λ v. set.contains v.declared i) (sym st.here) ∙ subst (λ z. set.contains (state_of t z (before ++ e ∷ [])).declared i ≡ true) (sym at) h)) [
        | inl old ↦ inl (known e.site i old)
        | inr new ↦ inr new
      ])
  | inr far ↦ declared-more before e i (inl (known s i (ap (λ v. set.contains v.declared i) (sym (st.elsewhere s (λ z. far (sym z)))) ∙ h)))
]

-- a site has declared nobody whom the list does not declare
known_of_run : (t : Topology) (before rest : List WorldEvent) → IsRun t (before ++ rest) → KnownDeclared t before → KnownDeclared t (before ++ rest)
known_of_run t before [] run known = subst (KnownDeclared t) (sym (append-nil before)) known
known_of_run t before (e ∷ rest) run known =
    let same = append_assoc before (e ∷ []) rest in
    subst (KnownDeclared t) same (known_of_run t (before ++ e ∷ []) rest (subst (IsRun t) (sym same) run) (known_on t before e (one_step t before e rest run) known))

-- at first nobody is declared
known_first : (t : Topology) → KnownDeclared t []
known_first t s i h = absurd (true≢false (sym h ∙ set.contains-empty nat_cmp i))

-- the computation of i at the end of the list
abbrev FollowedIn : Topology → List WorldEvent → ℕ → ℕ → List ℕ → Type 0
FollowedIn t events i next others = Followed t (world_of t events) (IsDeclared events) i next others

-- followed after a step is followed in the longer list
followed_more : (t : Topology) (before : List WorldEvent) (e : WorldEvent) (i next : ℕ) (others : List ℕ)
    → Followed t (world_of t (before ++ e ∷ [])) (λ j. IsDeclared before j ⊎ (e.entry.declared ≡ Some j)) i next others → FollowedIn t (before ++ e ∷ []) i next others
followed_more t before e i next others (inl d) = inl (declared-more before e i d)
followed_more t before e i next others (inr f) = inr f

-- what is followed at a moment is followed at every later one
followed_on : (t : Topology) (before rest : List WorldEvent) (i next : ℕ) (others : List ℕ) → IsRun t (before ++ rest) → Invariant t (world_of t before) → KnownDeclared t before
    → FollowedIn t before i next others → FollowedIn t (before ++ rest) i next others
followed_on t before [] i next others run inv known f = subst (λ z. FollowedIn t z i next others) (sym (append-nil before)) f
followed_on t before (e ∷ rest) i next others run inv known f =
    let same = append_assoc before (e ∷ []) rest in
    let step = one_step t before e rest run in
    subst (λ z. FollowedIn t z i next others) same
    (followed_on t (before ++ e ∷ []) rest i next others (subst (IsRun t) (sym same) run) (kept t (world_of t before) e (world_of t (before ++ e ∷ [])) inv step) (known_on t before e step known)
    (followed_more t before e i next others (followed_kept t (world_of t before) e (world_of t (before ++ e ∷ [])) inv step (IsDeclared before) known i next others f)))

module _ (t : Topology) (events : List WorldEvent) (two : starts_at_ask t.edition ≡ true) (run : IsRun t events) (drained : IsDrained events) where
  -- nothing is under way
  empty : (a b : ℕ) → under_way a b events ≡ []
  empty a b = ap (λ z. drop (length z) (sendings a b events)) (drained a b) ∙ drop-length (sendings a b events)

  -- the process that asked last of a cycle
  declared_last : (first second : ℕ) (others : List ℕ) → Waits events first second → IsPath (Waits events) second others first → (d : ℕ) → AskedLast events (first ∷ second ∷ others) d → IsDeclared events d
  declared_last first second others waits path d last = elim (subst (λ z. FollowedIn t z d round.0 round.1) (sym split) end) [
    | inl is ↦ is
    | inr f ↦ absurd (ends_where_drained t (world_of t events) d d (round.0 ∷ round.1) empty f.2 f.3)
  ]
    where
      now : List WorldEvent
      now = last.before ++ last.ask ∷ []

      split : events ≡ now ++ last.later
      split = last.whole ∙ sym (append_assoc last.before (last.ask ∷ []) last.later)

      run_here : IsRun t (last.before ++ last.ask ∷ last.later)
      run_here = subst (IsRun t) last.whole run

      front : IsRun t last.before
      front = run_front t last.before (last.ask ∷ last.later) run_here

      inv : Invariant t (world_of t last.before)
      inv = invariant_of_run t last.before front

      known : KnownDeclared t last.before
      known = known_of_run t [] last.before front (known_first t)

      step : Step t (world_of t last.before) last.ask (world_of t now)
      step = one_step t last.before last.ask last.later run_here

      -- the cycle stood once d had asked
      stood : IsPath (Waits now) first (second ∷ others) first
      stood = path_waited (first ∷ second ∷ others) now last.later last.none_later first (second ∷ others) first (λ q on. on)
          (subst (λ z. IsPath (Waits z) first (second ∷ others) first) split (waits, path))

      round : LeadsTo (Waits now) d d
      round = around (Waits now) first second others d stood.0 stood.1 last.member

      asks : asks_for d round.0 last.ask.entry.event ≡ true
      asks = began t (world_of t last.before) last.ask (world_of t now) inv step (IsDeclared last.before) known d round.0 last.asks round.2

      end : FollowedIn t (now ++ last.later) d round.0 round.1
      end = followed_on t now last.later d round.0 round.1 (subst (IsRun t) split run) (kept t (world_of t last.before) last.ask (world_of t now) inv step) (known_on t last.before last.ask step known)
          (followed_more t last.before last.ask d round.0 round.1 (followed_from t (world_of t last.before) last.ask (world_of t now) inv step (IsDeclared last.before) known two d round.0 round.1 asks round.2 round.3))

  -- each cycle has a last asker, and it is declared
  pub last_asker_declared : LastAskerDeclared events
  last_asker_declared = record { some = some_last; declared = declared }
    where
      some_last : (i : ℕ) (members : List ℕ) → IsCycle events i members → (d : ℕ) × AskedLast events members d
      some_last i [] h = absurd h
      some_last i (first ∷ []) h = absurd h
      some_last i (first ∷ second ∷ others) h = elim (last_ask events (first ∷ second ∷ others)) [
        | inl one ↦ one
        | inr none ↦ absurd (true≢false (sym (waited (first ∷ second ∷ others) first second false events (or_left (first == first) (list_any (λ z. z == first) (second ∷ others)) (eq-eqb first first refl)) none h.1.0)))
      ]

      declared : (i : ℕ) (members : List ℕ) → IsCycle events i members → (d : ℕ) → AskedLast events members d → IsDeclared events d
      declared i [] h = absurd h
      declared i (first ∷ []) h = absurd h
      declared i (first ∷ second ∷ others) h = declared_last first second others h.1.0 (subst (λ z. IsPath (Waits events) second others z) (sym h.0) h.1.1)

  -- so each cycle has a declared process
  pub each_cycle_declared : (i : ℕ) (members : List ℕ) → IsCycle events i members → (d : ℕ) × (list_any (λ q. q == d) members ≡ true) × IsDeclared events d
  each_cycle_declared i members h =
      let last = last_asker_declared.some i members h in
      (last.0, last.1.member, last_asker_declared.declared i members h last.0 last.1)

-- The last ask of a member of a cycle.
use Rattle.std.proofs.Common.{◌≡◌, ◌⊎◌, ℕ, Bool, true, false, not, ◌&&◌, ◌||◌, List, [], ◌∷◌, ◌++◌, ◌==◌, refl, sym, ap, ◌∙◌, subst, inl, inr, true≢false}
use Rattle.std.specs.List.{list_any, AllByRecursion}
use Rattle.std.proofs.lemmas.Bool.{eqb-true, eq-eqb, and_parts, or_cases, cases_Bool, or_left, or_right}
use Rattle.cmh_frames.specs.declared.event.Event.{Event}
use Rattle.cmh_frames.specs.declared.event.Event.TheVariants.{Ask, Reply, Start, Got}
use Rattle.cmh_frames.specs.Entries.{WorldEvent}
use Rattle.cmh_frames.specs.Topology.{Topology, At}
use Rattle.cmh_frames.specs.State.{State, is_blocked}
use Rattle.cmh_frames.specs.Rules.{Accepts}
use Rattle.cmh_frames.specs.Paths.{IsPath}
use Rattle.cmh_frames.specs.Waits.{asks_for, grants, wait_after, Waits}
use Rattle.cmh_frames.proofs.Journals.{wait_after-append}
use Rattle.cmh_frames.proofs.PathLemmas.{LeadsTo, path_join}
use Rattle.cmh_frames.specs.LastAsker.{is_ask_of, AskedLast}

-- d is one of the members
abbrev pub On : List ℕ → ℕ → Type 0
On members d = list_any (λ q. q == d) members ≡ true

-- no entry is an ask of a member
abbrev pub NoAsk : List ℕ → List WorldEvent → Type 0
NoAsk members events = AllByRecursion (λ (e : WorldEvent). list_any (λ p. is_ask_of p e.entry.event) members ≡ false) events

-- an ask of j that names k is an ask of j
pub is_ask : (j k : ℕ) (event : Event) → asks_for j k event ≡ true → is_ask_of j event ≡ true
is_ask j k (Ask asker targets) h = (and_parts (asker == j) (list_any (λ q. q == k) targets) h).0
is_ask j k (Reply holder asker) h = absurd (true≢false (sym h))
is_ask j k (Start i) h = absurd (true≢false (sym h))
is_ask j k (Got from frame) h = absurd (true≢false (sym h))

-- who asks is at the site and active
pub asker_active : (t : Topology) (s : ℕ) (v : State) (event : Event) (j : ℕ) → Accepts t s v event → is_ask_of j event ≡ true → At t j s × (is_blocked v j ≡ false)
asker_active t s v (Ask asker targets) j accepted h = (subst (λ z. At t z s) (eqb-true asker j h) accepted.0, subst (λ z. is_blocked v z ≡ false) (eqb-true asker j h) accepted.1)
asker_active t s v (Reply holder asker) j accepted h = absurd (true≢false (sym h))
asker_active t s v (Start i) j accepted h = absurd (true≢false (sym h))
asker_active t s v (Got from frame) j accepted h = absurd (true≢false (sym h))

-- a test that one of them passes
any_from : (test : ℕ → Bool) (members : List ℕ) (d : ℕ) → On members d → test d ≡ true → list_any test members ≡ true
any_from test [] d on h = absurd (true≢false (sym on))
any_from test (x ∷ xs) d on h = elim (or_cases (x == d) (list_any (λ q. q == d) xs) on) [
  | inl e ↦ or_left (test x) (list_any test xs) (ap test (eqb-true x d e) ∙ h)
  | inr e ↦ or_right (test x) (list_any test xs) (any_from test xs d e h)
]

-- one that passes, where some member does
any_to : (test : ℕ → Bool) (members : List ℕ) → list_any test members ≡ true → (d : ℕ) × On members d × (test d ≡ true)
any_to test [] h = absurd (true≢false (sym h))
any_to test (x ∷ xs) h = elim (or_cases (test x) (list_any test xs) h) [
  | inl e ↦ (x, or_left (x == x) (list_any (λ q. q == x) xs) (eq-eqb x x refl), e)
  | inr e ↦ let one = any_to test xs e in (one.0, or_right (x == one.0) (list_any (λ q. q == one.0) xs) one.1, one.2)
]

-- of the asks of members there is a last one, if there is any
pub last_ask : (events : List WorldEvent) (members : List ℕ) → ((d : ℕ) × AskedLast events members d) ⊎ NoAsk members events
last_ask [] members = inr tt
last_ask (e ∷ es) members = elim (last_ask es members) [
  | inl one ↦ inl (
    one.0,
    record {
      member = one.1.member;
      before = e ∷ one.1.before;
      ask = one.1.ask;
      later = one.1.later;
      whole = ap (λ z. e ∷ z) one.1.whole;
      asks = one.1.asks;
      none_later = one.1.none_later;
    },
  )
  | inr none ↦ elim (cases_Bool (list_any (λ p. is_ask_of p e.entry.event) members)) [
    | inl some ↦
        let one = any_to (λ p. is_ask_of p e.entry.event) members some in
        inl (one.0, record { member = one.1; before = []; ask = e; later = es; whole = refl; asks = one.2; none_later = none })
    | inr not_here ↦ inr (not_here, none)
  ]
]

-- a wait that no later ask of a member began was there before
pub waited : (members : List ℕ) (j k : ℕ) (b : Bool) (events : List WorldEvent) → On members j → NoAsk members events → wait_after b j k events ≡ true → b ≡ true
waited members j k b [] on none h = h
waited members j k b (e ∷ es) on none h = old (asks_for j k e.entry.event) (not (grants k j e.entry.event)) refl
    (waited members j k (asks_for j k e.entry.event || (not (grants k j e.entry.event) && b)) es on none.1 h)
  where
    old : (x y : Bool) → asks_for j k e.entry.event ≡ x → (x || (y && b)) ≡ true → b ≡ true
    old true y is now = absurd (true≢false (sym (any_from (λ p. is_ask_of p e.entry.event) members j on (is_ask j k e.entry.event is)) ∙ none.0))
    old false true is now = now
    old false false is now = absurd (true≢false (sym now))

-- ---- a cycle, written from another of its members

-- no or more waits and then one or more
path_leads : (R : ℕ → ℕ → Type 0) (p : ℕ) (xs : List ℕ) (q r : ℕ) → IsPath R p xs q → LeadsTo R q r → LeadsTo R p r
path_leads R p [] q r h g = subst (λ z. LeadsTo R z r) (sym h) g
path_leads R p (x ∷ xs) q r h g = (x, xs ++ g.0 ∷ g.1, h.0, path_join R x xs q (g.0 ∷ g.1) r h.1 (g.2, g.3))

-- to a member of a path, and on from it
through : (R : ℕ → ℕ → Type 0) (p x : ℕ) (xs : List ℕ) (q d : ℕ) → R p x → IsPath R x xs q → On (x ∷ xs) d → LeadsTo R p d × ((rest : List ℕ) × IsPath R d rest q)
through R p x [] q d h path on = elim (or_cases (x == d) false on) [
  | inl e ↦ ((x, [], h, eqb-true x d e), ([], sym (eqb-true x d e) ∙ path))
  | inr later ↦ absurd (true≢false (sym later))
]
through R p x (y ∷ ys) q d h path on = elim (or_cases (x == d) (list_any (λ z. z == d) (y ∷ ys)) on) [
  | inl e ↦ ((x, [], h, eqb-true x d e), (y ∷ ys, subst (λ z. IsPath R z (y ∷ ys) q) (eqb-true x d e) path))
  | inr later ↦ let on = through R x y ys q d path.0 path.1 later in ((x, on.0.0 ∷ on.0.1, h, (on.0.2, on.0.3)), on.1)
]

-- each member of a cycle leads to itself
pub around : (R : ℕ → ℕ → Type 0) (first second : ℕ) (others : List ℕ) (d : ℕ) → R first second → IsPath R second others first → On (first ∷ second ∷ others) d → LeadsTo R d d
around R first second others d h path on = elim (or_cases (first == d) (list_any (λ z. z == d) (second ∷ others)) on) [
  | inl e ↦ subst (λ z. LeadsTo R z z) (eqb-true first d e) (second, others, h, path)
  | inr later ↦ let on = through R first second others first d h path later in path_leads R d on.1.0 first d on.1.1 on.0
]

-- the waits of a path whose members don't ask stand from the start
pub path_waited : (members : List ℕ) (before later : List WorldEvent) → NoAsk members later → (p : ℕ) (xs : List ℕ) (q : ℕ) → ((d : ℕ) → On (p ∷ xs) d → On members d)
    → IsPath (Waits (before ++ later)) p xs q → IsPath (Waits before) p xs q
path_waited members before later none p [] q within path = path
path_waited members before later none p (x ∷ xs) q within path = (
  waited members p x (wait_after false p x before) later (within p (or_left (p == p) (list_any (λ z. z == p) (x ∷ xs)) (eq-eqb p p refl))) none (sym (wait_after-append false p x before later) ∙ path.0),
  path_waited members before later none x xs q (λ d on. within d (or_right (p == d) (list_any (λ z. z == d) (x ∷ xs)) on)) path.1,
)

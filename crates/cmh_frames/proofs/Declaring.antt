-- Whom an event declares, and that a site declares each of its processes once.
use Rattle.std.proofs.Common.{◌≡◌, ◌≤◌, ℕ, true, false, ◌||◌, List, [], ◌∷◌, ◌++◌, length, if◌then◌else◌, Option, None, Some, is_some, inl, inr, sym, ap, subst, ◌∙◌, ◌==◌, refl, true≢false, arith}
use Rattle.std.specs.FinSet as set
use Rattle.std.specs.Cmp.{nat_cmp_total, nat_eq_equiv, unsigned_tied}
use Rattle.std.specs.List.{AllByRecursion, IsDistinct, list_any}
use Rattle.std.specs.Option.{option_to_list}
use Rattle.std.specs.Set.{is_member}
use Rattle.std.proofs.lemmas.Bool.{eq-eqb, eqb-true, ne_eqb, or_cases, or_left, or_right, cases_Bool, MatchBool-at_false, MatchBool-at_true}
use Rattle.std.proofs.lemmas.Map.Keys.{IsDistinct-cons}
use Rattle.std.proofs.lemmas.Map.Made.{IsDistinct-from_count, length-le_from_is_member}
use Rattle.cmh_frames.specs.declared.edition.Edition.{Edition}
use Rattle.cmh_frames.specs.declared.edition.Edition.TheVariants.{One, Two}
use Rattle.cmh_frames.specs.declared.frame.Frame.{Frame}
use Rattle.cmh_frames.specs.declared.frame.Frame.TheVariants.{Request, Reply as Reply_frame, Probe}
use Rattle.cmh_frames.specs.Edition.{member_limit, starts_at_ask}
use Rattle.cmh_frames.specs.Topology.{Topology, At, IsWellFormed, is_at, members_of}
use Rattle.cmh_frames.specs.declared.event.Event.{Event}
use Rattle.cmh_frames.specs.declared.event.Event.TheVariants.{Ask, Reply, Start, Got}
use Rattle.cmh_frames.specs.Entries.{Entry}
use Rattle.cmh_frames.specs.Relation.{Numbers}
use Rattle.cmh_frames.specs.State.{State, empty_state}
use Rattle.cmh_frames.specs.Rules.{Sends, DeclaresOrProbes, after, declared_after, probe_acts}
use Rattle.cmh_frames.proofs.Words.{newly}
use Rattle.cmh_frames.specs.Journals.{IsLawful, LawfulFrom}
use Rattle.cmh_frames.specs.Declarations.{declarations}
use Rattle.cmh_frames.proofs.Apart.{some_same}
use Rattle.cmh_frames.proofs.Choices.{if_same}
use Rattle.cmh_frames.proofs.Edges.{reach_ends}
use Rattle.cmh_frames.proofs.AfterEvents.{if-declared}
use Rattle.cmh_frames.proofs.Sent.{declares}

-- who was declared stays so
kept : (known : Numbers) (d : Option ℕ) (i : ℕ) → set.contains known i ≡ true → set.contains (declared_after known d) i ≡ true
kept known None i h = h
kept known (Some x) i h = set.contains-insert nat_cmp_total known x i ∙ ap (λ z. z || set.contains known i) (unsigned_tied i x) ∙ or_right (i == x) (set.contains known i) h

-- and who is declared now is so
now_declared : (known : Numbers) (d : Option ℕ) (i : ℕ) → d ≡ Some i → set.contains (declared_after known d) i ≡ true
now_declared known d i e = ap (λ o. set.contains (declared_after known o) i) e ∙ set.contains-insert nat_cmp_total known i i ∙ ap (λ z. z || set.contains known i) (unsigned_tied i i) ∙ or_left (i == i) (set.contains known i) (eq-eqb i i refl)

-- nothing is not something
none_some : (d : Option ℕ) (i : ℕ) → d ≡ None → d ≡ Some i → ⊥
none_some d i none some = true≢false (sym (ap is_some some) ∙ ap is_some none)

module _ (t : Topology) (s : ℕ) (v : State) where
  -- a controller forgets nobody
  pub stays : (ev : Event) (d : Option ℕ) (i : ℕ) → set.contains v.declared i ≡ true → set.contains (after t s v ev d).declared i ≡ true
  stays (Ask asker targets) d i h = kept v.declared d i h
  stays (Reply holder asker) d i h = ap (λ r. set.contains r i) (if-declared (is_at t asker s) _ _ ∙ if_same (is_at t asker s) v.declared) ∙ h
  stays (Start p) d i h = kept v.declared d i h
  stays (Got a (Request (x, y))) d i h = h
  stays (Got a (Reply_frame (x, y))) d i h = h
  stays (Got a (Probe (o, f, to))) d i h = elim (cases_Bool (probe_acts v o f to)) [
    | inl z ↦ ap (λ r. set.contains r i) (if-declared (probe_acts v o f to) _ _ ∙ ap (λ c. if c then declared_after v.declared d else v.declared) z) ∙ kept v.declared d i h
    | inr z ↦ ap (λ r. set.contains r i) (if-declared (probe_acts v o f to) _ _ ∙ ap (λ c. if c then declared_after v.declared d else v.declared) z) ∙ h
  ]

  -- and keeps whom an event declares
  pub enters : (ev : Event) (sent : List (ℕ × Frame)) (d : Option ℕ) (i : ℕ) → Sends t s v ev sent d → d ≡ Some i → set.contains (after t s v ev d).declared i ≡ true
  enters (Ask asker targets) sent d i h e = now_declared v.declared d i e
  enters (Reply holder asker) sent d i h e = absurd (none_some d i h.1 e)
  enters (Start p) sent d i h e = now_declared v.declared d i e
  enters (Got a (Request (x, y))) sent d i h e = absurd (none_some d i h.1 e)
  enters (Got a (Reply_frame (x, y))) sent d i h e = absurd (none_some d i h.1 e)
  enters (Got a (Probe (o, f, to))) sent d i h e = elim (cases_Bool (probe_acts v o f to)) [
    | inl z ↦ ap (λ r. set.contains r i) (if-declared (probe_acts v o f to) _ _ ∙ ap (λ c. if c then declared_after v.declared d else v.declared) z) ∙ now_declared v.declared d i e
    | inr z ↦ absurd (none_some d i (MatchBool-at_false _ _ z h).1 e)
  ]

-- who is newly declared was not declared before
newly_new : (v : State) (p i : ℕ) → newly v p ≡ Some i → set.contains v.declared i ≡ false
newly_new v p i e = elim (cases_Bool (set.contains v.declared p)) [
  | inl c ↦ absurd (none_some (newly v p) i (ap (λ z. if z then None else Some p) c) e)
  | inr c ↦ subst (λ q. set.contains v.declared q ≡ false) (some_same (sym (ap (λ z. if z then None else Some p) c) ∙ e)) c
]

verdict_new : (t : Topology) (s : ℕ) (v : State) (Deadlocked : Type 0) (origin from i : ℕ) (sent : List (ℕ × Frame)) (d : Option ℕ) → DeclaresOrProbes t s v Deadlocked origin from sent d → d ≡ Some i → set.contains v.declared i ≡ false
verdict_new t s v Deadlocked origin from i sent d (inl x) e = newly_new v origin i (sym x.2 ∙ e)
verdict_new t s v Deadlocked origin from i sent d (inr x) e = absurd (none_some d i x.2 e)

-- an event declares only who was not declared before
declares_new : (t : Topology) (s : ℕ) (v : State) (ev : Event) (sent : List (ℕ × Frame)) (d : Option ℕ) (i : ℕ) → Sends t s v ev sent d → d ≡ Some i → set.contains v.declared i ≡ false
declares_new t s v (Ask asker targets) sent d i h e = elim (cases_Bool (starts_at_ask t.edition)) [
  | inl c ↦ let x = MatchBool-at_true _ _ c h in verdict_new t s (after t s v (Ask asker targets) None) _ asker asker i x.0 d x.2 e
  | inr c ↦ absurd (none_some d i (MatchBool-at_false _ _ c h).1 e)
]
declares_new t s v (Reply holder asker) sent d i h e = absurd (none_some d i h.1 e)
declares_new t s v (Start p) sent d i h e = verdict_new t s v _ p p i sent d h e
declares_new t s v (Got a (Request (x, y))) sent d i h e = absurd (none_some d i h.1 e)
declares_new t s v (Got a (Reply_frame (x, y))) sent d i h e = absurd (none_some d i h.1 e)
declares_new t s v (Got a (Probe (o, f, to))) sent d i h e = elim (cases_Bool (probe_acts v o f to)) [
  | inl c ↦ verdict_new t s v _ o to i sent d (MatchBool-at_true _ _ c h) e
  | inr c ↦ absurd (none_some d i (MatchBool-at_false _ _ c h).1 e)
]

-- and only a process of the site
declares_here : (t : Topology) (s : ℕ) (v : State) (ev : Event) (sent : List (ℕ × Frame)) (d : Option ℕ) (i : ℕ) → Sends t s v ev sent d → d ≡ Some i → At t i s
declares_here t s v ev sent d i h e = elim (declares t s v ev sent d i h e) [
  | inl x ↦ x.1.0
  | inr x ↦ reach_ends t s (after t s v ev d).waits x.2 x.5.1.0 i x.5.0 x.5.1.1
]

all_behind : (P : ℕ → Type 0) (d : Option ℕ) (rest : List ℕ) → ((i : ℕ) → d ≡ Some i → P i) → AllByRecursion P rest → AllByRecursion P (option_to_list d ++ rest)
all_behind P None rest one all = all
all_behind P (Some i) rest one all = (one i refl, all)

distinct_behind : (d : Option ℕ) (rest : List ℕ) → ((i : ℕ) → d ≡ Some i → AllByRecursion (λ j. (i == j) ≡ false) rest) → IsDistinct ◌==◌ rest → IsDistinct ◌==◌ (option_to_list d ++ rest)
distinct_behind None rest one all = all
distinct_behind (Some i) rest one all = IsDistinct-cons ◌==◌ i rest (one i refl) all

all_weaker : (P Q : ℕ → Type 0) (xs : List ℕ) → ((i : ℕ) → P i → Q i) → AllByRecursion P xs → AllByRecursion Q xs
all_weaker P Q [] f all = tt
all_weaker P Q (x ∷ xs) f all = (f x all.0, all_weaker P Q xs f all.1)

abbrev IsNew : Topology → ℕ → State → ℕ → Type 0
IsNew t s v i = (set.contains v.declared i ≡ false) × At t i s

-- who is not declared after an event was not declared before
not_before : (t : Topology) (s : ℕ) (v : State) (ev : Event) (d : Option ℕ) (i : ℕ) → set.contains (after t s v ev d).declared i ≡ false → set.contains v.declared i ≡ false
not_before t s v ev d i h = elim (cases_Bool (set.contains v.declared i)) [
  | inl c ↦ absurd (true≢false (sym (stays t s v ev d i c) ∙ h))
  | inr c ↦ c
]

-- from a state on, whoever is declared is of the site and was not declared there
new_ones : (t : Topology) (s : ℕ) (v : State) (entries : List Entry) → LawfulFrom t s v entries → AllByRecursion (IsNew t s v) (declarations entries)
new_ones t s v [] lawful = tt
new_ones t s v (e ∷ es) lawful =
    let w = after t s v e.event e.declared in
    all_behind (IsNew t s v) e.declared (declarations es)
    (λ i is. (declares_new t s v e.event e.sent e.declared i lawful.1 is, declares_here t s v e.event e.sent e.declared i lawful.1 is))
    (all_weaker (IsNew t s w) (IsNew t s v) (declarations es) (λ i new. (not_before t s v e.event e.declared i new.0, new.1)) (new_ones t s w es lawful.2))

-- and nobody twice
each_once : (t : Topology) (s : ℕ) (v : State) (entries : List Entry) → LawfulFrom t s v entries → IsDistinct ◌==◌ (declarations entries)
each_once t s v [] lawful = IsDistinct-from_count nat_eq_equiv [] refl
each_once t s v (e ∷ es) lawful =
    let w = after t s v e.event e.declared in
    distinct_behind e.declared (declarations es)
    (λ i is. all_weaker (IsNew t s w) (λ j. (i == j) ≡ false) (declarations es)
    (λ j new. ne_eqb i j (λ same. true≢false (sym (enters t s v e.event e.sent e.declared i lawful.1 is) ∙ ap (λ q. set.contains w.declared q) same ∙ new.0)))
    (new_ones t s w es lawful.2))
    (each_once t s w es lawful.2)

member_is : (P : ℕ → Type 0) (xs : List ℕ) → AllByRecursion P xs → (q : ℕ) → is_member ◌==◌ xs q ≡ true → P q
member_is P [] all q h = absurd (true≢false (sym h))
member_is P (x ∷ xs) all q h = elim (or_cases (q == x) (is_member ◌==◌ xs q) h) [
  | inl e ↦ subst P (sym (eqb-true q x e)) all.0
  | inr e ↦ member_is P xs all.1 q e
]

is_member-found : (xs : List ℕ) (q : ℕ) → list_any (λ x. x == q) xs ≡ true → is_member ◌==◌ xs q ≡ true
is_member-found [] q h = absurd (true≢false (sym h))
is_member-found (x ∷ xs) q h = elim (or_cases (x == q) (list_any (λ y. y == q) xs) h) [
  | inl e ↦ or_left (q == x) (is_member ◌==◌ xs q) (eq-eqb q x (sym (eqb-true x q e)))
  | inr e ↦ or_right (q == x) (is_member ◌==◌ xs q) (is_member-found xs q e)
]

member_limit-most : (edition : Edition) → member_limit edition ≤ 64
member_limit-most One = omega arith
member_limit-most Two = omega arith

-- a lawful journal declares no more processes than its site has
pub few_declared : (t : Topology) (s : ℕ) (entries : List Entry) → IsWellFormed t → IsLawful t s entries → length (declarations entries) ≤ 64
few_declared t s entries formed lawful =
    let new = new_ones t s empty_state entries lawful in
    let fewer = length-le_from_is_member nat_eq_equiv (declarations entries) (members_of t s) (each_once t s empty_state entries lawful)
    (λ q h. is_member-found (members_of t s) q ((formed.members q s).1 (member_is (IsNew t s empty_state) (declarations entries) new q h).1)) in
    omega (arith, fewer, formed.few_members s, member_limit-most t.edition)

-- How many frames a step sends.
use Rattle.std.proofs.Common.{◌≡◌, ◌≤◌, ℕ, ◌+◌, ◌*◌, Bool, true, false, ◌||◌, List, [], ◌∷◌, ◌++◌, map, length, ◌==◌, if◌then◌else◌, refl, sym, ap, ◌∙◌, subst, inl, inr, true≢false, Option, arith}
use Rattle.std.specs.List.{list_any, AllByRecursion}
use Rattle.std.specs.List.Sorted.{IsStrictlySortedBy}
use Rattle.std.specs.Ordering.{eq_by_cmp}
use Rattle.std.specs.Set.{is_member}
use Rattle.std.proofs.lemmas.Bool.{eqb-true, or_cases, or_left, or_right}
use Rattle.std.proofs.lemmas.Cmp.{eq_by_cmp_equiv}
use Rattle.std.proofs.Math.Nat.{suc-mul}
use Rattle.std.proofs.lemmas.Nat.{mul-le}
use Rattle.std.proofs.lemmas.List.{length-append, length-map}
use Rattle.std.proofs.lemmas.List.Folds.{list_any-append}
use Rattle.std.proofs.lemmas.Map.Keys.{IsDistinct-from_sorted}
use Rattle.std.proofs.lemmas.Map.Made.{length-le_from_is_member}
use Rattle.cmh_frames.specs.declared.edition.Edition.{Edition}
use Rattle.cmh_frames.specs.declared.edition.Edition.TheVariants.{One, Two}
use Rattle.cmh_frames.specs.declared.frame.Frame.{Frame}
use Rattle.cmh_frames.specs.declared.frame.Frame.TheVariants.{Request, Reply as Reply_frame}
use Rattle.cmh_frames.specs.Edition.{target_limit, member_limit}
use Rattle.cmh_frames.specs.Topology.{Topology, IsWellFormed, members_of, is_at, site_of}
use Rattle.cmh_frames.specs.declared.event.Event.{Event}
use Rattle.cmh_frames.specs.declared.event.Event.TheVariants.{Ask, Reply, Start, Got}
use Rattle.cmh_frames.specs.Relation.{Relation, IsNarrow, pair_cmp}
use Rattle.cmh_frames.specs.State.{State}
use Rattle.cmh_frames.specs.Rules.{Accepts, AreProbes, IsEdgeFrom, Sends, after, replies, requests}
use Rattle.cmh_frames.proofs.Edges.{each_edge, reach_ends}
use Rattle.cmh_frames.proofs.Lawful.{stays_narrow}
use Rattle.cmh_frames.proofs.Pairs.{pair_cmp_total}
use Rattle.cmh_frames.proofs.Sent.{answers_of, shape}

-- ---- pairs in order

-- whether two pairs are the same
abbrev eq : ℕ × ℕ → ℕ × ℕ → Bool
eq = eq_by_cmp pair_cmp

-- each first number with each of its seconds
abbrev pairs_of : (ℕ → List ℕ) → List ℕ → List (ℕ × ℕ)
pairs_of seconds [] = []
pairs_of seconds (a ∷ more) = map (λ b. (a, b)) (seconds a) ++ pairs_of seconds more

-- they are no more than the first numbers times what each may have
few_pairs_of : (seconds : ℕ → List ℕ) (n : ℕ) (firsts : List ℕ) → ((a : ℕ) → length (seconds a) ≤ n) → length (pairs_of seconds firsts) ≤ length firsts * n
few_pairs_of seconds n [] few = omega arith
few_pairs_of seconds n (a ∷ more) few =
    let pair : ℕ → ℕ × ℕ = λ b. (a, b) in
    let one_each = length-map (seconds a) pair in
    omega (arith, few a, few_pairs_of seconds n more few, suc-mul (length more) n, one_each, length-append (map pair (seconds a)) (pairs_of seconds more))

-- a pair of a and one of these
with_second : (a b : ℕ) (bs : List ℕ) → list_any (λ q. q == b) bs ≡ true → is_member eq (map (λ c. (a, c)) bs) (a, b) ≡ true
with_second a b [] h = absurd (true≢false (sym h))
with_second a b (c ∷ cs) h = elim (or_cases (c == b) (list_any (λ q. q == b) cs) h) [
  | inl e ↦ or_left (eq (a, b) (a, c)) _ (subst (λ x. eq (a, b) (a, x) ≡ true) (sym (eqb-true c b e)) ((eq_by_cmp_equiv pair_cmp_total).refl (a, b)))
  | inr e ↦ or_right (eq (a, b) (a, c)) _ (with_second a b cs e)
]

-- a first number with one of its seconds is among them
among_pairs : (seconds : ℕ → List ℕ) (firsts : List ℕ) (a b : ℕ) → list_any (λ q. q == a) firsts ≡ true → list_any (λ q. q == b) (seconds a) ≡ true → is_member eq (pairs_of seconds firsts) (a, b) ≡ true
among_pairs seconds [] a b first second = absurd (true≢false (sym first))
among_pairs seconds (c ∷ cs) a b first second =
    list_any-append (eq (a, b)) (map (λ d. (c, d)) (seconds c)) (pairs_of seconds cs)
    ∙ elim (or_cases (c == a) (list_any (λ q. q == a) cs) first) [
      | inl e ↦ or_left _ (is_member eq (pairs_of seconds cs) (a, b)) (subst (λ x. is_member eq (map (λ d. (x, d)) (seconds x)) (a, b) ≡ true) (sym (eqb-true c a e)) (with_second a b (seconds a) second))
      | inr e ↦ or_right (is_member eq (map (λ d. (c, d)) (seconds c)) (a, b)) _ (among_pairs seconds cs a b e second)
    ]

-- the same pair is a member of the same lists
same_members : (x y : ℕ × ℕ) (zs : List (ℕ × ℕ)) → eq x y ≡ true → is_member eq zs x ≡ is_member eq zs y
same_members x y [] h = refl
same_members x y (z ∷ zs) h = ap (λ b. b || is_member eq zs x) ((eq_by_cmp_equiv pair_cmp_total).congr x y z h) ∙ ap (λ b. eq y z || b) (same_members x y zs h)

-- where each of a list is a member of another, so are its members
within : (xs ys : List (ℕ × ℕ)) → AllByRecursion (λ x. is_member eq ys x ≡ true) xs → (q : ℕ × ℕ) → is_member eq xs q ≡ true → is_member eq ys q ≡ true
within [] ys all q h = absurd (true≢false (sym h))
within (x ∷ xs) ys all q h = elim (or_cases (eq q x) (is_member eq xs q) h) [
  | inl e ↦ same_members q x ys e ∙ all.0
  | inr e ↦ within xs ys all.1 q e
]

-- pairs in order, whose first numbers are among so many and have so many seconds each
pub few_pairs :
    (firsts : List ℕ) (seconds : ℕ → List ℕ) (n : ℕ) (pairs : List (ℕ × ℕ)) → IsStrictlySortedBy pair_cmp pairs
    → AllByRecursion (λ (p : ℕ × ℕ). (list_any (λ q. q == p.0) firsts ≡ true) × (list_any (λ q. q == p.1) (seconds p.0) ≡ true)) pairs → ((a : ℕ) → length (seconds a) ≤ n)
    → length pairs ≤ length firsts * n
few_pairs firsts seconds n pairs ascending each few =
    let fewer = length-le_from_is_member (eq_by_cmp_equiv pair_cmp_total) pairs (pairs_of seconds firsts) (IsDistinct-from_sorted pair_cmp pairs ascending) (within pairs (pairs_of seconds firsts) (members pairs each)) in
    omega (arith, fewer, few_pairs_of seconds n firsts few)
  where
    members : (ps : List (ℕ × ℕ)) → AllByRecursion (λ (p : ℕ × ℕ). (list_any (λ q. q == p.0) firsts ≡ true) × (list_any (λ q. q == p.1) (seconds p.0) ≡ true)) ps → AllByRecursion (λ x. is_member eq (pairs_of seconds firsts) x ≡ true) ps
    members [] all = tt
    members (p ∷ ps) all = (among_pairs seconds firsts p.0 p.1 all.0.0 all.0.1, members ps all.1)

-- ---- probes

-- the probes along waits of the site's processes, of which each has few
pub few_probes :
    (t : Topology) (s : ℕ) (waits : Relation) (limit i p : ℕ) (sent : List (ℕ × Frame)) → IsWellFormed t → IsNarrow limit waits → AreProbes t s waits i p sent → length sent ≤ length (members_of t s) * limit
few_probes t s waits limit i p sent formed narrow probes =
    let each = edges probes.edges (each_edge t s waits i p sent probes) in
    let few = few_pairs (members_of t s) (λ a. (narrow a).others) limit probes.edges probes.ascending each (λ a. (narrow a).few) in
    let many : length sent ≡ length probes.edges = ap length probes.are ∙ length-map probes.edges _ in
    omega (arith, few, many)
  where
    edges : (es : List (ℕ × ℕ)) → AllByRecursion (IsEdgeFrom t s waits p) es → AllByRecursion (λ (e : ℕ × ℕ). (list_any (λ q. q == e.0) (members_of t s) ≡ true) × (list_any (λ q. q == e.1) (narrow e.0).others ≡ true)) es
    edges [] all = tt
    edges (e ∷ es) all =
        let here = reach_ends t s waits p all.0.0.1.0 e.0 all.0.0.0 all.0.0.1.1 in
        (((formed.members e.0 s).1 here, (narrow e.0).all e.1 all.0.1), edges es all.1)

-- ---- requests and replies

-- where one frame may be added, there is at most one more
one_or_none : (here : Bool) (x : ℕ × Frame) (xs : List (ℕ × Frame)) → length (if here then xs else x ∷ xs) ≤ length xs + 1
one_or_none true x xs = omega arith
one_or_none false x xs = omega arith

-- there is at most a request to each target
few_requests : (t : Topology) (s asker : ℕ) (ks : List ℕ) → length (requests t s asker ks) ≤ length ks
few_requests t s asker [] = omega arith
few_requests t s asker (k ∷ ks) =
    let request : ℕ × Frame = (site_of t k, Request (asker, k)) in
    omega (arith, few_requests t s asker ks, one_or_none (is_at t k s) request (requests t s asker ks))

-- there is at most one reply
few_replies : (t : Topology) (s holder asker : ℕ) → length (replies t s holder asker) ≤ 1
few_replies t s holder asker = let reply : ℕ × Frame = (site_of t asker, Reply_frame (holder, asker)) in one_or_none (is_at t asker s) reply []

-- an ask may name a process
some_targets : (edition : Edition) → 1 ≤ target_limit edition
some_targets One = omega arith
some_targets Two = omega arith

-- requests or a reply are no more than the targets that an ask may name
few_answers : (t : Topology) (s : ℕ) (v : State) (ev : Event) → Accepts t s v ev → length (answers_of t s ev) ≤ target_limit t.edition
few_answers t s v (Ask asker targets) acc = omega (arith, few_requests t s asker targets, acc.2.within)
few_answers t s v (Reply holder asker) acc = omega (arith, few_replies t s holder asker, some_targets t.edition)
few_answers t s v (Start i) acc = omega arith
few_answers t s v (Got a f) acc = omega arith

-- ---- the whole

-- a step sends no more than a request to each target, and a probe along each wait of a process of the site
pub few_sent :
    (t : Topology) (s : ℕ) (v : State) (ev : Event) (sent : List (ℕ × Frame)) (d : Option ℕ) → IsWellFormed t → IsNarrow (target_limit t.edition) v.waits → Accepts t s v ev → Sends t s v ev sent d
    → length sent ≤ target_limit t.edition + member_limit t.edition * target_limit t.edition
few_sent t s v ev sent d formed narrow acc sends =
    let x = shape t s v ev sent d sends in
    let probes : length x.probes ≤ member_limit t.edition * target_limit t.edition = elim x.from [
      | inl none ↦ omega (arith, ap length none)
      | inr y ↦
          let few = few_probes t s (after t s v ev d).waits (target_limit t.edition) y.0 y.1 x.probes formed (stays_narrow t s v ev d acc narrow) y.3 in
          omega (arith, few, mul-le (length (members_of t s)) (target_limit t.edition) (member_limit t.edition) (target_limit t.edition) (formed.few_members s) (omega arith))
    ] in
    omega (arith, ap length x.is, length-append (answers_of t s ev) x.probes, few_answers t s v ev acc, probes)

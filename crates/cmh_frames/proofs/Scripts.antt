-- The worked scripts.
use Rattle.std.proofs.Common.{◌≡◌, ◌≢◌, ℕ, zero, suc, ◌<◌, Bool, true, false, not, ◌&&◌, List, [], ◌∷◌, ◌==◌, if◌then◌else◌, refl, sym, ap, ◌∙◌, subst, inl, inr, true≢false, None, Some, IsSome, arith, Contains, length, take, ◌≤◌}
use Rattle.std.specs.List.Sorted.{IsStrictlySortedBy}
use Rattle.std.specs.Ordering.{nat_cmp}
use Rattle.std.specs.FinSet as set
use Rattle.std.proofs.lemmas.Bool.{eqb-true, and_parts, or_cases, false_from_ne_true}
use Rattle.cmh_frames.proofs.Choices.{match_true, match_false}
use Rattle.cmh_frames.specs.declared.edition.Edition.{Edition}
use Rattle.cmh_frames.specs.declared.edition.Edition.TheVariants.{One, Two}
use Rattle.cmh_frames.specs.declared.frame.Frame.TheVariants.{Request, Reply as Reply_frame, Probe}
use Rattle.cmh_frames.specs.Edition.{target_limit, starts_at_ask}
use Rattle.cmh_frames.specs.Topology.{Topology, home, At}
use Rattle.cmh_frames.specs.declared.event.Event.TheVariants.{Ask, Reply, Start, Got}
use Rattle.cmh_frames.specs.Relation.{has, has_some, without_pair}
use Rattle.cmh_frames.specs.State.{State, empty_state, is_blocked}
use Rattle.cmh_frames.specs.Paths.{IsPath, WaitsLocally, ReachesLocally, DependsOnItself}
use Rattle.cmh_frames.specs.Rules.{Accepts, AreTargets, IsEdgeFrom, AreProbes, Sends, after, probe_acts}
use Rattle.cmh_frames.proofs.Words.{newly}
use Rattle.cmh_frames.specs.Journals.{value, IsLawful, sendings_of, receipts_of}
use Rattle.cmh_frames.specs.Entries.{Entry}
use Rattle.cmh_frames.specs.Stops.{IsConsistent}
use Rattle.cmh_frames.specs.Runs.{IsRun, IsDrained, entries_of, state_of}
use Rattle.cmh_frames.specs.Laws.{is_request}
use Rattle.cmh_frames.specs.Scripts.{one_site, two_sites, three_processes, silent, outcome, at_site, state_with, wait_for_each_other, declared_at_ask, ask_each_other, probe_goes_round, granted_before_the_probe, marked_by_the_probe, asked_and_answered, lost_request, overtaken}
use Rattle.cmh_frames.proofs.LongerRuns.{run_first, run_more}
use Rattle.cmh_frames.proofs.Listed.{pairs, has-pairs, has_some-pairs}
use Rattle.cmh_frames.proofs.Places.{one_place, site_of-at}
use Rattle.cmh_frames.proofs.Pairs.{has-with_same, has-without, has-without_same, has-only, has_some-to}

-- the only pair of a relation
pub one_pair : (j k x y : ℕ) → has (pairs ((j, k) ∷ [])) x y ≡ true → (x ≡ j) × (y ≡ k)
one_pair j k x y h = elim (or_cases ((x == j) && (y == k)) false (sym (has-pairs ((j, k) ∷ []) x y) ∙ h)) [
  | inl e ↦ let both = and_parts (x == j) (y == k) e in (eqb-true x j both.0, eqb-true y k both.1)
  | inr e ↦ absurd (true≢false (sym e))
]

-- without it nothing is left
pub no_more_waits : (j k : ℕ) → has_some (without_pair (pairs ((j, k) ∷ [])) j k) j ≡ false
no_more_waits j k = false_from_ne_true (has_some (without_pair (pairs ((j, k) ∷ [])) j k) j) none
  where
    none : has_some (without_pair (pairs ((j, k) ∷ [])) j k) j ≡ true → ⊥
    none h =
        let one = has_some-to (without_pair (pairs ((j, k) ∷ [])) j k) j h in
        let was = and_parts (not ((j == j) && (one.0 == k))) (has (pairs ((j, k) ∷ [])) j one.0) (sym (has-without (pairs ((j, k) ∷ [])) j k j one.0) ∙ one.1) in
        let is = one_pair j k j one.0 was.1 in
        true≢false (sym one.1 ∙ ap (has (without_pair (pairs ((j, k) ∷ [])) j k) j) is.1 ∙ has-without_same (pairs ((j, k) ∷ [])) j k)

-- the only member of a list
only_member : (x y : ℕ × ℕ) → Contains (x ∷ []) y → x ≡ y
only_member x y (zero, below, is) = is
only_member x y (suc n, below, is) = absurd (omega (arith, below))

-- ---- a site whose only wait leads to another site

module _ (t : Topology) (s b j k : ℕ) (at_j : At t j s) (at_k : At t k b) (apart : b ≢ s) where
  -- no wait is local
  none_local : (p q : ℕ) → WaitsLocally t s (pairs ((j, k) ∷ [])) p q → ⊥
  none_local p q h = let is = one_pair j k p q h.2 in apart (one_place t k b s at_k (subst (λ z. At t z s) is.1 h.1))

  -- j reaches itself alone
  pub reaches_itself : (q : ℕ) → ReachesLocally t s (pairs ((j, k) ∷ [])) j q → j ≡ q
  reaches_itself q h = end h.1.0 h.1.1
    where
      end : (members : List ℕ) → IsPath (WaitsLocally t s (pairs ((j, k) ∷ []))) j members q → j ≡ q
      end [] path = path
      end (x ∷ xs) path = absurd (none_local j x path.0)

  -- so j is not locally dependent upon itself
  pub not_on_itself : DependsOnItself t s (pairs ((j, k) ∷ [])) j → ⊥
  not_on_itself h = none_local j h.0 h.1

  -- the probes from j are one probe
  pub one_probe : (i : ℕ) → AreProbes t s (pairs ((j, k) ∷ [])) i j ((b, Probe (i, j, k)) ∷ [])
  unfolding IsStrictlySortedBy
  one_probe i = record {
    edges = (j, k) ∷ [];
    ascending = (tt, tt);
    all = λ edge. (to edge, from edge);
    are = ap (λ z. (z, Probe (i, j, k)) ∷ []) (sym (site_of-at t k b at_k));
  }
    where
      to : (edge : ℕ × ℕ) → Contains ((j, k) ∷ []) edge → IsEdgeFrom t s (pairs ((j, k) ∷ [])) j edge
      to edge h = subst (IsEdgeFrom t s (pairs ((j, k) ∷ [])) j) (only_member (j, k) edge h) ((at_j, ([], refl)), has-with_same set.empty j k, (b, at_k, apart))

      from : (edge : ℕ × ℕ) → IsEdgeFrom t s (pairs ((j, k) ∷ [])) j edge → Contains ((j, k) ∷ []) edge
      from edge h = let is = one_pair j k edge.0 edge.1 h.1 in (0, omega arith, λ n. (sym is.0 n, sym is.1 n))

-- whether a probe acts, from its three tests
pub acts_is : (v : State) (i f k : ℕ) (b d w : Bool) → is_blocked v k ≡ b → has v.dependents k i ≡ d → has v.owed k f ≡ w → probe_acts v i f k ≡ (b && (not d && w))
acts_is v i f k b d w is_b is_d is_w = λ n. is_b n && (not (is_d n) && is_w n)

-- what one other process may be asked
pub one_target : (t : Topology) (asker k : ℕ) → IsSome (home t k) → k ≢ asker → 0 < target_limit t.edition → AreTargets t asker (k ∷ [])
one_target t asker k known other limit = record { some = omega arith; within = omega (arith, limit); ascending = (tt, tt); known = ((known, other), tt) }

-- 1 is not 2
pub one_not_two : ◌≢◌ {A = ℕ} 1 2
one_not_two e = omega (arith, e)

-- 2 is not 1
pub two_not_one : ◌≢◌ {A = ℕ} 2 1
two_not_one e = omega (arith, e)

-- nobody is declared at first
nobody_declared : (i : ℕ) → set.contains {R = nat_cmp} set.empty i ≡ false
nobody_declared i = set.contains-empty nat_cmp i

-- so a declaration is new
pub newly_first : (i : ℕ) → Some i ≡ newly empty_state i
newly_first i = ap (λ z. if z then None else Some i) (sym (nobody_declared i))

-- ---- one site

-- the start declares
pub one_site_run : IsRun (one_site One) wait_for_each_other
one_site_run =
    let first = run_more (one_site One) [] (at_site 1 (silent (Ask 1 (2 ∷ [])))) (run_first (one_site One))
    (refl, has_some-pairs [] 1, one_target (one_site One) 1 2 refl two_not_one (omega arith)) (refl, refl) tt in
    let second = run_more (one_site One) _ (at_site 1 (silent (Ask 2 (1 ∷ [])))) first
    (refl, has_some-pairs ((1, 2) ∷ []) 2, one_target (one_site One) 2 1 refl one_not_two (omega arith)) (refl, refl) tt in
    run_more (one_site One) _ (at_site 1 (outcome (Start 1) [] (Some 1))) second
    (refl, has_some-pairs ((2, 1) ∷ (1, 2) ∷ []) 1, nobody_declared 1)
    (inl ((2, (refl, refl, has-pairs ((2, 1) ∷ (1, 2) ∷ []) 1 2), (refl, (1 ∷ [], ((refl, refl, has-pairs ((2, 1) ∷ (1, 2) ∷ []) 2 1), refl)))), refl, newly_first 1))
    tt

-- both wait
pub both_blocked : is_blocked (state_of (one_site One) 1 wait_for_each_other) 1 ≡ true
both_blocked = has_some-pairs ((2, 1) ∷ (1, 2) ∷ []) 1

-- the first ask waits for a process that waits for nobody
first_is_clear : DependsOnItself (one_site Two) 1 (pairs ((1, 2) ∷ [])) 1 → ⊥
first_is_clear h = back h.2.1.0 h.2.1.1
  where
    next_is : h.0 ≡ 2
    next_is = (one_pair 1 2 1 h.0 h.1.2).1

    back : (members : List ℕ) → IsPath (WaitsLocally (one_site Two) 1 (pairs ((1, 2) ∷ []))) h.0 members 1 → ⊥
    back [] path = two_not_one (sym next_is ∙ path)
    back (x ∷ xs) path = two_not_one (sym next_is ∙ (one_pair 1 2 h.0 x path.0.2).0)

-- no wait leaves the site, so no probe goes out
no_probe : AreProbes (one_site Two) 1 (pairs ((1, 2) ∷ [])) 1 1 []
unfolding IsStrictlySortedBy
no_probe = record { edges = []; ascending = tt; all = λ edge. ((λ h. absurd (omega (arith, h.1))), from edge); are = refl }
  where
    from : (edge : ℕ × ℕ) → IsEdgeFrom (one_site Two) 1 (pairs ((1, 2) ∷ [])) 1 edge → Contains [] edge
    from edge h = absurd (h.2.2 (one_place (one_site Two) edge.1 h.2.0 1 h.2.1 (ap (home (one_site Two)) (one_pair 1 2 edge.0 edge.1 h.1).1)))

-- the second ask declares
pub declared_at_ask_run : IsRun (one_site Two) declared_at_ask
declared_at_ask_run =
    let first = run_more (one_site Two) [] (at_site 1 (silent (Ask 1 (2 ∷ [])))) (run_first (one_site Two))
    (refl, has_some-pairs [] 1, one_target (one_site Two) 1 2 refl two_not_one (omega arith)) ([], refl, inr (first_is_clear, no_probe, refl)) tt in
    run_more (one_site Two) _ (at_site 1 (outcome (Ask 2 (1 ∷ [])) [] (Some 2))) first
    (refl, has_some-pairs ((1, 2) ∷ []) 2, one_target (one_site Two) 2 1 refl one_not_two (omega arith))
    ([], refl, inl ((1, (refl, refl, has-pairs ((2, 1) ∷ (1, 2) ∷ []) 2 1), (refl, (2 ∷ [], ((refl, refl, has-pairs ((2, 1) ∷ (1, 2) ∷ []) 1 2), refl)))), refl, newly_first 2))
    tt

-- ---- two sites

-- both ask
pub both_asked : (edition : Edition) → starts_at_ask edition ≡ false → 0 < target_limit edition → IsRun (two_sites edition) (take 2 ask_each_other)
both_asked edition one limit =
    let first = run_more (two_sites edition) [] (at_site 1 (outcome (Ask 1 (2 ∷ [])) ((2, Request (1, 2)) ∷ []) None)) (run_first (two_sites edition))
    (refl, has_some-pairs [] 1, one_target (two_sites edition) 1 2 refl two_not_one limit) (match_false _ _ _ one (refl, refl)) tt in
    run_more (two_sites edition) _ (at_site 2 (outcome (Ask 2 (1 ∷ [])) ((1, Request (2, 1)) ∷ []) None)) first
    (refl, has_some-pairs [] 2, one_target (two_sites edition) 2 1 refl one_not_two limit) (match_false _ _ _ one (refl, refl)) tt

-- both requests come
pub asked_run : (edition : Edition) → starts_at_ask edition ≡ false → 0 < target_limit edition → IsRun (two_sites edition) ask_each_other
asked_run edition one limit =
    let third = run_more (two_sites edition) (take 2 ask_each_other) (at_site 2 (silent (Got 1 (Request (1, 2))))) (both_asked edition one limit) (one_not_two, refl, refl, has-pairs [] 2 1) (refl, refl) ([], refl) in
    run_more (two_sites edition) _ (at_site 1 (silent (Got 2 (Request (2, 1))))) third (two_not_one, refl, refl, has-pairs [] 1 2) (refl, refl) ([], refl)

-- or the first is lost
pub lost_run : IsRun (two_sites One) lost_request
lost_run = run_more (two_sites One) (take 2 ask_each_other) (at_site 1 (silent (Got 2 (Request (2, 1))))) (both_asked One refl (omega arith)) (two_not_one, refl, refl, has-pairs [] 1 2) (refl, refl) ([], refl)

-- a request comes, is granted, and the reply comes
pub answered_run : IsRun (two_sites One) asked_and_answered
answered_run =
    let asked = run_more (two_sites One) [] (at_site 1 (outcome (Ask 1 (2 ∷ [])) ((2, Request (1, 2)) ∷ []) None)) (run_first (two_sites One)) (refl, has_some-pairs [] 1, one_target (two_sites One) 1 2 refl two_not_one (omega arith)) (refl, refl) tt in
    let came = run_more (two_sites One) _ (at_site 2 (silent (Got 1 (Request (1, 2))))) asked (one_not_two, refl, refl, has-pairs [] 2 1) (refl, refl) ([], refl) in
    let granted = run_more (two_sites One) _ (at_site 2 (outcome (Reply 2 1) ((1, Reply_frame (2, 1)) ∷ []) None)) came (refl, has_some-pairs [] 2, has-pairs ((2, 1) ∷ []) 2 1, refl) (refl, refl) tt in
    run_more (two_sites One) _ (at_site 1 (silent (Got 2 (Reply_frame (2, 1))))) granted (two_not_one, refl, refl, has-pairs ((1, 2) ∷ []) 1 2) (refl, refl) ([], refl)

-- the probe acts at 2
pub acts_at_two : probe_acts (state_with ((2, 1) ∷ []) ((2, 1) ∷ []) [] []) 1 1 2 ≡ true
acts_at_two = acts_is (state_with ((2, 1) ∷ []) ((2, 1) ∷ []) [] []) 1 1 2 true false true (has_some-pairs ((2, 1) ∷ []) 2) (has-pairs [] 2 1) (has-pairs ((2, 1) ∷ []) 2 1)

-- and at 1
pub acts_at_one : probe_acts (state_with ((1, 2) ∷ []) ((1, 2) ∷ []) [] []) 1 2 1 ≡ true
acts_at_one = acts_is (state_with ((1, 2) ∷ []) ((1, 2) ∷ []) [] []) 1 2 1 true false true (has_some-pairs ((1, 2) ∷ []) 1) (has-pairs [] 1 1) (has-pairs ((1, 2) ∷ []) 1 2)

-- the probe goes round
pub probe_run : IsRun (two_sites One) probe_goes_round
probe_run =
    let started = run_more (two_sites One) ask_each_other (at_site 1 (outcome (Start 1) ((2, Probe (1, 1, 2)) ∷ []) None)) (asked_run One refl (omega arith))
    (refl, has_some-pairs ((1, 2) ∷ []) 1, nobody_declared 1)
    (inr (not_on_itself (two_sites One) 1 2 1 2 refl refl two_not_one, one_probe (two_sites One) 1 2 1 2 refl refl two_not_one 1, refl))
    tt in
    let forwarded = run_more (two_sites One) _ (at_site 2 (outcome (Got 1 (Probe (1, 1, 2))) ((1, Probe (1, 2, 1)) ∷ []) None)) started
    (one_not_two, refl, refl, refl)
    (match_true _ _ _ acts_at_two (inr ((λ h. two_not_one (reaches_itself (two_sites One) 2 1 2 1 refl refl one_not_two 1 h)), one_probe (two_sites One) 2 1 2 1 refl refl one_not_two 1, refl)))
    ([], refl) in
    run_more (two_sites One) _ (at_site 1 (outcome (Got 2 (Probe (1, 2, 1))) [] (Some 1))) forwarded
    (two_not_one, refl, refl, refl)
    (match_true _ _ _ acts_at_one (inl ((refl, ([], refl)), refl, newly_first 1)))
    ([], refl)

-- site 2 at the end
pub marked_state : state_of (two_sites One) 2 probe_goes_round ≡ state_with ((2, 1) ∷ []) ((2, 1) ∷ []) ((2, 1) ∷ []) []
marked_state = ap (λ z. if z then state_with ((2, 1) ∷ []) ((2, 1) ∷ []) ((2, 1) ∷ []) [] else state_with ((2, 1) ∷ []) ((2, 1) ∷ []) [] []) acts_at_two

-- the request goes out before the probe
pub request_then_probe : Sends (two_sites Two) 1 empty_state (Ask 1 (2 ∷ [])) ((2, Request (1, 2)) ∷ (2, Probe (1, 1, 2)) ∷ []) None
request_then_probe = ((2, Probe (1, 1, 2)) ∷ [], refl, inr (not_on_itself (two_sites Two) 1 2 1 2 refl refl two_not_one, one_probe (two_sites Two) 1 2 1 2 refl refl two_not_one 1, refl))

-- ---- a wait that was answered

-- each step of it is accepted
pub granted_is_lawful : IsLawful three_processes 2 granted_before_the_probe
granted_is_lawful = (
  (one_not_two, refl, refl, has-pairs [] 2 1),
  (refl, refl),
  (
    (one_not_two, refl, refl, has-pairs ((2, 1) ∷ []) 3 1),
    (refl, refl),
    (
      (refl, has_some-pairs [] 2, has-pairs ((3, 1) ∷ (2, 1) ∷ []) 2 1, refl),
      (refl, refl),
      ((refl, has_some-pairs [] 2, one_target three_processes 2 1 refl one_not_two (omega arith)), (refl, refl), tt),
    ),
  ),
)

-- 2 waits again
pub blocked_again : is_blocked (value three_processes 2 granted_before_the_probe) 2 ≡ true
blocked_again = has_some-pairs ((2, 1) ∷ []) 2

-- but owes nothing
pub probe_is_ignored : probe_acts (value three_processes 2 granted_before_the_probe) 1 1 2 ≡ false
probe_is_ignored = acts_is (value three_processes 2 granted_before_the_probe) 1 1 2 true false false blocked_again (has-pairs [] 2 1) (has-without_same (pairs ((3, 1) ∷ (2, 1) ∷ [])) 2 1)

-- ---- a process that becomes active

-- the probe acts while 2 waits for 3
pub acts_here : probe_acts (state_with ((2, 3) ∷ []) ((2, 1) ∷ (3, 2) ∷ []) [] []) 1 1 2 ≡ true
acts_here = acts_is (state_with ((2, 3) ∷ []) ((2, 1) ∷ (3, 2) ∷ []) [] []) 1 1 2 true false true (has_some-pairs ((2, 3) ∷ []) 2) (has-pairs [] 2 1) (has-pairs ((2, 1) ∷ (3, 2) ∷ []) 2 1)

-- and leaves a mark
pub value_is : value three_processes 2 marked_by_the_probe ≡ state_with ((2, 3) ∷ []) ((2, 1) ∷ (3, 2) ∷ []) ((2, 1) ∷ []) []
value_is = ap (λ z. if z then state_with ((2, 3) ∷ []) ((2, 1) ∷ (3, 2) ∷ []) ((2, 1) ∷ []) [] else state_with ((2, 3) ∷ []) ((2, 1) ∷ (3, 2) ∷ []) [] []) acts_here

-- 1 is known to depend on 2
pub is_marked : has (value three_processes 2 marked_by_the_probe).dependents 2 1 ≡ true
is_marked = ap (λ v. has v.dependents 2 1) value_is ∙ has-pairs ((2, 1) ∷ []) 2 1

-- and is not, once 3 has granted
pub is_forgotten : has (after three_processes 2 (value three_processes 2 marked_by_the_probe) (Reply 3 2) None).dependents 2 1 ≡ false
is_forgotten =
    ap (λ v. has (after three_processes 2 v (Reply 3 2) None).dependents 2 1) value_is
    ∙ has-only (pairs ((2, 1) ∷ [])) (λ k. not (has_some (pairs ((2, 3) ∷ [])) k && not (has_some (without_pair (pairs ((2, 3) ∷ [])) 2 3) k))) 2 1
    ∙ (λ n. has-pairs ((2, 1) ∷ []) 2 1 n && not (has_some-pairs ((2, 3) ∷ []) 2 n && not (no_more_waits 2 3 n)))

-- ---- what is refused

-- a blocked process does not reply
pub no_reply_of_blocked : Accepts (one_site One) 1 (state_of (one_site One) 1 wait_for_each_other) (Reply 1 2) → ⊥
no_reply_of_blocked accepted = true≢false (sym both_blocked ∙ accepted.1)

-- nor ask
pub no_ask_of_blocked : Accepts (one_site One) 1 (state_of (one_site One) 1 wait_for_each_other) (Ask 1 (2 ∷ [])) → ⊥
no_ask_of_blocked accepted = true≢false (sym both_blocked ∙ accepted.1)

-- what came is no beginning of what was sent
pub not_overtaken : IsRun three_processes overtaken → ⊥
not_overtaken run =
    let begins = run.in_order overtaken ([], refl) 1 2 in
    let first : Request (1, 3) ≡ Request (1, 2) = cc begins.1 in
    true≢false (ap (is_request 1 3) first)

-- ---- what holds of every link and site

-- the site of both asks sends nothing and gets nothing
pub one_site_drained : IsDrained declared_at_ask
one_site_drained a b = got (1 == b) ∙ sym (sent (1 == a))
  where
    got : (c : Bool) → receipts_of a (if c then silent (Ask 1 (2 ∷ [])) ∷ (if c then outcome (Ask 2 (1 ∷ [])) [] (Some 2) ∷ [] else []) else (if c then outcome (Ask 2 (1 ∷ [])) [] (Some 2) ∷ [] else [])) ≡ []
    got true = refl
    got false = refl

    sent : (c : Bool) → sendings_of b (if c then silent (Ask 1 (2 ∷ [])) ∷ (if c then outcome (Ask 2 (1 ∷ [])) [] (Some 2) ∷ [] else []) else (if c then outcome (Ask 2 (1 ∷ [])) [] (Some 2) ∷ [] else [])) ≡ []
    sent true = refl
    sent false = refl

-- a site's entries where it is site 1, site 2 or another
abbrev asks_of : Bool → Bool → List Entry
asks_of c d =
    let fourth : List Entry = if c then silent (Got 2 (Request (2, 1))) ∷ [] else [] in
    let third : List Entry = if d then silent (Got 1 (Request (1, 2))) ∷ fourth else fourth in
    let second : List Entry = if d then outcome (Ask 2 (1 ∷ [])) ((1, Request (2, 1)) ∷ []) None ∷ third else third in
    if c then outcome (Ask 1 (2 ∷ [])) ((2, Request (1, 2)) ∷ []) None ∷ second else second

-- a stop after each site's first ask has no receipts
pub stops_after_asks : IsConsistent (λ s. 1) ask_each_other
stops_after_asks a b = subst (λ z. length z ≤ length (sendings_of b (take 1 (entries_of a ask_each_other)))) (sym (none (1 == b) (2 == b))) (omega arith)
  where
    none : (c d : Bool) → receipts_of a (take 1 (asks_of c d)) ≡ []
    none true d = refl
    none false true = refl
    none false false = refl

-- site 2 has got a frame, and site 1 has sent none
pub stops_before_the_sending : IsConsistent (λ s. if s == 2 then 2 else 0) ask_each_other → ⊥
stops_before_the_sending consistent = omega (arith, consistent 1 2)

-- What a delivery does at one site: what it sends, and which marks it leaves.
use Rattle.std.proofs.Common.{◌≡◌, ℕ, ◌+◌, ◌*◌, ◌≤◌, Bool, true, false, not, ◌&&◌, ◌||◌, List, [], ◌∷◌, ◌==◌, map, length, if◌then◌else◌, refl, sym, ap, ◌∙◌, inl, inr, true≢false, Option, Some, IsSome, arith, sum_by, is_some}
use Rattle.std.specs.List.{list_any}
use Rattle.std.proofs.lemmas.Bool.{cases_eq, or_left, or_right, eq-eqb, and_parts, MatchBool-at_true, MatchBool-at_false}
use Rattle.std.proofs.lemmas.List.Folds.{list_any-append}
use Rattle.std.proofs.lemmas.List.Sums.{sum_by-cons}
use Rattle.cmh_frames.specs.declared.frame.Frame.{Frame}
use Rattle.cmh_frames.specs.declared.frame.Frame.TheVariants.{Request, Reply as Reply_frame, Probe}
use Rattle.cmh_frames.specs.Edition.{target_limit}
use Rattle.cmh_frames.specs.Topology.{Topology, IsWellFormed, home, home_in, At, sites_of, members_of, site_of}
use Rattle.cmh_frames.specs.Rows.{all_members}
use Rattle.cmh_frames.specs.declared.event.Event.TheVariants.{Got}
use Rattle.cmh_frames.specs.Relation.{IsNarrow, has, with_pair}
use Rattle.cmh_frames.specs.State.{State}
use Rattle.cmh_frames.specs.Rules.{Sends, IsAscending, after, probe_acts}
use Rattle.cmh_frames.specs.Journals.{frames_to}
use Rattle.cmh_frames.specs.Laws.{bit, count_of}
use Rattle.cmh_frames.specs.Settling.{is_any_reply}
use Rattle.cmh_frames.proofs.Apart.{some_same}
use Rattle.cmh_frames.proofs.Few.{few_probes}
use Rattle.cmh_frames.proofs.Pairs.{has-with_same, has-with_kept}
use Rattle.cmh_frames.proofs.Places.{if-dependents}
use Rattle.cmh_frames.proofs.Sent.{to_yes, to_no}
use Rattle.cmh_frames.proofs.Sums.{On, sum-same, sum-add, sum-one}

-- ---- sites and processes of the topology

site_in_rows : (rows : List (ℕ × List ℕ)) (p s : ℕ) → home_in rows p ≡ Some s → On (map (λ (row : ℕ × List ℕ). row.0) rows) s
site_in_rows [] p s h = absurd (true≢false (sym (ap is_some h)))
site_in_rows (row ∷ rows) p s h = go (list_any (λ q. q == p) row.1) h (site_in_rows rows p s)
  where
    go : (b : Bool) → (if b then Some row.0 else home_in rows p) ≡ Some s → (home_in rows p ≡ Some s → On (map (λ (row : ℕ × List ℕ). row.0) rows) s) → On (row.0 ∷ map (λ (row : ℕ × List ℕ). row.0) rows) s
    go true h more = or_left (row.0 == s) (list_any (λ q. q == s) (map (λ (row : ℕ × List ℕ). row.0) rows)) (eq-eqb row.0 s (some_same h))
    go false h more = or_right (row.0 == s) (list_any (λ q. q == s) (map (λ (row : ℕ × List ℕ). row.0) rows)) (more h)

-- the home of a process is one of the sites
pub site_listed : (t : Topology) (p s : ℕ) → At t p s → On (sites_of t) s
site_listed t p s h = site_in_rows t.rows p s h

member_in_rows : (rows : List (ℕ × List ℕ)) (p : ℕ) → IsSome (home_in rows p) → On (all_members rows) p
member_in_rows [] p h = absurd (true≢false (sym h))
member_in_rows (row ∷ rows) p h = list_any-append (λ q. q == p) row.1 (all_members rows) ∙ go (list_any (λ q. q == p) row.1) h (member_in_rows rows p)
  where
    go : (b : Bool) → IsSome (if b then Some row.0 else home_in rows p) → (IsSome (home_in rows p) → On (all_members rows) p) → (b || list_any (λ q. q == p) (all_members rows)) ≡ true
    go true h more = refl
    go false h more = more h

-- a known process is one of the processes
pub member_listed : (t : Topology) (p : ℕ) → IsSome (home t p) → On (all_members t.rows) p
member_listed t p h = member_in_rows t.rows p h

-- ---- how many frames are sent to all sites together

-- what counts among frames with their sites
abbrev pub count_sent_all : (Frame → Bool) → List (ℕ × Frame) → ℕ
count_sent_all test sent = count_of (λ (x : ℕ × Frame). test x.1) sent

none_to_count : (test : Frame → Bool) (sites : List ℕ) → sum_by (λ b. count_of test (frames_to b [])) sites ≡ 0
none_to_count test [] = refl
none_to_count test (s ∷ sites) = let a = sum_by-cons (λ b. count_of test (frames_to b [])) s sites in let more = none_to_count test sites in omega arith

-- each frame goes to one site
pub sent_within : (test : Frame → Bool) (sites : List ℕ) → IsAscending sites → (sent : List (ℕ × Frame)) → sum_by (λ b. count_of test (frames_to b sent)) sites ≤ count_sent_all test sent
sent_within test sites up [] = let none = none_to_count test sites in omega arith
sent_within test sites up (x ∷ xs) =
    let each : sum_by (λ b. count_of test (frames_to b (x ∷ xs))) sites ≡ sum_by (λ b. count_of test (frames_to b (x ∷ []))) sites + sum_by (λ b. count_of test (frames_to b xs)) sites =
    sum-same (λ b. count_of test (frames_to b (x ∷ xs))) (λ b. count_of test (frames_to b (x ∷ [])) + count_of test (frames_to b xs)) sites one_more
    ∙ sum-add (λ b. count_of test (frames_to b (x ∷ []))) (λ b. count_of test (frames_to b xs)) sites in
    let here : sum_by (λ b. count_of test (frames_to b (x ∷ []))) sites ≤ bit (test x.1) =
    sum-one (λ b. count_of test (frames_to b (x ∷ []))) (bit (test x.1)) x.0 sites up (λ b n. ap (count_of test) (to_no b x.0 x.1 [] n)) (let is = ap (count_of test) (to_yes x.0 x.0 x.1 [] refl) in omega arith) in
    let more = sent_within test sites up xs in
    omega arith
  where
    one_more : (b : ℕ) → count_of test (frames_to b (x ∷ xs)) ≡ count_of test (frames_to b (x ∷ [])) + count_of test (frames_to b xs)
    one_more b = elim (cases_eq x.0 b) [
      | inl e ↦ let l = ap (count_of test) (to_yes b x.0 x.1 xs e) in let r = ap (count_of test) (to_yes b x.0 x.1 [] e) in omega arith
      | inr n ↦ let l = ap (count_of test) (to_no b x.0 x.1 xs n) in let r = ap (count_of test) (to_no b x.0 x.1 [] n) in omega arith
    ]

-- all frames count where all pass
pub count_all : (sent : List (ℕ × Frame)) → count_sent_all (λ f. true) sent ≡ length sent
count_all [] = refl
count_all (x ∷ xs) = let more = count_all xs in omega arith

-- probes are no replies
probes_no_replies : (t : Topology) (origin : ℕ) (edges : List (ℕ × ℕ)) → count_sent_all is_any_reply (map (λ (edge : ℕ × ℕ). (site_of t edge.1, Probe (origin, edge.0, edge.1))) edges) ≡ 0
probes_no_replies t origin [] = refl
probes_no_replies t origin (x ∷ xs) = let more = probes_no_replies t origin xs in omega arith

module _ (t : Topology) (s : ℕ) (v : State) (a : ℕ) where
  -- a probe that does not act sends nothing
  pub ignored_sends_nothing : (o f to : ℕ) (sent : List (ℕ × Frame)) (d : Option ℕ) → probe_acts v o f to ≡ false → Sends t s v (Got a (Probe (o, f, to))) sent d → sent ≡ []
  ignored_sends_nothing o f to sent d e sends = (MatchBool-at_false _ _ e sends).0

  -- one that acts sends probes, and not too many
  pub acting_sends_few : (o f to : ℕ) (sent : List (ℕ × Frame)) (d : Option ℕ) → IsWellFormed t → IsNarrow (target_limit t.edition) v.waits → probe_acts v o f to ≡ true → Sends t s v (Got a (Probe (o, f, to))) sent d
      → (length sent ≤ length (members_of t s) * target_limit t.edition) × (count_sent_all is_any_reply sent ≡ 0)
  acting_sends_few o f to sent d formed narrow e sends = elim (MatchBool-at_true _ _ e sends) [
    | inl x ↦ (let none = ap length x.1 in omega arith, ap (count_sent_all is_any_reply) x.1)
    | inr x ↦ (few_probes t s v.waits (target_limit t.edition) o to sent formed narrow x.1, ap (count_sent_all is_any_reply) x.1.are ∙ probes_no_replies t o x.1.edges)
  ]

  -- ---- marks

  abbrev probe_dependents : (o f to : ℕ) (d : Option ℕ) → (after t s v (Got a (Probe (o, f, to))) d).dependents ≡ (if probe_acts v o f to then with_pair v.dependents to o else v.dependents)
  probe_dependents o f to d = if-dependents (probe_acts v o f to) _ _

  -- a probe takes no mark away
  probe_keeps : (o f to : ℕ) (d : Option ℕ) (k i : ℕ) → has v.dependents k i ≡ true → has (after t s v (Got a (Probe (o, f, to))) d).dependents k i ≡ true
  probe_keeps o f to d k i h = ap (λ r. has r k i) (probe_dependents o f to d) ∙ go (probe_acts v o f to)
    where
      go : (b : Bool) → has (if b then with_pair v.dependents to o else v.dependents) k i ≡ true
      go true = has-with_kept v.dependents to o k i h
      go false = h

  -- nor does any frame but a reply
  pub no_reply_keeps : (f : Frame) (d : Option ℕ) (k i : ℕ) → is_any_reply f ≡ false → has v.dependents k i ≡ true → has (after t s v (Got a f) d).dependents k i ≡ true
  no_reply_keeps (Request (x, y)) d k i none h = h
  no_reply_keeps (Reply_frame (x, y)) d k i none h = absurd (true≢false none)
  no_reply_keeps (Probe (o, f, to)) d k i none h = probe_keeps o f to d k i h

  -- a probe that acts makes a mark where there was none
  pub acting_marks : (o f to : ℕ) (d : Option ℕ) → probe_acts v o f to ≡ true → (has v.dependents to o ≡ false) × (has (after t s v (Got a (Probe (o, f, to))) d).dependents to o ≡ true)
  acting_marks o f to d e =
      let parts = and_parts _ (not (has v.dependents to o) && has v.owed to f) e in (
        not_true (has v.dependents to o) (and_parts (not (has v.dependents to o)) (has v.owed to f) parts.1).0,
        ap (λ r. has r to o) (probe_dependents o f to d) ∙ ap (λ b. has (if b then with_pair v.dependents to o else v.dependents) to o) e ∙ has-with_same v.dependents to o,
      )
    where
      not_true : (b : Bool) → not b ≡ true → b ≡ false
      not_true true h = sym h
      not_true false h = refl

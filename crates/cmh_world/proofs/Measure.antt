-- A measure of what is under way and of the marks that can still be made. Each delivery makes it less.
use Rattle.std.proofs.Common.{◌≡◌, ◌≢◌, ℕ, ◌+◌, ◌*◌, ◌≤◌, Bool, true, false, List, [], length, refl, sym, ap, ◌∙◌, subst, inl, inr, true≢false, IsSome, arith, mul-le-mul_right, sum_by}
use Rattle.std.proofs.lemmas.Bool.{cases_Bool, cases_eq}
use Rattle.cmh_frames.specs.declared.frame.Frame.{Frame}
use Rattle.cmh_frames.specs.declared.frame.Frame.TheVariants.{Request, Reply as Reply_frame, Probe}
use Rattle.cmh_frames.specs.Edition.{target_limit}
use Rattle.cmh_frames.specs.Topology.{Topology, IsWellFormed, sites_of, members_of, site_of}
use Rattle.cmh_frames.specs.Rows.{all_members}
use Rattle.cmh_frames.specs.declared.event.Event.{Event}
use Rattle.cmh_frames.specs.declared.event.Event.TheVariants.{Ask, Reply, Start, Got}
use Rattle.cmh_frames.specs.Entries.{WorldEvent}
use Rattle.cmh_frames.specs.Relation.{IsNarrow, has}
use Rattle.cmh_frames.specs.Rules.{Accepts, Sends, IsAscending, after, probe_acts}
use Rattle.cmh_frames.specs.Journals.{frames_to, frame_from}
use Rattle.cmh_frames.specs.Laws.{bit, count_of}
use Rattle.cmh_frames.specs.Settling.{is_any_reply, is_delivery, waits_beside, most_probes}
use Rattle.cmh_frames.proofs.Ascending.{ascending_increasing}
use Rattle.cmh_frames.proofs.Deliveries.{site_listed, member_listed, count_sent_all, sent_within, count_all, ignored_sends_nothing, acting_sends_few, no_reply_keeps, acting_marks}
use Rattle.cmh_frames.proofs.Journals.{sent_on, got_on}
use Rattle.cmh_frames.proofs.Places.{frame_from-yes, site_of-at}
use Rattle.cmh_frames.proofs.Sums.{On, sum_pairs, pairs_flow, pairs_le, pairs_less, pairs_has, pairs_most, sum-same, sum-most, sum-one, lack, lack_le, lack_most}
use Rattle.cmh_world.proofs.World.{World, Step, link_count}
use Rattle.cmh_world.proofs.Kept.{sent_yes, sent_no, got_yes}

-- the frames under way between sites that pass the test
abbrev pub frames_left : Topology → (Frame → Bool) → World → ℕ
frames_left t test w = sum_pairs (λ a b. count_of test (w.queue a b)) (sites_of t)

-- the probes that can go on from k for i: none where i is known to depend on k
abbrev pub open_probes : Topology → World → ℕ → ℕ → ℕ
open_probes t w k i = lack (has (w.value (site_of t k)).dependents k i) (waits_beside t k)

-- the probes that can go on from some process
abbrev pub still_open : Topology → World → ℕ
still_open t w = sum_pairs (open_probes t w) (all_members t.rows)

-- the frames under way, the probes that can go on, and for each reply under way those that can go on where all dependents are forgotten
abbrev pub measure : Topology → World → ℕ
measure t w = frames_left t (λ f. true) w + (still_open t w + frames_left t is_any_reply w * most_probes t)

-- no more can go on than where nobody is known to depend on anybody
pub open_few : (t : Topology) (w : World) → still_open t w ≤ most_probes t
open_few t w = pairs_most (open_probes t w) (waits_beside t) (all_members t.rows) (λ k i. lack_most (has (w.value (site_of t k)).dependents k i) (waits_beside t k))

-- a delivery is the receipt of a frame
pub delivery_is : (ev : Event) → is_delivery ev ≡ true → (a : ℕ) × (f : Frame) × (ev ≡ Got a f)
delivery_is (Ask x y) h = absurd (true≢false (sym h))
delivery_is (Reply x y) h = absurd (true≢false (sym h))
delivery_is (Start x) h = absurd (true≢false (sym h))
delivery_is (Got a f) h = (a, f, refl)

-- an accepted frame comes from a site to a site
got_sites : (t : Topology) (w : World) (s a : ℕ) (f : Frame) → Accepts t s (w.value s) (Got a f) → On (sites_of t) a × On (sites_of t) s
got_sites t w s a (Request (x, y)) acc = (site_listed t x a acc.1, site_listed t y s acc.2)
got_sites t w s a (Reply_frame (x, y)) acc = (site_listed t x a acc.1, site_listed t y s acc.2)
got_sites t w s a (Probe (o, x, y)) acc = (site_listed t x a acc.1, site_listed t y s acc.2)

-- how the measure falls: where a reply came, and where another frame did
pub times_one_more : (a p : ℕ) → (a + 1) * p ≡ a * p + p
times_one_more a p = omega arith

reply_falls : (f f' u u' a a' p : ℕ) → f' + 1 ≤ f → u' ≤ p → a' + 1 ≤ a → f' + (u' + a' * p) + 1 ≤ f + (u + a * p)
reply_falls f f' u u' a a' p less few fewer =
    let product = mul-le-mul_right p fewer in
    let one_more : (a' + 1) * p ≡ a' * p + p = times_one_more a' p in
    omega arith

other_falls : (f f' l u u' a a' p : ℕ) → f' + 1 ≤ f + l → u' + l ≤ u → a' ≤ a → f' + (u' + a' * p) + 1 ≤ f + (u + a * p)
other_falls f f' l u u' a a' p less fewer same =
    let product = mul-le-mul_right p same in
    omega arith

module _ (t : Topology) (formed : IsWellFormed t) (w : World) (e : WorldEvent) (n : World) (st : Step t w e n) (narrow : IsNarrow (target_limit t.edition) (w.value e.site).waits) where
  up : IsAscending (sites_of t)
  up = ascending_increasing (sites_of t) formed.sites_ascend

  -- what is sent counts once at most
  sent_few : (test : Frame → Bool) → sum_pairs (λ a b. count_of test (sent_on a b e)) (sites_of t) ≤ count_sent_all test e.entry.sent
  sent_few test =
      sum-one (λ a. sum_by (λ b. count_of test (sent_on a b e)) (sites_of t)) (count_sent_all test e.entry.sent) e.site (sites_of t) up
      (λ a far. none_of a far (sites_of t))
      (let few = sent_within test (sites_of t) up e.entry.sent in let same = here (sites_of t) in omega arith)
    where
      here : (sites : List ℕ) → sum_by (λ b. count_of test (sent_on e.site b e)) sites ≡ sum_by (λ b. count_of test (frames_to b e.entry.sent)) sites
      here sites = sum-same (λ b. count_of test (sent_on e.site b e)) (λ b. count_of test (frames_to b e.entry.sent)) sites (λ b. ap (count_of test) (sent_yes e.site b e refl))

      zeros : (sites : List ℕ) → sum_by (λ b. 0) sites ≡ 0
      zeros sites = let most = sum-most (λ b. 0) 0 sites (λ b. omega arith) in omega arith

      none_of : (a : ℕ) → e.site ≢ a → (sites : List ℕ) → sum_by (λ b. count_of test (sent_on a b e)) sites ≡ 0
      none_of a far sites = sum-same (λ b. count_of test (sent_on a b e)) (λ b. 0) sites (λ b. ap (count_of test) (sent_no a b e far)) ∙ zeros sites

  -- frames flow: what is under way afterwards and the frame that came are no more than what was under way and what was sent
  flow : (test : Frame → Bool) (a : ℕ) (f : Frame) → e.entry.event ≡ Got a f → frames_left t test n + bit (test f) ≤ frames_left t test w + count_sent_all test e.entry.sent
  flow test a f is =
      let sites = got_sites t w e.site a f (subst (Accepts t e.site (w.value e.site)) is st.accepted) in
      let all = pairs_flow (λ a b. count_of test (w.queue a b)) (λ a b. count_of test (sent_on a b e)) (λ a b. count_of test (got_on a b e)) (λ a b. count_of test (n.queue a b)) (sites_of t) (λ a b. link_count t w e n st test a b) in
      let sent = sent_few test in
      let got = pairs_has (λ a b. count_of test (got_on a b e)) (sites_of t) a e.site sites.0 sites.1 in
      let one : count_of test (got_on a e.site e) ≡ bit (test f) + 0 = ap (count_of test) (got_yes a e.site e refl ∙ ap (frame_from a) is ∙ frame_from-yes a a f refl) in
      omega arith

  -- marks at all sites after a frame that is no reply
  marks_stay : (a : ℕ) (f : Frame) → e.entry.event ≡ Got a f → is_any_reply f ≡ false → (b k i : ℕ) → has (w.value b).dependents k i ≡ true → has (n.value b).dependents k i ≡ true
  marks_stay a f is none b k i h = elim (cases_eq e.site b) [
    | inl at ↦
        subst (λ z. has (n.value z).dependents k i ≡ true) at
        (ap (λ v. has v.dependents k i) st.here ∙ ap (λ ev. has (after t e.site (w.value e.site) ev e.entry.declared).dependents k i) is
        ∙ no_reply_keeps t e.site (w.value e.site) a f e.entry.declared k i none (subst (λ z. has (w.value z).dependents k i ≡ true) (sym at) h))
    | inr far ↦ ap (λ v. has v.dependents k i) (st.elsewhere b (λ z. far (sym z))) ∙ h
  ]

  -- after it no more can go on
  opens_none : (a : ℕ) (f : Frame) → e.entry.event ≡ Got a f → is_any_reply f ≡ false → still_open t n ≤ still_open t w
  opens_none a f is none =
      pairs_le (open_probes t n) (open_probes t w) (all_members t.rows)
      (λ k i. lack_le (has (w.value (site_of t k)).dependents k i) (has (n.value (site_of t k)).dependents k i) (waits_beside t k) (marks_stay a f is none (site_of t k) k i))

  -- and after a probe that acts those from its receiver can't
  acting_closes : (a o f to : ℕ) → e.entry.event ≡ Got a (Probe (o, f, to)) → probe_acts (w.value e.site) o f to ≡ true → still_open t n + waits_beside t to ≤ still_open t w
  acting_closes a o f to is acts =
      pairs_less (open_probes t n) (open_probes t w) (waits_beside t to) (all_members t.rows) to o
      (λ k i. lack_le (has (w.value (site_of t k)).dependents k i) (has (n.value (site_of t k)).dependents k i) (waits_beside t k) (marks_stay a (Probe (o, f, to)) is refl (site_of t k) k i))
      (member_listed t to (subst IsSome (sym acc.2) refl))
      (member_listed t o acc.3)
      (let was = ap (λ z. lack z (waits_beside t to)) old in let now = ap (λ z. lack z (waits_beside t to)) new in omega arith)
    where
      acc : Accepts t e.site (w.value e.site) (Got a (Probe (o, f, to)))
      acc = subst (Accepts t e.site (w.value e.site)) is st.accepted

      site : site_of t to ≡ e.site
      site = site_of-at t to e.site acc.2

      old : has (w.value (site_of t to)).dependents to o ≡ false
      old = ap (λ z. has (w.value z).dependents to o) site ∙ (acting_marks t e.site (w.value e.site) a o f to e.entry.declared acts).0

      new : has (n.value (site_of t to)).dependents to o ≡ true
      new =
          ap (λ z. has (n.value z).dependents to o) site ∙ ap (λ v. has v.dependents to o) st.here
          ∙ ap (λ ev. has (after t e.site (w.value e.site) ev e.entry.declared).dependents to o) is ∙ (acting_marks t e.site (w.value e.site) a o f to e.entry.declared acts).1

  -- the measure falls where a frame that is no reply comes and nothing is sent
  silent : (a : ℕ) (f : Frame) → e.entry.event ≡ Got a f → is_any_reply f ≡ false → e.entry.sent ≡ [] → measure t n + 1 ≤ measure t w
  silent a f is none nothing =
      let frames = flow (λ f. true) a f is in
      let replies = flow is_any_reply a f is in
      let no_frames = ap (count_sent_all (λ f. true)) nothing in
      let no_replies = ap (count_sent_all is_any_reply) nothing in
      let fewer = opens_none a f is none in
      other_falls (frames_left t (λ f. true) w) (frames_left t (λ f. true) n) 0 (still_open t w) (still_open t n) (frames_left t is_any_reply w) (frames_left t is_any_reply n) (most_probes t)
      (omega arith) (omega arith) (omega arith)

  -- the measure falls at the receipt of a frame
  got_falls : (a : ℕ) (f : Frame) → e.entry.event ≡ Got a f → Sends t e.site (w.value e.site) (Got a f) e.entry.sent e.entry.declared → measure t n + 1 ≤ measure t w
  got_falls a (Request (x, y)) is sends = silent a (Request (x, y)) is refl sends.0
  got_falls a (Reply_frame (x, y)) is sends =
      let frames = flow (λ f. true) a (Reply_frame (x, y)) is in
      let replies = flow is_any_reply a (Reply_frame (x, y)) is in
      let no_frames = ap (count_sent_all (λ f. true)) sends.0 in
      let no_replies = ap (count_sent_all is_any_reply) sends.0 in
      reply_falls (frames_left t (λ f. true) w) (frames_left t (λ f. true) n) (still_open t w) (still_open t n) (frames_left t is_any_reply w) (frames_left t is_any_reply n) (most_probes t)
      (omega arith) (open_few t n) (omega arith)
  got_falls a (Probe (o, f, to)) is sends = elim (cases_Bool (probe_acts (w.value e.site) o f to)) [
    | inl acts ↦
        let frames = flow (λ f. true) a (Probe (o, f, to)) is in
        let replies = flow is_any_reply a (Probe (o, f, to)) is in
        let few = acting_sends_few t e.site (w.value e.site) a o f to e.entry.sent e.entry.declared formed narrow acts sends in
        let all = count_all e.entry.sent in
        let site = ap (λ z. length (members_of t z) * target_limit t.edition) (site_of-at t to e.site (subst (Accepts t e.site (w.value e.site)) is st.accepted).2) in
        let most = few.0 in
        let no_replies = few.1 in
        other_falls (frames_left t (λ f. true) w) (frames_left t (λ f. true) n) (waits_beside t to) (still_open t w) (still_open t n) (frames_left t is_any_reply w) (frames_left t is_any_reply n) (most_probes t)
        (omega arith) (acting_closes a o f to is acts) (omega arith)
    | inr not_acts ↦ silent a (Probe (o, f, to)) is refl (ignored_sends_nothing t e.site (w.value e.site) a o f to e.entry.sent e.entry.declared not_acts sends)
  ]

  -- each delivery makes the measure less
  pub falls : is_delivery e.entry.event ≡ true → measure t n + 1 ≤ measure t w
  falls h = let got = delivery_is e.entry.event h in got_falls got.0 got.1 got.2 (subst (λ ev. Sends t e.site (w.value e.site) ev e.entry.sent e.entry.declared) got.2 st.sends)

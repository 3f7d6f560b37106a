-- The state of a world, one event of it, and what holds at every moment.
use Rattle.std.proofs.Common.{◌≡◌, ◌≢◌, ℕ, ◌+◌, Bool, true, not, ◌&&◌, ◌||◌, List, [], ◌∷◌, ◌++◌, sym, ap, ◌∙◌, subst, arith}
use Rattle.cmh_frames.specs.declared.frame.Frame.{Frame}
use Rattle.cmh_frames.specs.declared.frame.Frame.TheVariants.{Probe}
use Rattle.cmh_frames.specs.Entries.{WorldEvent}
use Rattle.cmh_frames.specs.Topology.{Topology, At}
use Rattle.cmh_frames.specs.Relation.{has}
use Rattle.cmh_frames.specs.State.{State, is_blocked}
use Rattle.cmh_frames.specs.Rules.{Accepts, Sends, after}
use Rattle.cmh_frames.specs.Paths.{IsPath}
use Rattle.cmh_frames.specs.Waits.{asks_for, grants}
use Rattle.cmh_frames.specs.Laws.{bit, count_of, is_request, is_reply}
use Rattle.cmh_frames.proofs.Pairs.{has_some-from}
use Rattle.cmh_frames.proofs.Bits.{bit_one, bit_at_most}
use Rattle.cmh_frames.proofs.Journals.{sent_on, got_on}
use Rattle.cmh_frames.proofs.Places.{count-append}
use Rattle.cmh_frames.proofs.PathLemmas.{LeadsTo}

-- each site's state, what is under way on each link, and who waits for whom
pub record World : Type 0 where
  pub value : ℕ → State  -- of a site
  pub queue : ℕ → ℕ → List Frame  -- of the link from one site to another
  pub wait : ℕ → ℕ → Bool  -- of one process for another, by asks and replies

-- an event of the site that leads from one world to the next
pub record Step (t : Topology) (w : World) (e : WorldEvent) (n : World) : Type 0 where
  -- the rules accept it at its site, and give what is recorded
  pub accepted : Accepts t e.site (w.value e.site) e.entry.event
  pub sends : Sends t e.site (w.value e.site) e.entry.event e.entry.sent e.entry.declared
  -- its site goes on by the rules, and the others stay
  pub here : n.value e.site ≡ after t e.site (w.value e.site) e.entry.event e.entry.declared
  pub elsewhere : (a : ℕ) → a ≢ e.site → n.value a ≡ w.value a
  -- what is sent goes to the ends of the links, and what is got comes from their fronts
  pub links : (a b : ℕ) → w.queue a b ++ sent_on a b e ≡ got_on a b e ++ n.queue a b
  -- an ask begins a wait and a reply ends it
  pub waits : (j k : ℕ) → n.wait j k ≡ (asks_for j k e.entry.event || (not (grants k j e.entry.event) && w.wait j k))

-- on each link, what was under way and what is sent is what is got and what is under way then
pub link_count : (t : Topology) (w : World) (e : WorldEvent) (n : World) → Step t w e n → (p : Frame → Bool) (a b : ℕ) → count_of p (w.queue a b) + count_of p (sent_on a b e) ≡ count_of p (got_on a b e) + count_of p (n.queue a b)
link_count t w e n st p a b = sym (count-append p (w.queue a b) (sent_on a b e)) ∙ ap (count_of p) (st.links a b) ∙ count-append p (got_on a b e) (n.queue a b)

-- p waits for q
abbrev pub Waiting : World → ℕ → ℕ → Type 0
Waiting w p q = w.wait p q ≡ true

-- of j at a and k at b: the wait that j keeps is under way as a request, owed, or under way as a reply, once; and it stands until the reply is made
abbrev pub EachWait : World → ℕ → ℕ → ℕ → ℕ → Type 0
EachWait w a b j k =
    (count_of (is_request j k) (w.queue a b) + bit (has (w.value b).owed k j) + count_of (is_reply k j) (w.queue b a) ≡ bit (has (w.value a).waits j k))
    × (bit (w.wait j k) ≡ count_of (is_request j k) (w.queue a b) + bit (has (w.value b).owed k j))

-- a probe on the link from a to b
abbrev pub ProbeFits : Topology → World → ℕ → ℕ → ℕ → ℕ → ℕ → List Frame → Type 0
ProbeFits t w a b i j k behind =
    (a ≢ b) × At t j a × At t k b × (Waiting w j k → count_of (is_request j k) behind ≡ 0 → (members : List ℕ) × IsPath (Waiting w) i members j)

-- what holds of a world at every moment of a run
pub record Invariant (t : Topology) (w : World) : Type 0 where
  pub own_link : (a : ℕ) → w.queue a a ≡ []  -- no frame goes to the own site
  -- each wait is at just one of its three places
  pub each : (a b j k : ℕ) → At t j a → At t k b → EachWait w a b j k
  -- who waits, and is waited for, is known
  pub known : (j k : ℕ) → Waiting w j k → ((a : ℕ) × At t j a) × ((b : ℕ) × At t k b)
  -- a dependent waits for a blocked process through others
  pub dependents : (b k i : ℕ) → has (w.value b).dependents k i ≡ true → At t k b × (is_blocked (w.value b) k ≡ true) × LeadsTo (Waiting w) i k
  -- a probe whose wait stands has a path behind it
  pub probes : (a b i j k : ℕ) (earlier behind : List Frame) → w.queue a b ≡ earlier ++ Probe (i, j, k) ∷ behind → ProbeFits t w a b i j k behind

module _ (t : Topology) (w : World) (inv : Invariant t w) where
  -- p is blocked at its site
  abbrev pub BlockedAt : ℕ → Type 0
  BlockedAt p = (a : ℕ) × At t p a × (is_blocked (w.value a) p ≡ true)

  -- who waits is blocked
  pub wait_blocks : (j k : ℕ) → Waiting w j k → BlockedAt j
  wait_blocks j k h =
      let at = inv.known j k h in
      let both = inv.each at.0.0 at.1.0 j k at.0.1 at.1.1 in
      let one = ap bit h in
      let least = bit_at_most (has (w.value at.0.0).waits j k) in
      let is : bit (has (w.value at.0.0).waits j k) ≡ 1 = omega arith in
      (at.0.0, at.0.1, has_some-from (w.value at.0.0).waits j k (bit_one (has (w.value at.0.0).waits j k) 0 is))

  -- on a path to a blocked process everyone is blocked
  pub path_blocks : (p : ℕ) (members : List ℕ) (q : ℕ) → IsPath (Waiting w) p members q → BlockedAt q → BlockedAt p
  path_blocks p [] q h b = subst BlockedAt (sym h) b
  path_blocks p (x ∷ xs) q h b = wait_blocks p x h.0

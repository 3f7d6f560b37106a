-- Deliveries: a run that goes on by them, how many can follow it, and what they come to.
use Rattle.std.specs.Prelude.{◌≡◌, ℕ, ◌+◌, ◌*◌, ◌≤◌, Bool, true, false, ◌↔◌, List, [], ◌∷◌, ◌++◌, length}
use Rattle.std.specs.List.{AllByRecursion, sum_by}
use Rattle.cmh_frames.specs.declared.frame.Frame.{Frame}
use Rattle.cmh_frames.specs.declared.frame.Frame.TheVariants.{Reply as Reply_frame}
use Rattle.cmh_frames.specs.Edition.{target_limit}
use Rattle.cmh_frames.specs.Topology.{Topology, sites_of, members_of, site_of}
use Rattle.cmh_frames.specs.Rows.{all_members}
use Rattle.cmh_frames.specs.declared.event.Event.{Event}
use Rattle.cmh_frames.specs.declared.event.Event.TheVariants.{Got}
use Rattle.cmh_frames.specs.Entries.{WorldEvent}
use Rattle.cmh_frames.specs.Runs.{under_way, IsRun, IsDrained}
use Rattle.cmh_frames.specs.Laws.{count_of}

-- a frame came from another site
abbrev pub is_delivery : Event → Bool
is_delivery (Got from frame) = true
is_delivery event = false

-- The run goes on by these entries, and each of them is a delivery.
pub record GoesOn (t : Topology) (events more : List WorldEvent) : Type 0 where
  pub run : IsRun t (events ++ more)
  pub deliveries : AllByRecursion (λ (e : WorldEvent). is_delivery e.entry.event ≡ true) more

-- No frame can be delivered any more.
abbrev pub IsSettled : Topology → List WorldEvent → Type 0
IsSettled t events = (e : WorldEvent) → is_delivery e.entry.event ≡ true → IsRun t (events ++ e ∷ []) → ⊥

-- ---- how many deliveries there can be

-- a reply of any process to any
abbrev pub is_any_reply : Frame → Bool
is_any_reply (Reply_frame reply) = true
is_any_reply frame = false

-- the frames that are under way and pass the test, over all links between sites of the topology
abbrev pub under_way_in_all : (Frame → Bool) → Topology → List WorldEvent → ℕ
under_way_in_all test t events =
    sum_by (λ a. sum_by (λ b. count_of test (under_way a b events)) (sites_of t)) (sites_of t)

-- how many waits the processes at the home of k may have
abbrev pub waits_beside : Topology → ℕ → ℕ
waits_beside t k = length (members_of t (site_of t k)) * target_limit t.edition

-- Probes go on from each process once for each origin, along the waits of the processes at its home, until dependents
-- are forgotten.
abbrev pub most_probes : Topology → ℕ
most_probes t = length (all_members t.rows) * sum_by (waits_beside t) (all_members t.rows)

-- Each frame under way, and the probes that can follow: from now on, and again after each reply that comes, by which
-- dependents may be forgotten.
abbrev pub most_deliveries : Topology → List WorldEvent → ℕ
most_deliveries t events =
    under_way_in_all (λ f. true) t events + (under_way_in_all is_any_reply t events + 1) * most_probes t

-- What deliveries after these events come to, in whatever order they are made.
pub record ComesToRest (t : Topology) (events : List WorldEvent) : Type 0 where
  -- so many can follow at most
  pub soon : (more : List WorldEvent) → GoesOn t events more → length more ≤ most_deliveries t events
  -- no further one can follow exactly where every frame has come
  pub drained : (more : List WorldEvent) → GoesOn t events more
      → IsSettled t (events ++ more) ↔ IsDrained (events ++ more)
  -- and some lead there
  pub reached : (more : List WorldEvent) × GoesOn t events more × IsDrained (events ++ more)

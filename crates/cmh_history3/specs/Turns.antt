-- How an epoch goes on to the next one: each site turns to it.
use Rattle.std.specs.Prelude.{◌≡◌, ℕ, ◌*◌, ◌^◌, ◌<◌, true, false, List, [], map, None}
use Rattle.cmh_epochs3.specs.Chains as chains
use Rattle.cmh_epochs3.specs.Laws.{World}
use Rattle.cmh_model3.specs.Entries.{WorldEvent}
use Rattle.cmh_model3.specs.Journals.{message_from, rules_of}
use Rattle.cmh_model3.specs.Rules.{clock_limit}
use Rattle.cmh_model3.specs.declared.event.Event.TheVariants.{Turn}
use Rattle.cmh_topology3.specs.Topology.{Topology, is_site, site_of, sites_of}
use Rattle.cmh_segment3.specs.declared.segment.Segment.{Segment}
use Rattle.cmh_segment3.specs.States.{turned_to}
use Rattle.cmh_history3.specs.Between.{between}
use Rattle.cmh_history3.specs.Worlds.{state_at, world_of}

-- a run from one world to the next
abbrev pub IsEpoch : Topology → World → List WorldEvent → World → Type 0
IsEpoch t = chains.IsEpoch message_from (rules_of (site_of t))

-- the turn of a site to an epoch
abbrev pub turn_of : ℕ → ℕ → WorldEvent
turn_of epoch s = record { site = s; entry = record { event = Turn (epoch * 2 ^ 32); sent = []; declared = None } }

-- each of these sites turns to it, in their order
abbrev pub turns_of : ℕ → List ℕ → List WorldEvent
turns_of epoch sites = map (turn_of epoch) sites

-- The bases of the next segments say the end of the epoch before, but that each site has turned to their epoch, which is a
-- later one: the same is under way.
pub record Follow (t : Topology) (end : World) (epoch : ℕ) (next : List Segment) : Type 0 where
  pub states : (s : ℕ) → is_site t s ≡ true → state_at next s ≡ turned_to epoch (end.state s)
  pub others : (s : ℕ) → is_site t s ≡ false → state_at next s ≡ end.state s
  pub under_way : (a b : ℕ) → between (sites_of t) next a b ≡ end.under_way a b
  pub later : (s : ℕ) → is_site t s ≡ true → (end.state s).clock < epoch * 2 ^ 32
  pub fits : epoch * 2 ^ 32 < clock_limit

-- Then the turns lead from that end to the world of the next bases. So the epochs and the turns between them are a chain.
abbrev pub TurnsLeadOn : Topology → Type 0
TurnsLeadOn t = (end : World) (epoch : ℕ) (next : List Segment) → Follow t end epoch next
    → IsEpoch t end (turns_of epoch (sites_of t)) (world_of t next)

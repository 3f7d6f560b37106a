-- What is held of a world that is played, and which worlds it shows. Where no journals are kept it shows each world
-- whose journals come to what is held.
use Rattle.std.specs.Prelude.{◌≡◌, ℕ, ◌<◌, ◌≤◌, Bool, List, [], length, map, slice_index, All, Some}
use Rattle.cmh_frames.specs.declared.frame.Frame.{Frame}
use Rattle.cmh_frames.specs.Topology.{Topology, sites_of}
use Rattle.cmh_frames.specs.declared.event.Event.{Event}
use Rattle.cmh_frames.specs.Rules.{Accepts, Sends, after}
use Rattle.cmh_controller.specs.Controller.{Controller}
use Rattle.cmh_controller.specs.Refusals.{Refuses}
use Rattle.cmh_journal.specs.Journal.{Journal, entry_limit}
use Rattle.cmh_journal.specs.WholeEntries.{HasFewWaits}
use Rattle.cmh_audit.specs.Totals.{AreTotalsOf, AreWithinLimit}
use Rattle.cmh_play.specs.History.{History, Adds, kept_of}
use Rattle.cmh_play.specs.Links.{Links, link_of, link_after}
use Rattle.cmh_play.specs.Sites.{AreOfEdition, AreStanding}
use Rattle.cmh_play.specs.World.{World, Steps, IsReason, entries_at}
use Rattle.cmh_frames.specs.declared.done.Done.{Done}
use Rattle.cmh_play.specs.declared.site.Refused.{Refused}
use Rattle.cmh_play.specs.declared.site.Refused.TheVariants.{Full, Rule}
use Rattle.cmh_play.specs.declared.site.Step.{Step}
use Rattle.cmh_play.specs.declared.site.Step.TheVariants.{Taken, Refused as StepRefused}

pub record Held : Type 0 where
  pub topology : Topology
  pub controllers : List Controller  -- of each site, in the order of the topology
  pub history : History
  pub links : Links

-- ---- the worlds that it shows

-- how many entries each journal has
abbrev pub step_counts : List Journal → List ℕ
step_counts journals = map (λ (j : Journal). length j.entries) journals

-- What is held is of this world: the controllers wrote its journals, and the history tell what these come to, and have
-- them where journals are kept.
pub record Shows (keeps : Bool) (world : World) (held : Held) : Type 0 where
  pub topology : held.topology ≡ world.topology
  pub links : (a b : ℕ) → world.links a b ≡ link_of held.links a b
  pub standing : AreStanding world.topology held.controllers world.journals
  pub limit : AreWithinLimit world.journals
  pub steps : held.history.steps ≡ step_counts world.journals
  pub totals : AreTotalsOf world.journals held.history.totals
  pub journals : held.history.journals ≡ kept_of keeps world.journals

-- it shows a world in which nothing has happened yet
pub record ShowsNew (t : Topology) (keeps : Bool) (held : Held) : Type 0 where
  pub world : World
  pub shows : Shows keeps world held
  pub topology : world.topology ≡ t
  pub journals : (s : ℕ) → entries_at world s ≡ []
  pub links : (a b : ℕ) → world.links a b ≡ Some []

-- it shows a world that is related to the one before
pub record ShowsLater (Related : World → World → Type 0) (keeps : Bool) (before : World) (held : Held) : Type 0 where
  pub later : World
  pub shows : Shows keeps later held
  pub related : Related before later

-- of each world that was shown one is shown that is related to it
abbrev pub Leads : (World → World → Type 0) → Held → Held → Type 0
Leads Related old new = (keeps : Bool) (world : World) → Shows keeps world old → ShowsLater Related keeps world new

-- ---- a step

-- the controller is one of the topology, and may go on
pub record IsReady (t : Topology) (c : Controller) : Type 0 where
  pub topology : c.topology ≡ t
  pub few : HasFewWaits t c.state

-- what holds of all that is held, also after an error
pub record AreReady (t : Topology) (cs : List Controller) (history : History) : Type 0 where
  pub each : length cs ≡ length (sites_of t)
  pub ready : All (IsReady t) cs
  pub counted : length history.steps ≡ length (sites_of t)
  pub edition : AreOfEdition t history.journals

-- what of the history stays as it was, also after an error
pub record AreKept (t : Topology) (old new : History) : Type 0 where
  pub counted : length new.steps ≡ length old.steps
  pub edition : AreOfEdition t new.journals

-- the controller took the event by the rules, the history has the entry, its frames are on the links of its site
pub record Takes (c d : Controller) (place : ℕ) (old new : History) (before after_links : Links) (event : Event)
    (done : Done) : Type 0 where
  pub sent : List (ℕ × Frame)
  pub accepted : Accepts c.topology c.site c.state event
  pub sends : Sends c.topology c.site c.state event sent done.declared
  pub stands : d ≡ record c { state = after c.topology c.site c.state event done.declared }
  pub adds : Adds old new place (record { event = event; sent = sent; declared = done.declared })
  pub counted : done.sent ≡ length sent
  pub room : slice_index old.steps place < entry_limit
  pub links_are : (a b : ℕ) → link_of after_links a b ≡ link_after before c.site sent a b

-- why it took no step
abbrev pub IsReasonAt : Controller → ℕ → Event → Refused → Type 0
IsReasonAt c steps event Full = entry_limit ≤ steps
IsReasonAt c steps event (Rule refusal) =
    (steps < entry_limit) × Refuses c.topology c.site c.state event refusal

-- what came of an event
abbrev pub IsTaken : Controller → Controller → ℕ → History → History → Links → Links → Event → Step → Type 0
IsTaken c d place old new before after_links event (Taken done) =
    Takes c d place old new before after_links event done
IsTaken c d place old new before after_links event (StepRefused refused) =
    (d ≡ c) × (new ≡ old) × (after_links ≡ before) × IsReasonAt c (slice_index old.steps place) event refused

-- what an event at the site s does to a world that is shown
abbrev pub IsWorldStep : World → World → ℕ → Event → Step → Type 0
IsWorldStep old new s event (Taken done) = Steps old new s event done
IsWorldStep old new s event (StepRefused refused) = IsReason old s event refused × (new ≡ old)

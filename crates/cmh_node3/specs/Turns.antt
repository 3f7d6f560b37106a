-- How a site begins its next epoch.
use Rattle.std.specs.Prelude.{◌≡◌, ◌≢◌, ◌⊎◌, ℕ, ◌<◌, ◌≤◌, Bool, List, [], map, Option, None, Some}
use Rattle.cmh_bases3.specs.Bases.{IsBaseOf}
use Rattle.cmh_controller3.specs.Controller.{state_of}
use Rattle.cmh_disk3.specs.Folders.{MayBeMade, Segments}
use Rattle.cmh_disk3.specs.Turns.{BeginsSegment}
use Rattle.cmh_station3.specs.Files.{Held}
use Rattle.cmh_model3.specs.State.{State}
use Rattle.cmh_node3.specs.Links.{link_of}
use Rattle.cmh_node3.specs.declared.peer.Peer.{Peer}
use Rattle.cmh_segment3.specs.States.{base_of, stamp_of, state_in, turned_to}
use Rattle.cmh_segment3.specs.declared.base.Base.{Base}
use Rattle.cmh_segment3.specs.declared.rows.Stamped.{Stamped}
use Rattle.cmh_station3.specs.Journals.{IsOrigin}
use Rattle.cmh_station3.specs.Starting.{NewSegment, first_bytes}
use Rattle.cmh_bases3.specs.FittingLinks.{FitLinks}
use Rattle.cmh_node3.specs.Nodes.{IsExact, Node, epoch_of}
use Rattle.cmh_node3.specs.declared.sealed.Sealed.TheVariants.{Disk}
use Rattle.cmh_node3.specs.declared.turning.NotTurned.{NotTurned}
use Rattle.cmh_node3.specs.declared.turning.NotTurned.TheVariants as not_turned

-- ---- where it begins

-- why there is no base with these peers: memory is refused, or the links do not fit one
abbrev pub IsUnbased : List Peer → NotTurned → Type 0
IsUnbased peers not_turned.TooLong = FitLinks (map link_of peers) → ⊥
IsUnbased peers not_turned.Memory = Unit {0}
IsUnbased peers why = ⊥

module _ {File : Type 0} where
  -- the state in which the site is
  abbrev pub state_in_node : Node File → State
  state_in_node n = state_of n.station.machine.controller

  -- A base says that state, and what the ends of its links know; and at which stop who is declared was declared, of which nothing
  -- is said here.
  pub record IsNextBase (n : Node File) (base : Base) : Type 0 where
    pub stops : List Stamped
    pub is : base ≡ base_of (state_in_node n) (stamp_of stops) (map link_of n.peers)

  -- The segment of a later epoch, which begins there. The state that its base says is the one to which a turn leads.
  pub record IsNext (n : Node File) (epoch : ℕ) (new : NewSegment) : Type 0 where
    pub is_open : n.sealed ≡ None
    pub later : epoch_of n < epoch
    pub topology : new.topology ≡ n.station.base.topology
    pub site : new.site ≡ n.station.base.site
    pub epoch_is : new.origin.epoch ≡ epoch
    pub before : new.origin.before ≡ epoch_of n
    pub base : IsNextBase n new.origin.base
    pub begins : IsOrigin new.topology new.site new.origin
    pub state : state_in epoch new.origin.base ≡ turned_to epoch (state_in_node n)

  -- why there is no such segment
  abbrev pub IsNotReady : Node File → ℕ → NotTurned → Type 0
  IsNotReady n epoch not_turned.Sealed = n.sealed ≢ None
  IsNotReady n epoch not_turned.Passed = (n.sealed ≡ None) × (epoch ≤ epoch_of n)
  IsNotReady n epoch not_turned.TooLong = FitLinks (map link_of n.peers) → ⊥
  IsNotReady n epoch not_turned.BadState = (base : Base) × IsNextBase n base
      × (IsBaseOf n.station.base.topology n.station.base.site epoch base → ⊥)
  IsNotReady n epoch not_turned.Memory = Unit {0}
  IsNotReady n epoch why = ⊥

-- ---- a turn

module _ {File : Type 0} (told : File → Option Held) (has_failed : File → Bool) where
  -- The segment was made, and the site goes on in it: its journal has no entry, and the ends of its links have just what its base
  -- says of them. All else is as it was.
  pub record HasTurned (epoch : ℕ) (before after : Option Segments) (a b : Node File) : Type 0 where
    pub new : NewSegment
    pub next : IsNext a epoch new
    pub begins : BeginsSegment told has_failed new before after b.station
    pub rest : b ≡ record a { station = b.station }
    pub exact : IsExact told has_failed b []

  -- nothing has changed
  pub record IsAsBefore (before after : Option Segments) (a b : Node File) : Type 0 where
    pub folder : after ≡ before
    pub node : b ≡ a

  -- The site has stopped for good, since the segment may have its name.
  pub record IsGivenUp (epoch : ℕ) (before after : Option Segments) (a b : Node File) : Type 0 where
    pub new : NewSegment
    pub next : IsNext a epoch new
    pub folder : MayBeMade new.origin.epoch (first_bytes new) before after
    pub rest : b ≡ record a { sealed = Some Disk }

  -- why it does not go on in that epoch
  abbrev pub NotTurns : ℕ → NotTurned → Option Segments → Option Segments → Node File → Node File → Type 0
  NotTurns epoch not_turned.Disk before after a b = IsAsBefore before after a b
  NotTurns epoch not_turned.Unsure before after a b = IsGivenUp epoch before after a b
  NotTurns epoch why before after a b = IsNotReady a epoch why × IsAsBefore before after a b

-- Whether the bases of the next segments say where the controllers of an epoch stand, and what is under way there.
use Rattle.std.specs.Prelude.{◌≡◌, ℕ, ◌*◌, ◌^◌, ◌<◌, ◌==◌, MatchBool, List, [], ◌∷◌}
use Rattle.std.specs.List.{All}
use Rattle.cmh_controller3.specs.Controller.{Controller, state_of}
use Rattle.cmh_model3.specs.State.{State}
use Rattle.cmh_model3.specs.declared.frame.Message.{Message}
use Rattle.cmh_segment3.specs.declared.base.Base.{Base}
use Rattle.cmh_segment3.specs.declared.links.LinkState.{LinkState}
use Rattle.cmh_segment3.specs.declared.segment.Segment.{Segment}
use Rattle.cmh_segment3.specs.States.{base_of}
use Rattle.cmh_history3.specs.Between.{under_way}

-- It is the base of the state, whatever it says of the stops of the declared processes, and of links. So each base that a
-- site makes of its controller is one.
pub record IsBaseFor (v : State) (base : Base) : Type 0 where
  pub stop : ℕ → ℕ
  pub links : List LinkState
  pub is : base ≡ base_of v stop links

-- the site has a segment, and its base is one of the state
abbrev pub SaysState : List Segment → ℕ → State → Type 0
SaysState [] s v = ⊥
SaysState (g ∷ segments) s v = MatchBool (g.header.site == s) (IsBaseFor v g.base) (SaysState segments s v)

-- The site of a controller can turn to this epoch, and its next base says the state in which it stands.
pub record IsSaid (epoch : ℕ) (next : List Segment) (c : Controller) : Type 0 where
  pub later : (state_of c).clock < epoch * 2 ^ 32
  pub state : SaysState next c.site (state_of c)

-- from each of the sites to each, this is what the bases say is under way
abbrev pub AreUnderWay : List ℕ → List Segment → (ℕ → ℕ → List Message) → Type 0
AreUnderWay sites next there = All (λ a. All (λ b. there a b ≡ under_way next a b) sites) sites

-- The next bases say where the controllers stand, and what is under way there between the sites.
pub record SayEnd (sites : List ℕ) (controllers : List Controller) (there : ℕ → ℕ → List Message) (epoch : ℕ) (next : List Segment) : Type 0 where
  pub states : All (IsSaid epoch next) controllers
  pub links : AreUnderWay sites next there

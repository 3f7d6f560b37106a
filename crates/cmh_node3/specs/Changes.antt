-- What a call changes at one end of one link. The rest of the site stays as it was.
use Rattle.std.specs.Prelude.{◌≡◌, ◌≢◌, ℕ, ◌<◌, Bool, true, length, slice_get, Option, None, Some}
use Rattle.cmh_model3.specs.declared.frame.Message.{Message}
use Rattle.cmh_resume3.specs.declared.acknowledgement.Acknowledgement.{Acknowledgement}
use Rattle.cmh_resume3.specs.declared.hello.Hello.{Hello}
use Rattle.cmh_resume3.specs.declared.refusal.Mismatch.{Mismatch}
use Rattle.cmh_resume3.specs.declared.refusal.Mismatch.TheVariants.{LessThanAcknowledged, MoreThanSent, OtherFrames}
use Rattle.cmh_resume3.specs.declared.refusal.Refusal.{Refusal}
use Rattle.cmh_resume3.specs.declared.refusal.Refusal.TheVariants as refusal
use Rattle.cmh_resume3.specs.Receiver.{Claims, IsFit, IsUnfit}
use Rattle.cmh_node3.specs.PeerChanges.{Acknowledges, ChangesInto, ChangesOut, DoesSafely, EndsAt, GivesSafely}
use Rattle.cmh_node3.specs.declared.happening.Action.{Action}
use Rattle.cmh_node3.specs.declared.happening.Action.TheVariants.{Refuse}
use Rattle.cmh_node3.specs.declared.happening.Happening.{Happening}
use Rattle.cmh_node3.specs.declared.peer.Peer.{Peer}
use Rattle.cmh_node3.specs.Nodes.{AtPlace, Node, epoch_of}
use Rattle.cmh_node3.specs.declared.receiving.Admitted.{Admitted}
use Rattle.cmh_node3.specs.declared.sealed.Sealed.{Sealed}
use Rattle.cmh_node3.specs.declared.sealed.Sealed.TheVariants as sealed

-- Why a site is sealed by an action on the link to a peer: where the journals do not fit, and not by the receiver's fault.
abbrev pub sealed_by : ℕ → Action → Option Sealed
sealed_by peer (Refuse MoreThanSent) = Some (sealed.Mismatch peer MoreThanSent)
sealed_by peer (Refuse OtherFrames) = Some (sealed.Mismatch peer OtherFrames)
sealed_by peer action = None

-- And why it is sealed once a peer has said as its sender that the journals do not fit: where this one lacks entries. What
-- sealed it first stays.
abbrev pub sealed_if_told : Option Sealed → ℕ → Mismatch → Option Sealed
sealed_if_told None peer LessThanAcknowledged = Some (sealed.Mismatch peer LessThanAcknowledged)
sealed_if_told earlier peer mismatch = earlier

module _ {File : Type 0} where
  -- it happened on the link to the peer at this place, at its sender's end
  pub record Happens (place : ℕ) (what : Happening) (now : ℕ) (a : Node File) (action : Action) (b : Node File) : Type 0 where
    pub at_end : ChangesOut place (DoesSafely what (epoch_of a) now action) a.peers b.peers
    pub sealed : b.sealed ≡ sealed_by at_end.peer.site action
    pub rest : b ≡ record a { peers = b.peers; sealed = b.sealed }

  -- that end gave the next message
  pub record Gives (place now : ℕ) (a : Node File) (given : Option Message) (b : Node File) : Type 0 where
    pub at_end : ChangesOut place (GivesSafely now given) a.peers b.peers
    pub rest : b ≡ record a { peers = b.peers }

  -- the connection has the claim of the link from the peer whose hello came
  pub record Admits (line now : ℕ) (hello : Hello) (a : Node File) (admitted : Admitted) (b : Node File) : Type 0 where
    pub fit : IsFit hello a.world a.site a.others
    pub is_open : a.sealed ≡ None
    pub at_end : ChangesInto admitted.place (λ x y. Claims x line now admitted.answer y) a.peers b.peers
    pub of_sender : at_end.peer.site ≡ hello.from
    pub speaks : admitted.answer.hello ≡ record { world = a.world; from = a.site; to = hello.from; epoch = epoch_of a }
    pub rest : b ≡ record a { peers = b.peers }

  -- the rules had closed the link from the peer whose hello came
  pub record HasClosed (hello : Hello) (n : Node File) : Type 0 where
    pub fit : IsFit hello n.world n.site n.others
    pub is_open : n.sealed ≡ None
    pub place : ℕ
    pub within : place < length n.peers
    pub closed : AtPlace n place (λ peer. (peer.site ≡ hello.from) × (peer.into.closed ≡ true))

  -- why a hello is refused: the first reason that holds
  abbrev pub RefusesHello : Hello → Node File → Refusal → Type 0
  RefusesHello hello n refusal.Sealed = IsFit hello n.world n.site n.others × (n.sealed ≢ None)
  RefusesHello hello n refusal.Closed = HasClosed hello n
  RefusesHello hello n reason = IsUnfit hello n.world n.site n.others reason

  -- what is acknowledged on a connection from the peer at this place
  pub record Says (place line : ℕ) (filled : Bool) (a : Node File) (said : Option Acknowledgement) (b : Node File) : Type 0 where
    pub at_end : Acknowledges place line filled (epoch_of a) said a.peers b.peers
    pub rest : b ≡ record a { peers = b.peers }

  -- a connection from the peer at this place ended
  pub record Ends (place line : ℕ) (a b : Node File) : Type 0 where
    pub at_end : ChangesInto place (EndsAt line) a.peers b.peers
    pub rest : b ≡ record a { peers = b.peers }

  -- The peer at this place said that the journals do not fit: that counts on a connection that has the claim.
  pub record Tells (place line : ℕ) (mismatch : Mismatch) (a b : Node File) : Type 0 where
    pub claimed : (peer : Peer) → slice_get a.peers place ≡ Some peer → peer.into.claim ≡ Some line
        → b.sealed ≡ sealed_if_told a.sealed peer.site mismatch
    pub other : (peer : Peer) → slice_get a.peers place ≡ Some peer → peer.into.claim ≢ Some line → b.sealed ≡ a.sealed
    pub rest : b ≡ record a { sealed = b.sealed }

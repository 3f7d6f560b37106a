-- What changes at one end of the links with one peer, where no other end changes.
use Rattle.std.specs.Prelude.{◌≡◌, ◌≢◌, ◌⊎◌, ℕ, ◌<◌, ◌≤◌, Bool, true, false, List, slice_get, slice_index_or, slice_set, Option, None, Some}
use Rattle.cmh_model3.specs.declared.frame.Message.{Message}
use Rattle.cmh_resume3.specs.declared.acknowledgement.Acknowledgement.{Acknowledgement}
use Rattle.cmh_resume3.specs.Receiver.{Receiver, rested, said, synced_of}
use Rattle.cmh_resume3.specs.Sender.{GivesNext, Sender, StandsSince}
use Rattle.cmh_node3.specs.Happenings.{Does}
use Rattle.cmh_node3.specs.Peers.{received}
use Rattle.cmh_node3.specs.declared.happening.Action.{Action}
use Rattle.cmh_node3.specs.declared.happening.Happening.{Happening}
use Rattle.cmh_node3.specs.declared.peer.Peer.{Peer}

-- the sender's end of the peer at this place changed like this
pub record ChangesOut (place : ℕ) (Changes : Sender → Sender → Type 0) (xs ys : List Peer) : Type 0 where
  pub peer : Peer
  pub there : slice_get xs place ≡ Some peer
  pub out : Sender
  pub changes : Changes peer.out out
  pub after : ys ≡ slice_set xs place (record peer { out = out })

-- its receiver's end
pub record ChangesInto (place : ℕ) (Changes : Receiver → Receiver → Type 0) (xs ys : List Peer) : Type 0 where
  pub peer : Peer
  pub there : slice_get xs place ≡ Some peer
  pub into : Receiver
  pub changes : Changes peer.into into
  pub after : ys ≡ slice_set xs place (record peer { into = into })

-- ---- the sender's end

-- it stands for the messages that it stood for, since whichever count and mark
abbrev pub StandsStill : Sender → Sender → Type 0
StandsStill a b = (count mark : ℕ) (messages : List Message) → StandsSince count mark a messages
    → StandsSince count mark b messages

pub record DoesSafely (what : Happening) (epoch now : ℕ) (action : Action) (a b : Sender) : Type 0 where
  pub does : Does a what epoch now b action
  pub stands : StandsStill a b

pub record GivesSafely (now : ℕ) (given : Option Message) (a b : Sender) : Type 0 where
  pub gives : GivesNext a now b given
  pub stands : StandsStill a b

-- ---- the receiver's end

abbrev pub IsSyncedAt : ℕ → List Peer → Type 0
IsSyncedAt place xs = (d : Peer) → (slice_index_or xs place d).into.unsynced ≡ 0

abbrev pub IsClaimedAt : ℕ → ℕ → List Peer → Type 0
IsClaimedAt place line xs = (d : Peer) → (slice_index_or xs place d).into.claim ≡ Some line

abbrev pub IsClosedAt : ℕ → List Peer → Type 0
IsClosedAt place xs = (d : Peer) → (slice_index_or xs place d).into.closed ≡ true

abbrev pub IsReceived : List Message → ℕ → Bool → Receiver → Receiver → Type 0
IsReceived messages now closes a b = b ≡ received messages now closes a

-- the connection ended: where it had the claim, no connection has it
pub record EndsAt (line : ℕ) (a b : Receiver) : Type 0 where
  pub claimed : a.claim ≡ Some line → b ≡ rested a
  pub other : a.claim ≢ Some line → b ≡ a

-- The connection has the claim, and this is acknowledged on it after a read, which filled its buffer or not.
pub record SaysCount (line : ℕ) (filled : Bool) (epoch : ℕ) (acknowledgement : Acknowledgement) (a b : Receiver) : Type 0 where
  pub claimed : a.claim ≡ Some line
  pub due : (filled ≡ false) ⊎ (4096 ≤ a.unsaid)
  pub count : acknowledgement.count ≡ synced_of a
  pub epoch_is : acknowledgement.epoch ≡ epoch
  pub after : b ≡ said a

-- An acknowledgement, where the connection has the claim and the read did not fill its buffer or 4,096 messages came since
-- the last one; otherwise none, and nothing changes.
abbrev pub Acknowledges : ℕ → ℕ → Bool → ℕ → Option Acknowledgement → List Peer → List Peer → Type 0
Acknowledges place line filled epoch (Some acknowledgement) xs ys = ChangesInto place (SaysCount line filled epoch acknowledgement) xs ys
Acknowledges place line filled epoch None xs ys = (ys ≡ xs)
    × ((d : Peer) → (slice_index_or xs place d).into.claim ≡ Some line → (filled ≡ true) × ((slice_index_or xs place d).into.unsaid < 4096))

-- The other sites of a world, as a site knows them by its journal.
use Rattle.std.specs.Prelude.{◌≡◌, ◌≢◌, ℕ, ◌<◌, ◌==◌, Bool, true, false, List, [], ◌∷◌, ◌++◌, length, filter, not, nat_lt, slice_index_or, Option, None, Some}
use Rattle.cmh_model3.specs.Entries.{Entry}
use Rattle.cmh_model3.specs.Journals.{sendings_of}
use Rattle.cmh_model3.specs.declared.frame.Message.{Message}
use Rattle.cmh_runs.specs.Runs.{IsBeginningOf}
use Rattle.cmh_resume3.specs.Receiver.{Receiver, all_synced, closed_off, heard_at, with_message}
use Rattle.cmh_resume3.specs.Sender.{Sender}
use Rattle.cmh_node3.specs.declared.peer.Peer.{Peer}

-- the sites but this one
abbrev pub others : ℕ → List ℕ → List ℕ
others s sites = filter (λ x. not (x == s)) sites

-- ---- what is given to a sender's end

abbrev pub with_all : List Message → Sender → Sender
with_all messages s = record s { kept = s.kept ++ messages }

abbrev pub WasGiven : List Message → Sender → Sender → Type 0
WasGiven messages a b = b ≡ with_all messages a

-- it was given a beginning of the messages
pub record WasGivenPart (messages : List Message) (a b : Sender) : Type 0 where
  pub part : List Message
  pub begins : IsBeginningOf part messages
  pub after : b ≡ with_all part a

-- a peer's sender's end was given what entries sent to it
pub record IsGiven (entries : List Entry) (a b : Peer) : Type 0 where
  pub site : b.site ≡ a.site
  pub into : b.into ≡ a.into
  pub out : WasGiven (sendings_of a.site entries) a.out b.out

-- or a beginning of that
pub record IsGivenPart (entries : List Entry) (a b : Peer) : Type 0 where
  pub site : b.site ≡ a.site
  pub into : b.into ≡ a.into
  pub out : WasGivenPart (sendings_of a.site entries) a.out b.out

-- two lists of one length stand so to each other, each with the one at its place
pub record AtEach (R : Peer → Peer → Type 0) (xs ys : List Peer) : Type 0 where
  pub same_length : length ys ≡ length xs
  pub each : (k : ℕ) (d e : Peer) → k < length xs → R (slice_index_or xs k d) (slice_index_or ys k e)

-- ---- what a receiver's end counts

abbrev pub with_messages : List Message → Receiver → Receiver
with_messages [] r = r
with_messages (message ∷ messages) r = with_messages messages (with_message message r)

-- messages came at a time, and all is synced; where the rules refused the next one, the link is closed for good
abbrev pub received : List Message → ℕ → Bool → Receiver → Receiver
received messages now true r = closed_off (heard_at now (all_synced (with_messages messages r)))
received messages now false r = heard_at now (all_synced (with_messages messages r))

-- ---- places

-- the first peer with this site stands there, or there is none
abbrev pub IsPlaceOf : List Peer → ℕ → Option ℕ → Type 0
IsPlaceOf peers site None = (k : ℕ) (d : Peer) → k < length peers → (slice_index_or peers k d).site ≢ site
IsPlaceOf peers site (Some place) = (place < length peers) × ((d : Peer) → (slice_index_or peers place d).site ≡ site)

-- a sender's end keeps more messages than it should
abbrev pub keeps_many : Peer → Bool
keeps_many peer = nat_lt 1000000 (length peer.out.kept)

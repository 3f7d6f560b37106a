-- What a call takes of what was heard on a connection that a site dials, what it puts behind what is to be written, and what
-- becomes of the site.
use Rattle.std.specs.Prelude.{◌≡◌, ◌≢◌, ◌⊎◌, ℕ, zero, suc, ◌<◌, ◌≤◌, true, false, List, [], ◌∷◌, ◌++◌, length, drop, Option, None, Some}
use Rattle.cmh_model3.specs.declared.frame.Message.{Message}
use Rattle.cmh_wire3.specs.Wire.{spelled}
use Rattle.cmh_resume3.specs.Hello.{IsReplyFront, hello_spelling}
use Rattle.cmh_resume3.specs.Stream.{IsAcknowledgementFront, item_spelling}
use Rattle.cmh_resume3.specs.declared.acknowledgement.AcknowledgementFront.{AcknowledgementFront}
use Rattle.cmh_resume3.specs.declared.acknowledgement.AcknowledgementFront.TheVariants as Said
use Rattle.cmh_resume3.specs.declared.answer.ReplyFront.{ReplyFront}
use Rattle.cmh_resume3.specs.declared.answer.ReplyFront.TheVariants as Reply
use Rattle.cmh_resume3.specs.declared.answer.Answer.{Answer}
use Rattle.cmh_resume3.specs.declared.hello.Hello.{Hello}
use Rattle.cmh_resume3.specs.declared.refusal.Refusal.{Refusal}
use Rattle.cmh_resume3.specs.declared.refusal.Refusal.TheVariants.{Closed, Sealed}
use Rattle.cmh_resume3.specs.declared.item.Item.TheVariants as item
use Rattle.cmh_node3.specs.declared.happening.Action.{Action}
use Rattle.cmh_node3.specs.declared.happening.Action.TheVariants as act
use Rattle.cmh_node3.specs.declared.happening.Happening.{Happening}
use Rattle.cmh_node3.specs.declared.happening.Happening.TheVariants.{Dialled, Answered, Refused, Acknowledged, Ended, Passed}
use Rattle.cmh_node3.specs.declared.peer.Peer.{Peer}
use Rattle.cmh_node3.specs.Changes.{Gives, Happens}
use Rattle.cmh_node3.specs.Nodes.{AtPlace, Node, epoch_of}
use Rattle.cmh_links3.specs.Connections.{Outgoing}
use Rattle.cmh_links3.specs.declared.onward.Onward.{Onward}
use Rattle.cmh_links3.specs.declared.onward.Onward.TheVariants.{Open, Close}
use Rattle.cmh_links3.specs.declared.outgoing.Next.{Next}
use Rattle.cmh_links3.specs.declared.outgoing.Next.TheVariants as next

-- ---- small changes

abbrev pub hears : List ℕ → Outgoing → Outgoing
hears bytes c = record c { unread = c.unread ++ bytes }

abbrev pub with_unread : List ℕ → Outgoing → Outgoing
with_unread bytes c = record c { unread = bytes }

abbrev pub answered : Outgoing → Outgoing
answered c = record c { is_answered = true }

abbrev pub says : List ℕ → Outgoing → Outgoing
says bytes c = record c { to_write = c.to_write ++ bytes }

-- so many bytes were written
abbrev pub carries : ℕ → Outgoing → Outgoing
carries count c = record c { to_write = drop count c.to_write }

abbrev pub closed : Outgoing → Outgoing
closed c = record c { is_closed = true }

abbrev pub closed_if : Onward → Outgoing → Outgoing
closed_if Open c = c
closed_if Close c = closed c

-- it is dialled, and these bytes are to be written first
abbrev pub dialled : List ℕ → Outgoing → Outgoing
dialled bytes c = record c { is_dialled = true; to_write = bytes }

-- bytes were put behind what is to be written; where memory is refused the connection is closed
abbrev pub SaysSo : List ℕ → Outgoing → Onward → Outgoing → Type 0
SaysSo bytes a Open b = b ≡ says bytes a
SaysSo bytes a Close b = b ≡ a

abbrev pub SaidIfRoom : List ℕ → Outgoing → Outgoing → Type 0
SaidIfRoom bytes a b = (b ≡ says bytes a) ⊎ (b ≡ a)

-- what becomes of the connection by an action about what was heard
abbrev pub NextBy : Action → Outgoing → Next → Outgoing → Type 0
NextBy act.Rest a then_is b = (then_is ≡ next.Taken) × (b ≡ a)
NextBy (act.Refuse mismatch) a then_is b = (then_is ≡ next.Close) × SaidIfRoom (item_spelling (item.Refused mismatch)) a b
NextBy other a then_is b = (then_is ≡ next.Close) × (b ≡ a)

-- and by one that time brings, at a site of this epoch
abbrev pub PassesBy : ℕ → Action → Outgoing → Onward → Outgoing → Type 0
PassesBy epoch act.Rest a onward b = (onward ≡ Open) × (b ≡ a)
PassesBy epoch act.Note a onward b = SaysSo (item_spelling (item.Note epoch)) a onward b
PassesBy epoch other a onward b = (onward ≡ Close) × (b ≡ a)

module _ {File : Type 0} where
  -- neither the connection nor the site changes
  pub record Stays (a : Outgoing) (m : Node File) (b : Outgoing) (n : Node File) : Type 0 where
    pub connection : b ≡ a
    pub node : n ≡ m

  -- the connection is for the same peer, and the site has as many as before
  pub record IsPlacedSo (a : Outgoing) (m : Node File) (b : Outgoing) (n : Node File) : Type 0 where
    pub place : b.place ≡ a.place
    pub peers : length n.peers ≡ length m.peers

  -- ---- what the site is told, and gives

  -- the site was told that something happened on the link; one that is sealed closes it
  abbrev pub Does : ℕ → Happening → ℕ → Node File → Action → Node File → Type 0
  Does place what now m action n = (m.sealed ≡ None → Happens place what now m action n)
      × (m.sealed ≢ None → (action ≡ act.Close) × (n ≡ m))

  -- the site gave the next message; one that is sealed gives none
  abbrev pub GivesSo : ℕ → ℕ → Node File → Option Message → Node File → Type 0
  GivesSo place now m given n = (m.sealed ≡ None → Gives place now m given n)
      × (m.sealed ≢ None → (given ≡ None) × (n ≡ m))

  -- it gave these messages, one after the other
  abbrev pub GivesAll : ℕ → ℕ → List Message → Node File → Node File → Type 0
  GivesAll place now [] m n = n ≡ m
  GivesAll place now (message ∷ messages) m n = (between : Node File) × GivesSo place now m (Some message) between
      × GivesAll place now messages between n

  -- ---- the dial

  -- what the site says first to a peer
  abbrev pub hello_to : Node File → Peer → Hello
  hello_to m peer = record { world = m.station.base.topology.world; from = m.station.base.site; to = peer.site; epoch = epoch_of m }

  pub record IsDialledNow (now : ℕ) (a : Outgoing) (m : Node File) (b : Outgoing) (n : Node File) : Type 0 where
    pub node : Does a.place Dialled now m act.Greet n
    pub queued : AtPlace m a.place (λ peer. b ≡ dialled (hello_spelling (hello_to m peer)) a)

  -- the site must not dial
  pub record MustNotDial (now : ℕ) (a : Outgoing) (m : Node File) (n : Node File) : Type 0 where
    pub action : Action
    pub other : action ≢ act.Greet
    pub node : Does a.place Dialled now m action n

  -- nothing was dialled: then the site was not told, or must not dial
  pub record IsNotDialledNow (now : ℕ) (a : Outgoing) (m : Node File) (b : Outgoing) (n : Node File) : Type 0 where
    pub connection : b ≡ a
    pub node : (n ≡ m) ⊎ MustNotDial now a m n

  abbrev pub Dials : ℕ → Outgoing → Node File → Onward → Outgoing → Node File → Type 0
  Dials now a m Open b n = IsDialledNow now a m b n
  Dials now a m Close b n = IsNotDialledNow now a m b n

  -- time passed, and it is not due
  pub record IsNotDue (now : ℕ) (a : Outgoing) (m : Node File) (n : Node File) : Type 0 where
    pub action : Action
    pub other : action ≢ act.Dial
    pub node : Does a.place Passed now m action n

  -- ---- what was heard

  -- the site was told what was heard, and the connection becomes what the site's action says
  pub record Tells (what : Happening) (now : ℕ) (a : Outgoing) (m : Node File) (then_is : Next) (b : Outgoing) (n : Node File)
      : Type 0 where
    pub action : Action
    pub node : Does a.place what now m action n
    pub by : NextBy action a then_is b

  -- the answer is the peer's, to this site and of its world
  pub record IsOfPeer (hello : Hello) (m : Node File) (peer : Peer) : Type 0 where
    pub world : hello.world ≡ m.station.base.topology.world
    pub from : hello.from ≡ peer.site
    pub to : hello.to ≡ m.station.base.site

  -- the peer answered, and the site was told
  pub record HearsAnswer (answer : Answer) (now : ℕ) (a : Outgoing) (m : Node File) (then_is : Next) (b : Outgoing) (n : Node File)
      : Type 0 where
    pub of_peer : AtPlace m a.place (IsOfPeer answer.hello m)
    pub tells : Tells (Answered answer) now (answered (with_unread (drop 44 a.unread) a)) m then_is b n

  -- nothing is told, and the connection is closed, with so many bytes taken
  pub record TakesNone (count : ℕ) (a : Outgoing) (m : Node File) (then_is : Next) (b : Outgoing) (n : Node File) : Type 0 where
    pub closes : then_is ≡ next.Close
    pub stays : Stays (with_unread (drop count a.unread) a) m b n

  -- somebody else answered
  pub record HearsStranger (answer : Answer) (a : Outgoing) (m : Node File) (then_is : Next) (b : Outgoing) (n : Node File)
      : Type 0 where
    pub stranger : AtPlace m a.place (λ peer. ¬ IsOfPeer answer.hello m peer)
    pub none : TakesNone 44 a m then_is b n

  -- A refusal of the link or of a site that has stopped ends with the receiver's next start, so it is dialled again. The others
  -- are told to the site.
  abbrev pub RefusesBy : Refusal → ℕ → Outgoing → Node File → Next → Outgoing → Node File → Type 0
  RefusesBy Closed now a m then_is b n = TakesNone 5 a m then_is b n
  RefusesBy Sealed now a m then_is b n = TakesNone 5 a m then_is b n
  RefusesBy refusal now a m then_is b n = Tells (Refused refusal) now (with_unread (drop 5 a.unread) a) m then_is b n

  abbrev pub RepliesBy : ReplyFront → ℕ → Outgoing → Node File → Next → Outgoing → Node File → Type 0
  RepliesBy (Reply.Answered answer) now a m then_is b n =
      HearsAnswer answer now a m then_is b n ⊎ HearsStranger answer a m then_is b n
  RepliesBy (Reply.Refused refusal) now a m then_is b n = RefusesBy refusal now a m then_is b n
  RepliesBy Reply.Short now a m then_is b n = (then_is ≡ next.Nothing) × Stays a m b n
  RepliesBy Reply.Bad now a m then_is b n = (then_is ≡ next.Close) × Stays a m b n

  pub record HearsReply (now : ℕ) (a : Outgoing) (m : Node File) (then_is : Next) (b : Outgoing) (n : Node File) : Type 0 where
    pub front : ReplyFront
    pub is_front : IsReplyFront a.unread front
    pub by : RepliesBy front now a m then_is b n

  abbrev pub AcknowledgesBy : AcknowledgementFront → ℕ → Outgoing → Node File → Next → Outgoing → Node File → Type 0
  AcknowledgesBy (Said.Whole acknowledgement) now a m then_is b n =
      Tells (Acknowledged acknowledgement) now (with_unread (drop 13 a.unread) a) m then_is b n
  AcknowledgesBy Said.Short now a m then_is b n = (then_is ≡ next.Nothing) × Stays a m b n
  AcknowledgesBy Said.Bad now a m then_is b n = (then_is ≡ next.Close) × Stays a m b n

  pub record HearsAcknowledgement (now : ℕ) (a : Outgoing) (m : Node File) (then_is : Next) (b : Outgoing) (n : Node File)
      : Type 0 where
    pub front : AcknowledgementFront
    pub is_front : IsAcknowledgementFront a.unread front
    pub by : AcknowledgesBy front now a m then_is b n

  -- what is next in what was heard: the reply to the hello first, and then acknowledgements
  pub record HearsNext (now : ℕ) (a : Outgoing) (m : Node File) (then_is : Next) (b : Outgoing) (n : Node File) : Type 0 where
    pub reply : a.is_answered ≡ false → HearsReply now a m then_is b n
    pub acknowledgement : a.is_answered ≡ true → HearsAcknowledgement now a m then_is b n

  -- so many were taken, one after the other
  abbrev pub HearsMany : ℕ → ℕ → Outgoing → Node File → Outgoing → Node File → Type 0
  HearsMany zero now a m b n = Stays a m b n
  HearsMany (suc count) now a m b n = (c : Outgoing) × (o : Node File) × HearsMany count now a m c o × HearsNext now c o next.Taken b n

  -- the one behind them closes the connection
  pub record HearsLast (now : ℕ) (a : Outgoing) (m : Node File) (b : Outgoing) (n : Node File) : Type 0 where
    pub count : ℕ
    pub c : Outgoing
    pub o : Node File
    pub many : HearsMany count now a m c o
    pub last : HearsNext now c o next.Close b n

  abbrev pub Listens : ℕ → Outgoing → Node File → Onward → Outgoing → Node File → Type 0
  Listens now a m Open b n = (count : ℕ) × HearsMany count now a m b n
  Listens now a m Close b n = HearsLast now a m b n

  -- ---- time, and what is written

  pub record Passes (now : ℕ) (a : Outgoing) (m : Node File) (onward : Onward) (b : Outgoing) (n : Node File) : Type 0 where
    pub action : Action
    pub node : Does a.place Passed now m action n
    pub by : PassesBy (epoch_of m) action a onward b

  -- The site gave messages, and they were put behind what is to be written. Then it was asked no more, or gave none.
  pub record Writes (now : ℕ) (a : Outgoing) (m : Node File) (b : Outgoing) (n : Node File) : Type 0 where
    pub messages : List Message
    pub o : Node File
    pub node : GivesAll a.place now messages m o
    pub then_none : (n ≡ o) ⊎ GivesSo a.place now o None n
    pub queued : b ≡ says (spelled messages) a

  -- memory was refused for the last of them
  pub record WritesNot (now : ℕ) (a : Outgoing) (m : Node File) (b : Outgoing) (n : Node File) : Type 0 where
    pub messages : List Message
    pub last : Message
    pub node : GivesAll a.place now (messages ++ last ∷ []) m n
    pub queued : b ≡ says (spelled messages) a

  abbrev pub WritesSo : ℕ → Outgoing → Node File → Onward → Outgoing → Node File → Type 0
  WritesSo now a m Open b n = Writes now a m b n
  WritesSo now a m Close b n = WritesNot now a m b n

  -- time passed, and then messages were written
  pub record PassesAndWrites (now : ℕ) (a : Outgoing) (m : Node File) (onward : Onward) (b : Outgoing) (n : Node File)
      : Type 0 where
    pub c : Outgoing
    pub o : Node File
    pub passes : Passes now a m Open c o
    pub writes : WritesSo now c o onward b n

  pub record Stops (now : ℕ) (a : Outgoing) (m : Node File) (onward : Onward) (b : Outgoing) (n : Node File) : Type 0 where
    pub passes : Passes now a m Close b n
    pub closes : onward ≡ Close

  abbrev pub Speaks : ℕ → Outgoing → Node File → Onward → Outgoing → Node File → Type 0
  Speaks now a m onward b n = PassesAndWrites now a m onward b n ⊎ Stops now a m onward b n

  pub record ListensAndSpeaks (now : ℕ) (a : Outgoing) (m : Node File) (onward : Onward) (b : Outgoing) (n : Node File)
      : Type 0 where
    pub c : Outgoing
    pub o : Node File
    pub listens : Listens now a m Open c o
    pub speaks : Speaks now c o onward b n

  pub record IsCutOff (now : ℕ) (a : Outgoing) (m : Node File) (onward : Onward) (b : Outgoing) (n : Node File) : Type 0 where
    pub listens : Listens now a m Close b n
    pub closes : onward ≡ Close

  abbrev pub Turns : ℕ → Outgoing → Node File → Onward → Outgoing → Node File → Type 0
  Turns now a m onward b n = ListensAndSpeaks now a m onward b n ⊎ IsCutOff now a m onward b n

  -- ---- a call

  pub record GoesOn (now : ℕ) (a : Outgoing) (m : Node File) (onward : Onward) (b : Outgoing) (n : Node File) : Type 0 where
    pub then_is : Outgoing
    pub turns : Turns now a m onward then_is n
    pub after : b ≡ closed_if onward then_is

  -- a call where the connection is closed, or not dialled, or the site has no such place
  pub record IsIdle (a : Outgoing) (m : Node File) (onward : Onward) (b : Outgoing) (n : Node File) : Type 0 where
    pub stays : Stays a m b n
    pub closes : onward ≡ Close
    pub idle : (a.is_closed ≡ true) ⊎ (a.is_dialled ≡ false) ⊎ (length m.peers ≤ a.place)

  abbrev pub GoesOnSo : ℕ → Outgoing → Node File → Onward → Outgoing → Node File → Type 0
  GoesOnSo now a m onward b n = GoesOn now a m onward b n ⊎ IsIdle a m onward b n

  -- the connection ended
  pub record Ends (now : ℕ) (a : Outgoing) (m : Node File) (n : Node File) : Type 0 where
    pub told : a.place < length m.peers → (action : Action) × Does a.place Ended now m action n
    pub other : length m.peers ≤ a.place → n ≡ m

-- What a call takes of what was heard on a connection that was accepted, and what becomes of the site.
use Rattle.std.specs.Prelude.{◌≡◌, ◌≢◌, ◌↔◌, ◌⊎◌, ℕ, ◌-◌, ◌<◌, ◌≤◌, Bool, true, false, List, [], ◌++◌, length, drop, ⊤, Option, None, Some}
use Rattle.cmh_model3.specs.declared.frame.Message.{Message}
use Rattle.cmh_wire3.specs.Wire.{spelled}
use Rattle.cmh_resume3.specs.Hello.{IsHelloFront, IsShortHello, answer_spelling, refusal_spelling}
use Rattle.cmh_resume3.specs.Stream.{IsItemFront, IsShortItem, acknowledgement_spelling, item_spelling}
use Rattle.cmh_resume3.specs.declared.acknowledgement.Acknowledgement.{Acknowledgement}
use Rattle.cmh_resume3.specs.declared.hello.Hello.{Hello}
use Rattle.cmh_resume3.specs.declared.hello.HelloFront.{HelloFront}
use Rattle.cmh_resume3.specs.declared.hello.HelloFront.TheVariants as Front
use Rattle.cmh_resume3.specs.declared.item.Item.TheVariants.{Message as Said, Note, Refused}
use Rattle.cmh_resume3.specs.declared.item.ItemFront.{ItemFront}
use Rattle.cmh_resume3.specs.declared.item.ItemFront.TheVariants.{Whole, Short, Bad}
use Rattle.cmh_resume3.specs.declared.refusal.Mismatch.{Mismatch}
use Rattle.cmh_resume3.specs.declared.refusal.Refusal.{Refusal}
use Rattle.cmh_resume3.specs.declared.refusal.Refusal.TheVariants.{OtherEdition}
use Rattle.cmh_station3.specs.Files.{Held}
use Rattle.cmh_node3.specs.Changes.{Admits, Ends, RefusesHello, Says, Tells}
use Rattle.cmh_node3.specs.Nodes.{AtPlace, Node, epoch_of}
use Rattle.cmh_node3.specs.Steps.{NotTakes, Takes}
use Rattle.cmh_node3.specs.declared.receiving.Admitted.{Admitted}
use Rattle.cmh_node3.specs.declared.receiving.NotTaken.{NotTaken}
use Rattle.cmh_node3.specs.declared.receiving.Taken.{Taken}
use Rattle.cmh_links3.specs.Connections.{Incoming, closed_if, says, with_unread}
use Rattle.cmh_links3.specs.declared.onward.Onward.{Onward}
use Rattle.cmh_links3.specs.declared.onward.Onward.TheVariants.{Open, Close}

-- Bytes were put behind what is to be written; where there is no room for them the connection is closed.
abbrev pub SaysSo : List ℕ → Incoming → Onward → Incoming → Type 0
SaysSo bytes a Open b = b ≡ says bytes a
SaysSo bytes a Close b = b ≡ a

abbrev pub SaidIfRoom : List ℕ → Incoming → Incoming → Type 0
SaidIfRoom bytes a b = (b ≡ says bytes a) ⊎ (b ≡ a)

abbrev pub owing : Bool → Incoming → Incoming
owing owes c = record c { owes = owes }

-- what is said is put behind what is to be written
abbrev pub QueuesSo : Option Acknowledgement → Incoming → Onward → Incoming → Type 0
QueuesSo None a onward b = (onward ≡ Open) × (b ≡ a)
QueuesSo (Some acknowledgement) a onward b = SaysSo (acknowledgement_spelling acknowledgement) (owing false a) onward b

-- What gives the connection up at a site of this epoch: no item, a note of a later epoch, or messages where memory was
-- refused.
abbrev pub IsHopeless : ℕ → ItemFront → Type 0
IsHopeless own Bad = ⊤
IsHopeless own (Whole (Said message) count) = ⊤
IsHopeless own (Whole (Note epoch) count) = own < epoch
IsHopeless own (Whole (Refused mismatch) count) = ⊥
IsHopeless own Short = ⊥

-- ---- whether more is heard

-- less than a hello, or where that was admitted less than an item
abbrev pub IsPart : Option ℕ → List ℕ → Type 0
IsPart None bytes = IsShortHello bytes
IsPart (Some place) bytes = IsShortItem bytes

abbrev pub BeginsHello : List ℕ → Type 0
BeginsHello bytes = (front : HelloFront) × IsHelloFront bytes front × (front ≢ Front.Short)

abbrev pub BeginsItem : List ℕ → Type 0
BeginsItem bytes = (front : ItemFront) × IsItemFront bytes front × (front ≢ Short)

-- something whole, or nothing that can become whole
abbrev pub IsMore : Option ℕ → List ℕ → Type 0
IsMore None bytes = BeginsHello bytes
IsMore (Some place) bytes = BeginsItem bytes

module _ {File : Type 0} where
  -- neither the connection nor the site changes
  pub record Stays (a : Incoming) (m : Node File) (b : Incoming) (n : Node File) : Type 0 where
    pub connection : b ≡ a
    pub node : n ≡ m

  -- ---- acknowledgements

  -- What the site says is to be acknowledged. Where it is sealed, nothing is.
  abbrev pub AnswersSo : ℕ → ℕ → Bool → Node File → Option Acknowledgement → Node File → Type 0
  AnswersSo place line filled m said n = (m.sealed ≡ None → Says place line filled m said n)
      × (m.sealed ≢ None → (said ≡ None) × (n ≡ m))

  -- the site was asked, and what it said was put behind what is to be written
  pub record IsAsked (place : ℕ) (a : Incoming) (m : Node File) (onward : Onward) (b : Incoming) (n : Node File) : Type 0 where
    pub said : Option Acknowledgement
    pub filled : Bool
    pub node : AnswersSo place a.line filled m said n
    pub queued : QueuesSo said a onward b

  -- nothing was taken since the last acknowledgement
  pub record OwesNothing (a : Incoming) (m : Node File) (onward : Onward) (b : Incoming) (n : Node File) : Type 0 where
    pub nothing : a.owes ≡ false
    pub stays : Stays a m b n
    pub goes_on : onward ≡ Open

  abbrev pub MayAcknowledge : ℕ → Incoming → Node File → Onward → Incoming → Node File → Type 0
  MayAcknowledge place a m onward b n = IsAsked place a m onward b n ⊎ OwesNothing a m onward b n

  -- ---- refusals, silence and what is no item

  -- They spell the sender's refusal.
  pub record HearsRefusal (place : ℕ) (a : Incoming) (m : Node File) (onward : Onward) (b : Incoming) (n : Node File)
      : Type 0 where
    pub mismatch : Mismatch
    pub rest : List ℕ
    pub unread : a.unread ≡ item_spelling (Refused mismatch) ++ rest
    pub tells : Tells place a.line mismatch m n
    pub connection : b ≡ with_unread rest a
    pub closes : onward ≡ Close

  -- the connection has not the claim of the link from the peer at this place, or nothing came on it for 30 s
  abbrev pub IsGone : ℕ → ℕ → ℕ → Node File → Type 0
  IsGone place line now m = AtPlace m place (λ peer. (peer.into.claim ≢ Some line) ⊎ (30000 ≤ now - peer.into.heard))

  pub record IsOver (place now : ℕ) (a : Incoming) (m : Node File) (onward : Onward) (b : Incoming) (n : Node File) : Type 0 where
    pub gone : IsGone place a.line now m
    pub closes : onward ≡ Close
    pub stays : Stays a m b n

  -- what becomes of it then, and of one that goes on
  abbrev pub Rests : ℕ → ℕ → Incoming → Node File → Onward → Incoming → Node File → Type 0
  Rests place now a m onward b n = IsOver place now a m onward b n ⊎ MayAcknowledge place a m onward b n

  -- Nothing whole was heard.
  pub record HearsNothing (place now : ℕ) (a : Incoming) (m : Node File) (onward : Onward) (b : Incoming) (n : Node File)
      : Type 0 where
    pub is_short : IsShortItem a.unread
    pub rests : Rests place now a m onward b n

  -- memory was refused
  pub record RunsOut (a : Incoming) (m : Node File) (onward : Onward) (b : Incoming) (n : Node File) : Type 0 where
    pub stays : Stays a m b n
    pub closes : onward ≡ Close

  pub record GivesUp (a : Incoming) (m : Node File) (onward : Onward) (b : Incoming) (n : Node File) : Type 0 where
    pub front : ItemFront
    pub is_front : IsItemFront a.unread front
    pub hopeless : IsHopeless (epoch_of m) front
    pub stays : Stays a m b n
    pub closes : onward ≡ Close

  -- ---- the end

  -- the connection ended, if it was one from a peer
  abbrev pub EndsFor : Option ℕ → ℕ → Node File → Node File → Type 0
  EndsFor None line m n = n ≡ m
  EndsFor (Some place) line m n = (place < length m.peers → Ends place line m n) × (length m.peers ≤ place → n ≡ m)

  -- ---- the hello

  -- it is refused, if there is room to say so
  pub record IsRefused (refusal : Refusal) (a : Incoming) (m : Node File) (onward : Onward) (b : Incoming) (n : Node File)
      : Type 0 where
    pub said : SaidIfRoom (refusal_spelling refusal) a b
    pub node : n ≡ m
    pub closes : onward ≡ Close

  pub record IsAdmitted (hello : Hello) (now : ℕ) (a : Incoming) (m : Node File) (onward : Onward) (b : Incoming) (n : Node File)
      : Type 0 where
    pub no_later : hello.epoch ≤ epoch_of m
    pub admitted : Admitted
    pub admits : Admits a.line now hello m admitted n
    pub said : SaysSo (answer_spelling admitted.answer) (record a { place = Some admitted.place }) onward b

  pub record IsNotAdmitted (hello : Hello) (a : Incoming) (m : Node File) (onward : Onward) (b : Incoming) (n : Node File)
      : Type 0 where
    pub refusal : Refusal
    pub refuses : RefusesHello hello m refusal
    pub said : IsRefused refusal a m onward b n

  pub record IsAhead (hello : Hello) (a : Incoming) (m : Node File) (onward : Onward) (b : Incoming) (n : Node File)
      : Type 0 where
    pub later : epoch_of m < hello.epoch
    pub stays : Stays a m b n
    pub closes : onward ≡ Close

  abbrev pub Claims : Hello → ℕ → Incoming → Node File → Onward → Incoming → Node File → Type 0
  Claims hello now a m onward b n = IsAdmitted hello now a m onward b n ⊎ IsNotAdmitted hello a m onward b n ⊎ IsAhead hello a m onward b n

  abbrev pub GreetsBy : HelloFront → ℕ → Incoming → Node File → Onward → Incoming → Node File → Type 0
  GreetsBy (Front.Whole hello) now a m onward b n = Claims hello now (with_unread (drop 28 a.unread) a) m onward b n
  GreetsBy Front.OtherEdition now a m onward b n = IsRefused OtherEdition a m onward b n
  GreetsBy Front.Bad now a m onward b n = (onward ≡ Close) × Stays a m b n
  GreetsBy Front.Short now a m onward b n = ((onward ≡ Close) ↔ (30000 ≤ now - a.since)) × Stays a m b n

  -- what a call takes where the hello was not admitted yet
  pub record Greets (now : ℕ) (a : Incoming) (m : Node File) (onward : Onward) (b : Incoming) (n : Node File) : Type 0 where
    pub front : HelloFront
    pub is_front : IsHelloFront a.unread front
    pub greets : GreetsBy front now a m onward b n

module _ {File : Type 0} (told : File → Option Held) (has_failed : File → Bool) where
  -- ---- messages

  -- all of them were accepted
  pub record TakesAll (place : ℕ) (messages : List Message) (now : ℕ) (a : Incoming) (m : Node File) (onward : Onward) (b : Incoming)
      (n : Node File) : Type 0 where
    pub taken : Taken
    pub between : Node File
    pub takes : Takes told has_failed place a.line messages now m taken between
    pub all : taken.count ≡ length messages
    pub said : MayAcknowledge place (owing true a) between onward b n

  -- not all of them
  pub record TakesSome (place : ℕ) (messages : List Message) (now : ℕ) (a : Incoming) (m : Node File) (onward : Onward) (b : Incoming)
      (n : Node File) : Type 0 where
    pub taken : Taken
    pub takes : Takes told has_failed place a.line messages now m taken n
    pub some : taken.count ≢ length messages
    pub connection : b ≡ a
    pub closes : onward ≡ Close

  -- none, and not for the rules
  pub record TakesNone (place : ℕ) (messages : List Message) (a : Incoming) (m : Node File) (onward : Onward) (b : Incoming)
      (n : Node File) : Type 0 where
    pub why : NotTaken
    pub not_taken : NotTakes told has_failed place a.line messages m why n
    pub connection : b ≡ a
    pub closes : onward ≡ Close

  -- these messages were given to the site
  abbrev pub Gives : ℕ → List Message → ℕ → Incoming → Node File → Onward → Incoming → Node File → Type 0
  Gives place messages now a m onward b n = TakesAll place messages now a m onward b n ⊎ TakesSome place messages now a m onward b n
      ⊎ TakesNone place messages a m onward b n

  -- The bytes in front spell messages, at most 64, and just these were given to the site, in their order.
  pub record HearsMessages (place now : ℕ) (a : Incoming) (m : Node File) (onward : Onward) (b : Incoming) (n : Node File)
      : Type 0 where
    pub messages : List Message
    pub rest : List ℕ
    pub unread : a.unread ≡ spelled messages ++ rest
    pub few : length messages ≤ 64
    pub given : Gives place messages now (with_unread rest a) m onward b n

  abbrev pub TakesMessages : ℕ → ℕ → Incoming → Node File → Onward → Incoming → Node File → Type 0
  TakesMessages place now a m onward b n = HearsMessages place now a m onward b n ⊎ RunsOut a m onward b n

  -- They spell a note of no later epoch: the site was told that something came.
  pub record HearsNote (place now : ℕ) (a : Incoming) (m : Node File) (onward : Onward) (b : Incoming) (n : Node File)
      : Type 0 where
    pub epoch : ℕ
    pub no_later : epoch ≤ epoch_of m
    pub rest : List ℕ
    pub unread : a.unread ≡ item_spelling (Note epoch) ++ rest
    pub given : Gives place [] now (with_unread rest a) m onward b n

  -- what a call takes where the hello was admitted
  abbrev pub Listens : ℕ → ℕ → Incoming → Node File → Onward → Incoming → Node File → Type 0
  Listens place now a m onward b n = HearsMessages place now a m onward b n ⊎ HearsNote place now a m onward b n
      ⊎ HearsRefusal place a m onward b n ⊎ HearsNothing place now a m onward b n ⊎ GivesUp a m onward b n

  -- ---- a call

  -- what it takes, or it closes where the site has no such place
  abbrev pub HearsNext : Option ℕ → ℕ → Incoming → Node File → Onward → Incoming → Node File → Type 0
  HearsNext None now a m onward b n = Greets now a m onward b n
  HearsNext (Some place) now a m onward b n = (place < length m.peers → Listens place now a m onward b n)
      × (length m.peers ≤ place → (onward ≡ Close) × Stays a m b n)

  pub record GoesOn (now : ℕ) (a : Incoming) (m : Node File) (onward : Onward) (b : Incoming) (n : Node File) : Type 0 where
    pub then_is : Incoming
    pub takes : HearsNext a.place now a m onward then_is n
    pub after : b ≡ closed_if onward then_is

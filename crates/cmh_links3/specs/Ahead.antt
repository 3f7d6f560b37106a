-- A later epoch, of which a site hears on a link.
use Rattle.std.specs.Prelude.{◌≡◌, ℕ, ◌+◌, ◌^◌, ◌/◌, ◌<◌, ◌≤◌, Bool, true, false, List, Option, None, Some}
use Rattle.cmh_resume3.specs.Hello.{IsHelloFront, IsReplyFront}
use Rattle.cmh_resume3.specs.Stream.{IsAcknowledgementFront, IsItemFront}
use Rattle.cmh_resume3.specs.declared.acknowledgement.Acknowledgement.{Acknowledgement}
use Rattle.cmh_resume3.specs.declared.acknowledgement.AcknowledgementFront.TheVariants as Said
use Rattle.cmh_resume3.specs.declared.answer.Answer.{Answer}
use Rattle.cmh_resume3.specs.declared.answer.ReplyFront.TheVariants as Reply
use Rattle.cmh_resume3.specs.declared.hello.Hello.{Hello}
use Rattle.cmh_resume3.specs.declared.hello.HelloFront.TheVariants as Front
use Rattle.cmh_resume3.specs.declared.item.Item.{Item}
use Rattle.cmh_resume3.specs.declared.item.Item.TheVariants.{Message as Sent, Note, Refused}
use Rattle.cmh_resume3.specs.declared.item.ItemFront.TheVariants.{Whole}

-- the epoch of a clock, which is its upper half
abbrev pub epoch_in : ℕ → ℕ
epoch_in clock = clock / 2 ^ 32

-- it is later than the site's, and no more than 65,536 epochs ahead
pub record IsAheadOf (own later : ℕ) : Type 0 where
  pub is_later : own < later
  pub near : later ≤ own + 65536

-- ---- what was heard

-- an item is of this epoch
abbrev pub IsOfEpoch : Item → ℕ → Type 0
IsOfEpoch (Sent message) epoch = epoch_in message.clock ≡ epoch
IsOfEpoch (Note said) epoch = said ≡ epoch
IsOfEpoch (Refused mismatch) epoch = ⊥

pub record HelloSays (bytes : List ℕ) (epoch : ℕ) : Type 0 where
  pub hello : Hello
  pub front : IsHelloFront bytes (Front.Whole hello)
  pub epoch_is : hello.epoch ≡ epoch

pub record ItemSays (bytes : List ℕ) (epoch : ℕ) : Type 0 where
  pub item : Item
  pub count : ℕ
  pub front : IsItemFront bytes (Whole item count)
  pub epoch_is : IsOfEpoch item epoch

-- From a sender: the hello, and once that was admitted an item.
abbrev pub IsHeard : Option ℕ → List ℕ → ℕ → Type 0
IsHeard None bytes epoch = HelloSays bytes epoch
IsHeard (Some place) bytes epoch = ItemSays bytes epoch

pub record AnswerSays (bytes : List ℕ) (epoch : ℕ) : Type 0 where
  pub answer : Answer
  pub front : IsReplyFront bytes (Reply.Answered answer)
  pub epoch_is : answer.hello.epoch ≡ epoch

pub record AcknowledgementSays (bytes : List ℕ) (epoch : ℕ) : Type 0 where
  pub acknowledgement : Acknowledgement
  pub front : IsAcknowledgementFront bytes (Said.Whole acknowledgement)
  pub epoch_is : acknowledgement.epoch ≡ epoch

-- From a receiver: the answer, and then an acknowledgement.
abbrev pub IsHeardBack : Bool → List ℕ → ℕ → Type 0
IsHeardBack false bytes epoch = AnswerSays bytes epoch
IsHeardBack true bytes epoch = AcknowledgementSays bytes epoch

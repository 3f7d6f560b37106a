-- What is said on a connection of a link after the reply. The sender says items: messages, notes, and a refusal at the
-- end. The receiver says acknowledgements. Numbers have the greatest byte first.
use Rattle.std.specs.Prelude.{◌≡◌, ℕ, ◌^◌, ◌<◌, ◌≤◌, ◌⊎◌, List, [], ◌∷◌, ◌++◌, length, take, ⊤}
use Rattle.byteorder.specs.Endian.{big_bytes}
use Rattle.cmh_wire3.specs.Wire.{IsLong, IsMessage, IsShort, spelling}
use Rattle.cmh_wire3.specs.Fronts.{Begins, BeginsNone}
use Rattle.cmh_resume3.specs.declared.acknowledgement.Acknowledgement.{Acknowledgement}
use Rattle.cmh_resume3.specs.declared.acknowledgement.AcknowledgementFront.{AcknowledgementFront}
use Rattle.cmh_resume3.specs.declared.acknowledgement.AcknowledgementFront.TheVariants as Ack
use Rattle.cmh_resume3.specs.declared.item.Item.{Item}
use Rattle.cmh_resume3.specs.declared.item.Item.TheVariants.{Message, Note, Refused}
use Rattle.cmh_resume3.specs.declared.item.ItemFront.{ItemFront}
use Rattle.cmh_resume3.specs.declared.item.ItemFront.TheVariants.{Whole, Short, Bad}
use Rattle.cmh_resume3.specs.Numbers.{mismatch_number}

-- a message: 13 or 23 bytes; a note, which tells the sender's epoch: 5 bytes; a refusal: 2 bytes
abbrev pub item_spelling : Item → List ℕ
item_spelling (Message message) = spelling message
item_spelling (Note epoch) = 5 ∷ big_bytes 4 epoch
item_spelling (Refused mismatch) = 0 ∷ mismatch_number mismatch ∷ []

abbrev pub IsItem : Item → Type 0
IsItem (Message message) = IsMessage message
IsItem (Note epoch) = epoch < 2 ^ 32
IsItem (Refused mismatch) = ⊤

-- less than an item of the kind that its first byte says
abbrev pub IsShortItem : List ℕ → Type 0
IsShortItem [] = ⊤
IsShortItem (kind ∷ body) =
    IsShort (kind ∷ body) ⊎ ((kind ≡ 5) × (length body < 4)) ⊎ ((kind ≡ 0) × (length body < 1))

-- what the bytes begin with: an item and how many bytes spell it, less than one, or none
abbrev pub IsItemFront : List ℕ → ItemFront → Type 0
IsItemFront bytes (Whole item n) = (n ≤ length bytes) × IsItem item × (take n bytes ≡ item_spelling item)
IsItemFront bytes Short = IsShortItem bytes
IsItemFront bytes Bad = ¬ IsShortItem bytes × BeginsNone IsItem item_spelling bytes

-- how many frames the receiver has, all synced, and its epoch: 13 bytes
abbrev pub acknowledgement_spelling : Acknowledgement → List ℕ
acknowledgement_spelling a = 6 ∷ big_bytes 8 a.count ++ big_bytes 4 a.epoch

pub record IsAcknowledgement (a : Acknowledgement) : Type 0 where
  pub count : IsLong a.count
  pub epoch : a.epoch < 2 ^ 32

-- no bytes, or fewer than 13 of which the first is that of an acknowledgement
abbrev pub IsShortAcknowledgement : List ℕ → Type 0
IsShortAcknowledgement [] = ⊤
IsShortAcknowledgement (kind ∷ body) = (kind ≡ 6) × (length body < 12)

abbrev pub IsAcknowledgementFront : List ℕ → AcknowledgementFront → Type 0
IsAcknowledgementFront bytes (Ack.Whole a) = (rest : List ℕ) × Begins IsAcknowledgement acknowledgement_spelling bytes a rest
IsAcknowledgementFront bytes Ack.Short = IsShortAcknowledgement bytes
IsAcknowledgementFront bytes Ack.Bad =
    ¬ IsShortAcknowledgement bytes × BeginsNone IsAcknowledgement acknowledgement_spelling bytes

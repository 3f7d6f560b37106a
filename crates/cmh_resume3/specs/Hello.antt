-- What is said first on a connection of a link: the sender's hello, and what the receiver says in reply. Each begins with
-- "CMH" and one byte more: the edition, or 0 in a refusal. Numbers have the greatest byte first.
use Rattle.std.specs.Prelude.{◌≡◌, ◌≢◌, ℕ, ◌^◌, ◌<◌, ◌⊎◌, List, [], ◌∷◌, ◌++◌, length}
use Rattle.byteorder.specs.Endian.{big_bytes}
use Rattle.cmh_runs.specs.Number.{IsNumber}
use Rattle.cmh_wire3.specs.Wire.{IsLong}
use Rattle.cmh_wire3.specs.Fronts.{Begins, BeginsNone}
use Rattle.cmh_resume3.specs.declared.answer.Answer.{Answer}
use Rattle.cmh_resume3.specs.declared.answer.ReplyFront.{ReplyFront}
use Rattle.cmh_resume3.specs.declared.answer.ReplyFront.TheVariants as Reply
use Rattle.cmh_resume3.specs.declared.hello.Hello.{Hello}
use Rattle.cmh_resume3.specs.declared.hello.HelloFront.{HelloFront}
use Rattle.cmh_resume3.specs.declared.hello.HelloFront.TheVariants.{Whole, Short, OtherEdition, Bad}
use Rattle.cmh_resume3.specs.declared.refusal.Refusal.{Refusal}
use Rattle.cmh_resume3.specs.Numbers.{refusal_number}

-- "CMH", and this byte
abbrev pub titled : ℕ → List ℕ → List ℕ
titled edition behind = 67 ∷ 77 ∷ 72 ∷ edition ∷ behind

-- the world, the site that speaks, the one to which it speaks, and the epoch of the one that speaks
abbrev pub places_spelling : Hello → List ℕ
places_spelling h = h.world ++ (big_bytes 2 h.from ++ (big_bytes 2 h.to ++ big_bytes 4 h.epoch))

pub record IsHello (h : Hello) : Type 0 where
  pub world : length h.world ≡ 16
  pub from : IsNumber h.from
  pub to : IsNumber h.to
  pub epoch : h.epoch < 2 ^ 32

-- a hello: 28 bytes
abbrev pub hello_spelling : Hello → List ℕ
hello_spelling h = titled 3 (places_spelling h)

-- an answer: a hello in the other direction, how many frames the receiver has, and their mark; 44 bytes
abbrev pub answer_spelling : Answer → List ℕ
answer_spelling a = titled 3 (places_spelling a.hello ++ (big_bytes 8 a.count ++ big_bytes 8 a.mark))

pub record IsAnswer (a : Answer) : Type 0 where
  pub hello : IsHello a.hello
  pub count : IsLong a.count
  pub mark : IsLong a.mark

-- a refusal in the place of an answer: 5 bytes
abbrev pub refusal_spelling : Refusal → List ℕ
refusal_spelling r = titled 0 (refusal_number r ∷ [])

-- the bytes have "CMH" and this byte in front, and are fewer than so many
pub record IsUnfinished (edition : ℕ) (whole : ℕ) (bytes : List ℕ) : Type 0 where
  pub behind : List ℕ
  pub few : length bytes < whole
  pub bytes_are : bytes ≡ titled edition behind

-- less than a hello: fewer than 4 bytes, or fewer than 28 with the front of one
abbrev pub IsShortHello : List ℕ → Type 0
IsShortHello bytes = (length bytes < 4) ⊎ IsUnfinished 3 28 bytes

-- the bytes begin as a hello of another edition does
pub record IsOfOtherEdition (bytes : List ℕ) : Type 0 where
  pub edition : ℕ
  pub behind : List ℕ
  pub byte : edition < 256
  pub other : edition ≢ 3
  pub bytes_are : bytes ≡ titled edition behind

-- what the bytes begin with: a hello, less than one, one of another edition, or none of these
abbrev pub IsHelloFront : List ℕ → HelloFront → Type 0
IsHelloFront bytes (Whole hello) = (rest : List ℕ) × Begins IsHello hello_spelling bytes hello rest
IsHelloFront bytes Short = IsShortHello bytes
IsHelloFront bytes OtherEdition = IsOfOtherEdition bytes
IsHelloFront bytes Bad = ¬ IsShortHello bytes × ¬ IsOfOtherEdition bytes × BeginsNone IsHello hello_spelling bytes

-- less than a reply: fewer than 4 bytes, or fewer than 44 with the front of an answer, or than 5 with that of a refusal
abbrev pub IsShortReply : List ℕ → Type 0
IsShortReply bytes = (length bytes < 4) ⊎ IsUnfinished 3 44 bytes ⊎ IsUnfinished 0 5 bytes

-- what the bytes begin with: an answer, a refusal, less than one of these, or none
abbrev pub IsReplyFront : List ℕ → ReplyFront → Type 0
IsReplyFront bytes (Reply.Answered answer) = (rest : List ℕ) × Begins IsAnswer answer_spelling bytes answer rest
IsReplyFront bytes (Reply.Refused refusal) = (rest : List ℕ) × (bytes ≡ refusal_spelling refusal ++ rest)
IsReplyFront bytes Reply.Short = IsShortReply bytes
IsReplyFront bytes Reply.Bad = ¬ IsShortReply bytes × BeginsNone IsAnswer answer_spelling bytes
    × ((refusal : Refusal) (rest : List ℕ) → bytes ≢ refusal_spelling refusal ++ rest)

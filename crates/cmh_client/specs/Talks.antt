-- What a client and a service said to each other.
use Rattle.std.specs.Prelude.{◌≡◌, ℕ, List, [], ◌∷◌, ◌++◌, length, flat_map, Option, None, Some}
use Rattle.cmh_client.specs.Clients.{State}
use Rattle.cmh_client.specs.Lines.{BeginsWith}

-- what a service says, whole: the answer to a line, or news
pub data Turn : Type 0 where
  answer : (line text : List ℕ) → Turn
  news : (text : List ℕ) → Turn

abbrev pub turn_text : Turn → List ℕ
turn_text (answer line text) = text
turn_text (news text) = text

-- the lines that were answered, in the order of their answers
abbrev pub lines_of : List Turn → List (List ℕ)
lines_of [] = []
lines_of (answer line text ∷ turns) = line ∷ lines_of turns
lines_of (news text ∷ turns) = lines_of turns

-- the news that was told, in its order
abbrev pub news_of : List Turn → List (List ℕ)
news_of [] = []
news_of (answer line text ∷ turns) = news_of turns
news_of (news text ∷ turns) = text ∷ news_of turns

-- the bytes that a client sent before it said its last; the turns of the service; the lines that wait for theirs, and those that
-- were passed over; and the bytes that were sent to the client
pub record Talk : Type 0 where
  pub heard : List ℕ
  pub turns : List Turn
  pub waiting : List (List ℕ)
  pub passed : List (List ℕ)
  pub said : List ℕ

abbrev pub silence : Talk
silence = record { heard = []; turns = []; waiting = []; passed = []; said = [] }

abbrev pub count_of : Option ℕ → ℕ
count_of None = 0
count_of (Some told) = told

-- The client has had this talk.
pub record HasHad (client : State) (talk : Talk) : Type 0 where
  -- the lines that were answered and those that wait are the first of its bytes, in their order, each once
  pub lines : BeginsWith talk.heard (lines_of talk.turns ++ talk.waiting) talk.passed client.unread
  pub waits : length talk.waiting ≡ client.waiting
  -- what was sent to it and what is to be sent are the texts of the turns, and nothing else
  pub text : talk.said ++ client.to_say ≡ flat_map turn_text talk.turns
  pub told : length (news_of talk.turns) ≡ count_of client.told

-- A client whose lines are answered as they mean, and who is told a list that grows.
use Rattle.std.specs.Prelude.{◌≡◌, ◌⊎◌, ℕ, ◌<◌, List, [], ◌∷◌, ◌++◌, drop, map, slice_index_or, take, Option, None, Some, ⊤}
use Rattle.std.specs.Io.BufRead.{take_through}
use Rattle.cmh_client.specs.Clients.{State, answers, carries, closes, fresh, hears, leaves, skips, takes, tells, untold, watches}
use Rattle.cmh_client.specs.Lines.{HasFeed}
use Rattle.cmh_client.specs.Talks.{HasHad, Talk, Turn, answer, news, news_of, silence}
use Rattle.cmh_client.specs.Wishes.{NextMeans}
use Rattle.cmh_client.specs.declared.language.Meaning.{Meaning}
use Rattle.cmh_client.specs.declared.language.Meaning.TheVariants.{Event, Question}

-- the client; the events that its waiting lines mean, in their order; and the list that it was told
pub record Served (E T : Type 0) : Type 0 where
  pub client : State
  pub events : List E
  pub told : List T

-- ---- what each call makes of it

abbrev pub unserved : {E T : Type 0} → Served E T
unserved = record { client = fresh; events = []; told = [] }

-- the same of the client alone
abbrev pub with_client : {E T : Type 0} → Served E T → State → Served E T
with_client served client = record { client = client; events = served.events; told = served.told }

-- its next line, which means this event, waits behind those that wait
abbrev pub takes_event : {E T : Type 0} → Served E T → E → Served E T
takes_event served event = record { client = takes served.client; events = served.events ++ event ∷ []; told = served.told }

-- the first event that waited was answered by this text
abbrev pub answers_first : {E T : Type 0} → Served E T → List ℕ → Served E T
answers_first served text = record { client = answers served.client text; events = drop 1 served.events; told = served.told }

-- its next line was taken, and answered at once by this text
abbrev pub replies : {E T : Type 0} → Served E T → List ℕ → Served E T
replies served text = with_client served (answers (takes served.client) text)

-- who watches was told this list
abbrev pub told_then : {T : Type 0} → Option ℕ → List T → List T → List T
told_then None before items = before
told_then (Some count) before items = items

abbrev pub tells_list : {E T : Type 0} → (T → List ℕ) → Served E T → List T → Served E T
tells_list line served items = record {
  client = tells line served.client items;
  events = served.events;
  told = told_then served.client.told served.told items;
}

-- the items begin with those
abbrev pub GoesOn : {T : Type 0} → List T → List T → Type 0
GoesOn {T} before items = (more : List T) × (items ≡ before ++ more)

-- who watches is told a list that goes on from that which it was told
abbrev pub MayTell : {E T : Type 0} → Served E T → List T → Type 0
MayTell served items = (count : ℕ) → served.client.told ≡ Some count → GoesOn served.told items

-- ---- what was said

-- the line means an event or a question, and the text answers that
abbrev pub IsAnswer : {E Q : Type 0} → (List ℕ → Meaning E Q → Type 0) → (E → List ℕ → Type 0) → (Q → List ℕ → Type 0)
    → List ℕ → List ℕ → Type 0
IsAnswer {E} {Q} Means Answers Replies line text =
    ((event : E) × Means line (Event event) × Answers event text) ⊎ ((question : Q) × Means line (Question question) × Replies question text)

-- each line that was answered has an answer of its own
abbrev pub AreAnswers : {E Q : Type 0} → (List ℕ → Meaning E Q → Type 0) → (E → List ℕ → Type 0) → (Q → List ℕ → Type 0)
    → List Turn → Type 0
AreAnswers Means Answers Replies [] = ⊤
AreAnswers Means Answers Replies (answer line text ∷ turns) =
    IsAnswer Means Answers Replies line text × AreAnswers Means Answers Replies turns
AreAnswers Means Answers Replies (news text ∷ turns) = AreAnswers Means Answers Replies turns

-- each line means the event at its place
abbrev pub MeanEvents : {E Q : Type 0} → (List ℕ → Meaning E Q → Type 0) → List (List ℕ) → List E → Type 0
MeanEvents Means [] [] = ⊤
MeanEvents Means [] (event ∷ events) = ⊥
MeanEvents Means (line ∷ lines) [] = ⊥
MeanEvents Means (line ∷ lines) (event ∷ events) = Means line (Event event) × MeanEvents Means lines events

-- The client has had this talk, in which each answer was one to its line, and the news were the list, in its order.
pub record IsServed {E Q T : Type 0} (Means : List ℕ → Meaning E Q → Type 0) (Answers : E → List ℕ → Type 0)
    (Replies : Q → List ℕ → Type 0) (line : T → List ℕ) (served : Served E T) (talk : Talk) : Type 0 where
  pub had : HasHad served.client talk
  pub answers_are : AreAnswers Means Answers Replies talk.turns
  pub events_are : MeanEvents Means talk.waiting served.events
  pub news_are : news_of talk.turns ≡ map line served.told

-- What becomes of who was served and of the talk at each call.
pub record Serves {E Q T : Type 0} (Means : List ℕ → Meaning E Q → Type 0) (Answers : E → List ℕ → Type 0) (Replies : Q → List ℕ → Type 0)
    (line : T → List ℕ) (Is : Served E T → Talk → Type 0) : Type 0 where
  -- it begins with silence
  pub unserved_is : Is unserved silence
  -- what it sends is heard after what it sent before
  pub heard : (served : Served E T) (talk : Talk) (bytes : List ℕ) → Is served talk
      → Is (with_client served (hears served.client bytes)) (record talk { heard = talk.heard ++ bytes })
  -- a line that means an event waits behind those that wait
  pub took : (served : Served E T) (talk : Talk) (event : E) → Is served talk → NextMeans Means served.client (Event event)
      → Is (takes_event served event) (record talk { waiting = talk.waiting ++ take_through 10 served.client.unread ∷ [] })
  pub skipped : (served : Served E T) (talk : Talk) → Is served talk → HasFeed served.client.unread
      → Is (with_client served (skips served.client)) (record talk { passed = talk.passed ++ take_through 10 served.client.unread ∷ [] })
  -- the answer to the first event that waits is one to its line
  pub answered : (served : Served E T) (talk : Talk) (event : E) (text : List ℕ) → Is served talk → 0 < served.client.waiting
      → event ≡ slice_index_or served.events 0 event → Answers event text
      → (line : List ℕ) × (others : List (List ℕ)) × (talk.waiting ≡ line ∷ others)
      × Is (answers_first served text) (record talk { turns = talk.turns ++ answer line text ∷ []; waiting = others })
  -- a question is answered once no line waits
  pub replied : (served : Served E T) (talk : Talk) (question : Q) (text : List ℕ) → Is served talk → served.client.waiting ≡ 0
      → NextMeans Means served.client (Question question) → Replies question text
      → Is (replies served text) (record talk { turns = talk.turns ++ answer (take_through 10 served.client.unread) text ∷ [] })
  -- of a list that goes on from the one that it was told, what it was not told is told
  pub told_more : (served : Served E T) (talk : Talk) (items : List T) → Is served talk → MayTell served items
      → Is (tells_list line served items)
      (record talk { turns = talk.turns ++ map (λ item. news (line item)) (untold served.client.told items) })
  pub sent : (served : Served E T) (talk : Talk) (count : ℕ) → Is served talk
      → Is (with_client served (carries served.client count)) (record talk { said = talk.said ++ take count served.client.to_say })
  -- nothing else changes what was said
  pub watched : (served : Served E T) (talk : Talk) → Is served talk → Is (with_client served (watches served.client)) talk
  pub left : (served : Served E T) (talk : Talk) → Is served talk → Is (with_client served (leaves served.client)) talk
  pub closed : (served : Served E T) (talk : Talk) → Is served talk → Is (with_client served (closes served.client)) talk

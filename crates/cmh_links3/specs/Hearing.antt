-- What is taken of the bytes that were heard.
use Rattle.std.specs.Prelude.{◌≡◌, ℕ, ◌≤◌, List, [], length, take, Option, None, Some}
use Rattle.cmh_model3.specs.declared.frame.Message.{Message}
use Rattle.cmh_wire3.specs.Wire.{spelled}

-- these messages, at most 64, stand in front of the bytes, in so many of them
pub record IsBatch (bytes : List ℕ) (count : ℕ) (messages : List Message) : Type 0 where
  pub within : count ≤ length bytes
  pub spell : take count bytes ≡ spelled messages
  pub few : length messages ≤ 64

-- the messages that stand first in what was heard, at most 64; none before the hello was admitted
abbrev pub AreUpcoming : Option ℕ → List ℕ → List Message → Type 0
AreUpcoming None bytes messages = messages ≡ []
AreUpcoming (Some place) bytes messages = (count : ℕ) × IsBatch bytes count messages

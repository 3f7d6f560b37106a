-- Events that a station is given together.
use Rattle.std.specs.Prelude.{ℕ, List, [], ◌∷◌, length, Option, Result, Ok, Err, flat_map}
use Rattle.std.specs.Io.KnownBytes.{Appends}
use Rattle.cmh_frames.specs.declared.event.Event.{Event}
use Rattle.cmh_frames.specs.Entries.{Outcome}
use Rattle.cmh_station.specs.declared.refusal.StationRefusal.{StationRefusal}
use Rattle.cmh_talk.specs.SiteReplies.{reply_text}
use Rattle.cmh_talk.specs.Steps.{WasStepped}
use Rattle.cmh_talk.specs.declared.site_reply.SiteReply.{SiteReply}
use Rattle.cmh_talk.specs.declared.site_reply.SiteReply.TheVariants.{Taken, Refused}

-- what is written for what a station answered
abbrev pub reply_of : Result Outcome StationRefusal → SiteReply
reply_of (Ok outcome) = Taken (record { sent = length outcome.sent; declared = outcome.declared })
reply_of (Err refusal) = Refused refusal

-- the text that is written for it
abbrev pub answer_text : Result Outcome StationRefusal → List ℕ
answer_text answer = reply_text (reply_of answer)

-- a reply for each event, in their order
abbrev pub AreStepped : List Event → List SiteReply → Type 0
AreStepped [] [] = Unit {0}
AreStepped [] (reply ∷ replies) = ⊥
AreStepped (event ∷ events) [] = ⊥
AreStepped (event ∷ events) (reply ∷ replies) = WasStepped event reply × AreStepped events replies

-- the same of what a station answered
abbrev pub AreTaken : List Event → List (Result Outcome StationRefusal) → Type 0
AreTaken [] [] = Unit {0}
AreTaken [] (answer ∷ answers) = ⊥
AreTaken (event ∷ events) [] = ⊥
AreTaken (event ∷ events) (answer ∷ answers) = WasStepped event (reply_of answer) × AreTaken events answers

-- the first of these events was refused
abbrev pub FirstRefused : List Event → StationRefusal → Type 0
FirstRefused [] refusal = ⊥
FirstRefused (event ∷ events) refusal = WasStepped event (Refused refusal)

-- a reply for each event was written
pub record WereAnswered (events : List Event) (old new : Option (List ℕ)) : Type 0 where
  pub replies : List SiteReply
  pub are : AreStepped events replies
  pub wrote : Appends old new (flat_map reply_text replies)

-- What clients are answered.
use Rattle.std.specs.Prelude.{◌≡◌, ◌⊎◌, ℕ, ◌-◌, List, length, Option, None, Some, Result, Ok, Err}
use Rattle.cmh_frames.specs.Declarations.{declarations}
use Rattle.cmh_frames.specs.Entries.{Outcome}
use Rattle.cmh_frames.specs.Topology.{Topology}
use Rattle.cmh_frames.specs.declared.event.Event.{Event}
use Rattle.cmh_controller.specs.declared.refusal.Refusal.TheVariants.{Memory}
use Rattle.cmh_journal.specs.Journal.{entry_limit}
use Rattle.cmh_talk.specs.Ends.{TellsLinks}
use Rattle.cmh_talk.specs.Steps.{IsDeclared, WasStepped}
use Rattle.cmh_talk.specs.declared.site_reply.SiteReply.{SiteReply}
use Rattle.cmh_talk.specs.declared.site_reply.SiteReply.TheVariants as site
use Rattle.cmh_station.specs.Journaled.{Journaled}
use Rattle.cmh_station.specs.Questions.{Owes, WaitsFor, WasNoQuestion}
use Rattle.cmh_station.specs.declared.refusal.StationRefusal.{StationRefusal}
use Rattle.cmh_station.specs.declared.refusal.StationRefusal.TheVariants.{Disk, Rule}
use Rattle.cmh_talk.specs.Texts.{as_site, event_text, reply_text}
use Rattle.cmh_talk.specs.declared.reply.EventReply.{EventReply}
use Rattle.cmh_talk.specs.declared.reply.EventReply.TheVariants.{Refused, Taken, Declared as DeclaredToo}
use Rattle.cmh_talk.specs.declared.reply.Reply.{Reply}
use Rattle.cmh_talk.specs.declared.reply.Reply.TheVariants.{Site, Waits, Owed, Watching, Status as StatusReply}
use Rattle.cmh_talk.specs.declared.reply.Status.{Status}
use Rattle.cmh_talk.specs.declared.said.Said.{Said}
use Rattle.cmh_talk.specs.declared.said.Said.TheVariants as said

-- ---- events

-- a station stepped the event or refused it; or the disk failed under a sync that it was to share
abbrev pub IsReply : Event → EventReply → Type 0
IsReply event reply = WasStepped event (as_site reply) ⊎ (reply ≡ Refused Disk)

-- so many frames were sent, and this process was declared, if one was
abbrev pub taken : ℕ → Option ℕ → EventReply
taken sent None = Taken sent
taken sent (Some process) = DeclaredToo sent process

-- the reply to what a station answered
abbrev pub event_reply_of : Result Outcome StationRefusal → EventReply
event_reply_of (Ok outcome) = taken (length outcome.sent) outcome.declared
event_reply_of (Err refusal) = Refused refusal

-- the text of such a reply
abbrev pub AnswersEvent : Event → List ℕ → Type 0
AnswersEvent event text = ∥ ((reply : EventReply) × IsReply event reply × (text ≡ event_text reply)) ∥₁

-- ---- questions

-- a station refuses a question about the process
abbrev pub RefusesToSay : ℕ → SiteReply → Type 0
RefusesToSay process (site.Refused refusal) = WasNoQuestion process refusal
RefusesToSay process reply = ⊥

-- the figures of a station's state
pub record IsStatusOf (status : Status) : Type 0 where
  pub station : Journaled
  pub entries : status.entries ≡ length station.entries
  pub room : status.room ≡ entry_limit - length station.entries
  pub declared : status.declared ≡ length (declarations station.entries)
  pub sealed : status.is_sealed ≡ station.sealed

-- memory for the answer was refused
abbrev pub WasShort : SiteReply → Type 0
WasShort reply = reply ≡ site.Refused (Rule Memory)

abbrev pub AnswersWaits : ℕ → Reply → Type 0
AnswersWaits process (Waits named others) = (named ≡ process) × WaitsFor process others.items
AnswersWaits process (Site reply) = RefusesToSay process reply
AnswersWaits process reply = ⊥

abbrev pub AnswersOwed : ℕ → Reply → Type 0
AnswersOwed process (Owed named others) = (named ≡ process) × Owes process others.items
AnswersOwed process (Site reply) = RefusesToSay process reply
AnswersOwed process reply = ⊥

abbrev pub AnswersStatus : Reply → Type 0
AnswersStatus (StatusReply status) = IsStatusOf status
AnswersStatus (Site reply) = WasShort reply
AnswersStatus reply = ⊥

-- as a site does, or memory was refused
abbrev pub AnswersAs : (SiteReply → Type 0) → Reply → Type 0
AnswersAs Is (Site reply) = Is reply ⊎ WasShort reply
AnswersAs Is reply = ⊥

-- what a site of a topology answers to a line that is no event
abbrev pub AnswersSaid : Topology → ℕ → Said → Reply → Type 0
AnswersSaid t number said.Declared reply = AnswersAs (IsDeclared number) reply
AnswersSaid t number said.Links reply = AnswersAs (TellsLinks t number) reply
AnswersSaid t number (said.Waits process) reply = AnswersWaits process reply
AnswersSaid t number (said.Owed process) reply = AnswersOwed process reply
AnswersSaid t number said.Watch reply = reply ≡ Watching
AnswersSaid t number said.Status reply = AnswersStatus reply
AnswersSaid t number (said.Event line) reply = reply ≡ Site site.BadLine
AnswersSaid t number said.Quit reply = reply ≡ Site site.BadLine

-- Some site of some topology answers this. Which one it is is not told: it comes out of a lock.
abbrev pub WasAnswered : Said → Reply → Type 0
WasAnswered line reply = (t : Topology) × (number : ℕ) × AnswersSaid t number line reply

-- the text of such an answer
abbrev pub AnswersQuestion : Said → List ℕ → Type 0
AnswersQuestion line text = (reply : Reply) × WasAnswered line reply × (text ≡ reply_text reply)

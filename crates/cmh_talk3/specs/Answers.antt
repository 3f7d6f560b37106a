-- What a running site answers, by how it stands.
use Rattle.std.specs.Prelude.{◌≡◌, ◌⊎◌, ℕ, ◌+◌, ◌-◌, ◌^◌, min, Bool, true, false, List, [], ◌∷◌, length, map, Option, Result, if◌then◌else◌, ⊤}
use Rattle.std.specs.List.Sorted.{IsStrictlyIncreasing}
use Rattle.cmh_controller3.specs.Controller.{Controller, home_of, state_of}
use Rattle.cmh_controller3.specs.Refusals.{IsElsewhere}
use Rattle.cmh_controller3.specs.declared.outcome.Outcome.{Outcome}
use Rattle.cmh_controller3.specs.declared.refusal.Refusal.{Refusal as Rule}
use Rattle.cmh_controller3.specs.declared.refusal.Refusal.TheVariants.{NotHere, UnknownProcess}
use Rattle.cmh_journaled.specs.declared.refusal.Refusal.{Refusal as Reason}
use Rattle.cmh_model3.specs.Lists.{in_list}
use Rattle.cmh_node3.specs.Nodes.{Node}
use Rattle.cmh_node3.specs.declared.sealed.Sealed.{Sealed}
use Rattle.cmh_node3.specs.declared.stepping.NotStepped.{NotStepped}
use Rattle.cmh_node3.specs.declared.peer.Peer.{Peer}
use Rattle.cmh_talk3.specs.Links.{into_state, out_state, states_of}
use Rattle.cmh_talk3.specs.Numbers.{reply_of, reply_of_none, reply_while_waiting}
use Rattle.cmh_talk3.specs.Texts.{event_text, reply_text}
use Rattle.cmh_talk3.specs.declared.deed.Deed.{Deed}
use Rattle.cmh_talk3.specs.declared.deed.Question.{Question}
use Rattle.cmh_talk3.specs.declared.deed.Question.TheVariants as asks
use Rattle.cmh_talk3.specs.declared.link_state.IntoState.{IntoState}
use Rattle.cmh_talk3.specs.declared.link_state.IntoState.TheVariants as into
use Rattle.cmh_talk3.specs.declared.link_state.OutState.{OutState}
use Rattle.cmh_talk3.specs.declared.link_state.OutState.TheVariants as out
use Rattle.cmh_talk3.specs.declared.reply.EventReply.{EventReply}
use Rattle.cmh_talk3.specs.declared.reply.Figures.{Figures}
use Rattle.cmh_talk3.specs.declared.reply.EventReply.TheVariants as replies
use Rattle.cmh_talk3.specs.declared.reply.Reply.{Reply}
use Rattle.cmh_talk3.specs.declared.reply.Reply.TheVariants.{BadLine, Declared, Waits, Owed, Leaving, Refused, Links, Status as StatusReply, Turned, Ok}
use Rattle.cmh_talk3.specs.declared.reply.Status.{Status}

-- How a site stands: its controller, the ends of its links, the entries of its journal, why it has stopped, its clients.
pub record Standing : Type 0 where
  pub controller : Controller
  pub peers : List Peer
  pub entries : ℕ
  pub sealed : Option Sealed
  pub clients : ℕ

abbrev pub standing_of : {File : Type 0} → Node File → Figures → Standing
standing_of n figures = record {
  controller = n.station.machine.controller;
  peers = n.peers;
  entries = n.station.kept.count;
  sealed = n.sealed;
  clients = figures.clients;
}

-- ---- questions about a process

-- the process is unknown, or at another site
abbrev pub RefusesProcess : Controller → ℕ → Rule → Type 0
RefusesProcess c p UnknownProcess = home_of c p ≡ 0
RefusesProcess c p NotHere = IsElsewhere (home_of c) c.site p
RefusesProcess c p refusal = ⊥

-- it is one of the site, and waits for just these
pub record WaitsFor (c : Controller) (p : ℕ) (others : List ℕ) : Type 0 where
  pub here : home_of c p ≡ c.site
  pub all : others ≡ (state_of c).waits p

-- the same of those whom it has not answered
pub record Owes (c : Controller) (p : ℕ) (others : List ℕ) : Type 0 where
  pub here : home_of c p ≡ c.site
  pub ascending : IsStrictlyIncreasing others
  pub all : (j : ℕ) → in_list others j ≡ (state_of c).owed p j

-- and of those whom it can't ask again yet
pub record IsLeaving (c : Controller) (p : ℕ) (others : List ℕ) : Type 0 where
  pub here : home_of c p ≡ c.site
  pub ascending : IsStrictlyIncreasing others
  pub all : (k : ℕ) → in_list others k ≡ (state_of c).leaving p k

abbrev pub AnswersWaits : Controller → ℕ → Reply → Type 0
AnswersWaits c p (Waits named others) = (named ≡ p) × WaitsFor c p others.items
AnswersWaits c p (Refused refusal) = RefusesProcess c p refusal
AnswersWaits c p reply = ⊥

abbrev pub AnswersOwed : Controller → ℕ → Reply → Type 0
AnswersOwed c p (Owed named others) = (named ≡ p) × Owes c p others.items
AnswersOwed c p (Refused refusal) = RefusesProcess c p refusal
AnswersOwed c p reply = ⊥

abbrev pub AnswersLeaving : Controller → ℕ → Reply → Type 0
AnswersLeaving c p (Leaving named others) = (named ≡ p) × IsLeaving c p others.items
AnswersLeaving c p (Refused refusal) = RefusesProcess c p refusal
AnswersLeaving c p reply = ⊥

-- ---- questions about the site

-- those in declared now
pub record AreDeclared (c : Controller) (processes : List ℕ) : Type 0 where
  pub ascending : IsStrictlyIncreasing processes
  pub all : (p : ℕ) → in_list processes p ≡ (state_of c).declared p

abbrev pub is_open_out : OutState → Bool
is_open_out out.Open = true
is_open_out state = false

abbrev pub is_open_into : IntoState → Bool
is_open_into into.Open = true
is_open_into state = false

abbrev pub open_out : List Peer → ℕ
open_out [] = 0
open_out (peer ∷ peers) = if is_open_out (out_state peer.out) then open_out peers + 1 else open_out peers

abbrev pub open_into : List Peer → ℕ
open_into [] = 0
open_into (peer ∷ peers) = if is_open_into (into_state peer.into) then open_into peers + 1 else open_into peers

-- the messages that are kept, and so many more; where it is more than a number can be, the greatest
abbrev pub kept_after : ℕ → List Peer → ℕ
kept_after total [] = total
kept_after total (peer ∷ peers) = kept_after (min (total + length peer.out.kept) (2 ^ 64 - 1)) peers

pub record IsStatus (at : Standing) (status : Status) : Type 0 where
  pub entries : status.entries ≡ at.entries
  pub processes : List ℕ
  pub are_declared : AreDeclared at.controller processes
  pub declared : status.declared ≡ length processes
  pub clients : status.clients ≡ at.clients
  pub open_links : (status.open_out ≡ open_out at.peers) × (status.open_in ≡ open_into at.peers)
  pub kept : status.kept ≡ kept_after 0 at.peers
  pub sealed : status.sealed ≡ at.sealed

abbrev pub AnswersDeclared : Controller → Reply → Type 0
AnswersDeclared c (Declared site processes) = (site ≡ c.site) × AreDeclared c processes.items
AnswersDeclared c reply = ⊥

abbrev pub AnswersLinks : List Peer → Reply → Type 0
AnswersLinks peers (Links links) = links.items ≡ map states_of peers
AnswersLinks peers reply = ⊥

abbrev pub AnswersStatus : Standing → Reply → Type 0
AnswersStatus at (StatusReply status) = IsStatus at status
AnswersStatus at reply = ⊥

-- ---- all questions

abbrev pub Answers : Standing → Question → Reply → Type 0
Answers at asks.Declared reply = AnswersDeclared at.controller reply
Answers at (asks.Waits process) reply = AnswersWaits at.controller process reply
Answers at (asks.Owed process) reply = AnswersOwed at.controller process reply
Answers at (asks.Leaving process) reply = AnswersLeaving at.controller process reply
Answers at asks.Links reply = AnswersLinks at.peers reply
Answers at asks.Status reply = AnswersStatus at reply
Answers at asks.Watch reply = reply ≡ Ok
Answers at (asks.Tail count) reply = reply ≡ BadLine
Answers at asks.Turn reply = reply ≡ BadLine
Answers at asks.Bad reply = reply ≡ BadLine

-- ---- what a client is sent

-- The epoch in which the site is, or why it did not begin the next one.
abbrev pub AnswersTurn : List ℕ → Type 0
AnswersTurn text = ((epoch : ℕ) × (text ≡ reply_text (Turned epoch))) ⊎ ((number : ℕ) × (text ≡ event_text (replies.Refused number)))

-- The text of such an answer, of some site as it stands at some moment. What `tail` answers has lines of the journal.
abbrev pub AnswersQuestion : Question → List ℕ → Type 0
AnswersQuestion (asks.Tail count) text = ⊤
AnswersQuestion asks.Turn text = AnswersTurn text
AnswersQuestion question text = (at : Standing) × (reply : Reply) × Answers at question reply × (text ≡ reply_text reply)

-- the reply to an answer of a node for one event, or to why it took none; or that it was given none yet
abbrev pub IsReply : EventReply → Type 0
IsReply reply = ((answer : Result Outcome (Reason Rule)) × (reply ≡ reply_of answer)) ⊎ ((why : NotStepped) × (reply ≡ reply_of_none why))
    ⊎ (reply ≡ reply_while_waiting)

abbrev pub AnswersDeed : Deed → List ℕ → Type 0
AnswersDeed deed text = (reply : EventReply) × IsReply reply × (text ≡ event_text reply)

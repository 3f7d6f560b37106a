-- Replies to events that were given to a station together or one by one, and texts of replies.
use Rattle.std.proofs.Common.{◌≡◌, ℕ, zero, suc, ◌+◌, ◌<◌, List, [], ◌∷◌, ◌++◌, length, map, take, slice_index_or, Option, None, Some, Result, Ok, Err, inl, refl, ap, subst, arith}
use native.Mathlib.Numerals.{unary_clauses}
use Rattle.std.proofs.Math.Logic.{∥∥₁_elim}
use Rattle.std.proofs.Props.{props}
use Rattle.cmh_frames.specs.Topology.{Topology}
use Rattle.cmh_frames.specs.declared.event.Event.{Event}
use Rattle.cmh_frames.specs.Entries.{Outcome}
use Rattle.cmh_client.specs.Desks.{AreReplies}
use Rattle.cmh_talk.specs.Steps.{WasStepped}
use Rattle.cmh_talk.specs.Together.{AreTaken}
use Rattle.cmh_talk.specs.declared.site_reply.SiteReply.TheVariants as site
use Rattle.cmh_station.specs.declared.refusal.StationRefusal.{StationRefusal}
use Rattle.cmh_talk.specs.Replies.{AnswersEvent, AnswersQuestion, AnswersSaid, IsReply, WasAnswered, event_reply_of, taken}
use Rattle.cmh_talk.specs.Texts.{event_text, reply_text}
use Rattle.cmh_talk.specs.declared.reply.EventReply.{EventReply}
use Rattle.cmh_talk.specs.declared.reply.Reply.{Reply}
use Rattle.cmh_talk.specs.declared.said.Said.{Said}

-- a step that was taken has its reply
pub stepped_reply : (event : Event) (sent : ℕ) (declared : Option ℕ)
    → WasStepped event (site.Taken (record { sent = sent; declared = declared })) → IsReply event (taken sent declared)
stepped_reply event sent None stepped = inl stepped
stepped_reply event sent (Some process) stepped = inl stepped

pub taken_replies : (events : List Event) (answers : List (Result Outcome StationRefusal)) → AreTaken events answers
    → AreReplies IsReply events (map event_reply_of answers)
taken_replies [] [] are = tt
taken_replies [] (a ∷ answers) are = absurd are
taken_replies (e ∷ events) [] are = absurd are
taken_replies (e ∷ events) (Ok outcome ∷ answers) are =
    (stepped_reply e (length outcome.sent) outcome.declared are.0, taken_replies events answers are.1)
taken_replies (e ∷ events) (Err refusal ∷ answers) are = (inl are.0, taken_replies events answers are.1)

pub taken_count : (events : List Event) (answers : List (Result Outcome StationRefusal)) → AreTaken events answers
    → length answers ≡ length events
taken_count [] [] are = refl
taken_count [] (a ∷ answers) are = absurd are
taken_count (e ∷ events) [] are = absurd are
taken_count (e ∷ events) (a ∷ answers) are = ap suc (taken_count events answers are.1)

next_reply : (events : List Event) (at : ℕ) (e : Event) (replies : List EventReply) (r : EventReply) → at < length events
    → e ≡ slice_index_or events at e → AreReplies IsReply (take at events) replies → IsReply e r
    → AreReplies IsReply (take (suc at) events) (replies ++ r ∷ [])
next_reply [] at e replies r few is are now = absurd (omega arith)
next_reply (x ∷ xs) zero e [] r few is are now = (subst (λ e. IsReply e r) is now, tt)
next_reply (x ∷ xs) zero e (r' ∷ replies) r few is are now = absurd are
next_reply (x ∷ xs) (suc n) e [] r few is are now = absurd are
next_reply (x ∷ xs) (suc n) e (r' ∷ replies) r few is are now =
    (are.0, next_reply xs n e replies r (omega arith) is are.1 now)

-- one event more has its reply
pub one_more : (events : List Event) (at : ℕ) (e : Event) (replies : List EventReply) (r : EventReply) → at < length events
    → e ≡ slice_index_or events at e → AreReplies IsReply (take at events) replies → IsReply e r
    → AreReplies IsReply (take (at + 1) events) (replies ++ r ∷ [])
one_more events at e replies r few is are now = simp unary_clauses (next_reply events at e replies r few is are now)

pub answers_event : (event : Event) (reply : EventReply) → ∥ IsReply event reply ∥₁ → AnswersEvent event (event_text reply)
answers_event event reply is = ∥∥₁_elim is (Prim.hlevel props) (λ i. ∣ (reply, i, refl) ∣₁)

-- the host that is locked answered
pub was_answered : (t : Topology) (number : ℕ) (said : Said) (reply : Reply) → AnswersSaid t number said reply → WasAnswered said reply
was_answered t number said reply answers = (t, number, answers)

pub answers_question : (said : Said) (reply : Reply) → WasAnswered said reply → AnswersQuestion said (reply_text reply)
answers_question said reply answers = (reply, answers, refl)

-- What a running site answers to an event, and to a question.
use Rattle.std.specs.Prelude.{◌≡◌, ℕ, List, length}
use Rattle.cmh_frames.specs.declared.frame.Frame.{Frame}
use Rattle.cmh_frames.specs.declared.event.Event.{Event}
use Rattle.cmh_station.specs.Journaled.{Journaled}
use Rattle.cmh_station.specs.Steps.{NotStepped, Stepped}
use Rattle.cmh_talk.specs.declared.site_reply.SiteReply.{SiteReply}
use Rattle.cmh_talk.specs.declared.site_reply.SiteReply.TheVariants.{Taken, Refused, Declared}

-- A station took the event, by the rules, and its entry was kept, or it refused the event. Which station it was is not told:
-- what comes out of a lock is known by its type alone.
abbrev pub WasStepped : Event → SiteReply → Type 0
WasStepped event (Taken done) =
    (before : Journaled) × (after : Journaled) × (sent : List (ℕ × Frame))
    × Stepped before event sent done.declared after × (done.sent ≡ length sent)
WasStepped event (Refused refusal) = (before : Journaled) × (after : Journaled) × NotStepped before event refusal after
WasStepped event reply = ⊥

abbrev pub IsDeclared : ℕ → SiteReply → Type 0
IsDeclared site reply = (processes : List ℕ) × (reply ≡ Declared site processes)

-- these processes are told
abbrev pub IsListOf : List ℕ → SiteReply → Type 0
IsListOf list (Declared named processes) = processes ≡ list
IsListOf list reply = ⊥

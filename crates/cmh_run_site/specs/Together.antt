-- Events of several lines that a station is given together.
use Rattle.std.specs.Prelude.{◌≡◌, ℕ, ◌<◌, Bool, List, [], ◌∷◌, length, Option}
use Rattle.std.specs.Io.BufRead.{drop_through}
use Rattle.std.specs.Io.KnownBytes.{Appends}
use Rattle.cmh_frames.specs.Topology.{Topology}
use Rattle.cmh_frames.specs.declared.event.Event.{Event}
use Rattle.cmh_console.specs.Dialogue.{line_in}
use Rattle.cmh_console.specs.declared.dialogue.Flow.{Flow}
use Rattle.cmh_console.specs.declared.script.Command.TheVariants.{Act}
use Rattle.cmh_console.specs.declared.script.Line.TheVariants.{Command}
use Rattle.cmh_setting.specs.declared.site_script.SiteLine.{SiteLine}
use Rattle.cmh_setting.specs.declared.site_script.SiteLine.TheVariants.{Event as SiteEvent}
use Rattle.cmh_talk.specs.SiteReplies.{reply_text}
use Rattle.cmh_run_site.specs.SiteTalk.{AnswersSite, WasSaidToSite}
use Rattle.cmh_talk.specs.declared.site_reply.SiteReply.{SiteReply}

-- the lines of the bytes up to the rest say these events, one each
pub data LinesSay : List ℕ → List Event → List ℕ → Type 0 where
  none : (bytes : List ℕ) → LinesSay bytes [] bytes
  more : (bytes rest : List ℕ) (process : ℕ) (event : Event) (events : List Event) → 0 < length bytes
      → WasSaidToSite (line_in bytes) (SiteEvent (Command (Act process event))) → LinesSay (drop_through 10 bytes) events rest
      → LinesSay bytes (event ∷ events) rest

-- a line that says this says the event
abbrev pub SaysEvent : SiteLine → Event → Type 0
SaysEvent said event = (process : ℕ) × (said ≡ SiteEvent (Command (Act process event)))

-- a line that says this was answered
pub record SaidTurn (t : Topology) (site : ℕ) (was is : Bool) (said : SiteLine) (flow : Flow) (old new : Option (List ℕ)) : Type 0 where
  pub reply : SiteReply
  pub answers : AnswersSite t site was is said reply flow
  pub wrote : Appends old new (reply_text reply)

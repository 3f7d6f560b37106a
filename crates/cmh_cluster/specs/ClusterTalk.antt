-- What a cluster answers to a line.
use Rattle.std.specs.Prelude.{◌≡◌, ℕ, ◌⊎◌, List, Option, MatchOption}
use Rattle.cmh_frames.specs.Topology.{Topology, home}
use Rattle.cmh_controller.specs.declared.refusal.Refusal.TheVariants.{UnknownProcess, NotHere}
use Rattle.cmh_station.specs.declared.refusal.StationRefusal.TheVariants.{Rule}
use Rattle.cmh_console.specs.declared.dialogue.Flow.{Flow}
use Rattle.cmh_console.specs.declared.script.Command.TheVariants.{Act}
use Rattle.cmh_console.specs.declared.script.Line.TheVariants.{Silent as SilentLine, Bad, Command}
use Rattle.cmh_talk.specs.SiteReplies.{reply_text}
use Rattle.cmh_setting.specs.SiteScript.{SaysToCluster}
use Rattle.cmh_talk.specs.Steps.{WasStepped}
use Rattle.cmh_talk.specs.declared.site_reply.SiteReply.{SiteReply}
use Rattle.cmh_talk.specs.declared.site_reply.SiteReply.TheVariants.{Silent, BadLine, BadLink, Refused, Declared}
use Rattle.cmh_setting.specs.declared.site_script.ClusterLine.{ClusterLine}
use Rattle.cmh_setting.specs.declared.site_script.ClusterLine.TheVariants.{Declared as DeclaredOf, Event as ClusterEvent}

-- An event is for the home of its process. That a known home has no station is left open, though each has one.
abbrev pub AnswersCluster : Topology → ClusterLine → SiteReply → Type 0
AnswersCluster t (DeclaredOf site) reply = ((processes : List ℕ) × (reply ≡ Declared site processes)) ⊎ (reply ≡ BadLink)
AnswersCluster t (ClusterEvent SilentLine) reply = reply ≡ Silent
AnswersCluster t (ClusterEvent (Command (Act process event))) reply = MatchOption (home t process)
    (reply ≡ Refused (Rule UnknownProcess)) (λ site. WasStepped event reply ⊎ (reply ≡ Refused (Rule NotHere)))
AnswersCluster t (ClusterEvent line) reply = reply ≡ BadLine

-- a line, or a bad one where it is too long, was answered by this text
pub record IsTurnOfCluster (t : Topology) (was is : Unit {0}) (line : Option (List ℕ)) (text : List ℕ) (flow : Flow) : Type 0 where
  pub said : ClusterLine
  pub reply : SiteReply
  pub says : MatchOption line (said ≡ ClusterEvent Bad) (λ bytes. SaysToCluster bytes said)
  pub answers : AnswersCluster t said reply
  pub text_is : text ≡ reply_text reply

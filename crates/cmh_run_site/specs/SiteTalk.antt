-- What a running site answers to a line.
use Rattle.std.specs.Prelude.{◌≡◌, ℕ, ◌+◌, ◌≤◌, Bool, true, List, length, Option, None, Some, MatchBool}
use Rattle.cmh_frames.specs.Topology.{Topology}
use Rattle.cmh_talk.specs.Ends.{TellsLinks, others_of}
use Rattle.cmh_talk.specs.SiteReplies.{reply_text}
use Rattle.cmh_talk.specs.Steps.{IsDeclared, WasStepped}
use Rattle.cmh_setting.specs.SiteScript.{SaysToSite}
use Rattle.cmh_console.specs.declared.dialogue.Flow.{Flow}
use Rattle.cmh_console.specs.declared.dialogue.Flow.TheVariants.{Awaits, Ends}
use Rattle.cmh_talk.specs.declared.site_reply.SiteReply.{SiteReply}
use Rattle.cmh_talk.specs.declared.site_reply.SiteReply.TheVariants.{Silent, BadLine, Late, Connected}
use Rattle.cmh_console.specs.declared.script.Command.TheVariants.{Act}
use Rattle.cmh_console.specs.declared.script.Line.TheVariants.{Silent as SilentLine, Bad, Command}
use Rattle.cmh_setting.specs.declared.site_script.Order.TheVariants.{Declared as DeclaredOrder, Connect as ConnectOrder, Links as LinksOrder, Quit}
use Rattle.cmh_setting.specs.declared.site_script.SiteLine.{SiteLine}
use Rattle.cmh_setting.specs.declared.site_script.SiteLine.TheVariants.{Order as SiteOrder, Event as SiteEvent}

-- links lead to the other sites, one to each
abbrev pub LeadToOthers : Topology → ℕ → List ℕ → Type 0
LeadToOthers t site links = links ≡ others_of t site

-- links were connected or failed, at most one with each other site
abbrev pub IsConnected : Topology → ℕ → SiteReply → Type 0
IsConnected t site (Connected connected failed) = connected + failed ≤ length (others_of t site)
IsConnected t site reply = ⊥

-- Of the links that have a writing thread, and of those that were new and could not be opened, there are so many more than
-- there were.
abbrev pub CountsLinks : ℕ → ℕ → ℕ → ℕ → SiteReply → Type 0
CountsLinks ran runs failed fails (Connected connected unconnected) =
    (runs ≡ ran + connected) × (fails ≡ failed + unconnected)
CountsLinks ran runs failed fails reply = ⊥

-- what a site of a topology answers to a line, and whether the next one is awaited; and whether the links were connected,
-- before the line and after it
abbrev pub AnswersSite : Topology → ℕ → Bool → Bool → SiteLine → SiteReply → Flow → Type 0
AnswersSite t site was is (SiteEvent SilentLine) reply flow = (reply ≡ Silent) × (is ≡ was) × (flow ≡ Awaits)
AnswersSite t site was is (SiteEvent (Command (Act process event))) reply flow = WasStepped event reply × (is ≡ was) × (flow ≡ Awaits)
AnswersSite t site was is (SiteEvent line) reply flow = (reply ≡ BadLine) × (is ≡ was) × (flow ≡ Awaits)
AnswersSite t site was is (SiteOrder DeclaredOrder) reply flow = IsDeclared site reply × (is ≡ was) × (flow ≡ Awaits)
AnswersSite t site was is (SiteOrder ConnectOrder) reply flow = MatchBool was (reply ≡ Late) (IsConnected t site reply) × (is ≡ true) × (flow ≡ Awaits)
AnswersSite t site was is (SiteOrder LinksOrder) reply flow = TellsLinks t site reply × (is ≡ was) × (flow ≡ Awaits)
AnswersSite t site was is (SiteOrder Quit) reply flow = (reply ≡ Silent) × (is ≡ was) × (flow ≡ Ends)

-- a line that is too long is no event
abbrev pub WasSaidToSite : Option (List ℕ) → SiteLine → Type 0
WasSaidToSite None said = said ≡ SiteEvent Bad
WasSaidToSite (Some line) said = SaysToSite line said

-- the line was answered by this text
pub record IsTurnOfSite (t : Topology) (site : ℕ) (was is : Bool) (line : Option (List ℕ)) (text : List ℕ) (flow : Flow) : Type 0 where
  pub said : SiteLine
  pub reply : SiteReply
  pub says : WasSaidToSite line said
  pub answers : AnswersSite t site was is said reply flow
  pub text_is : text ≡ reply_text reply

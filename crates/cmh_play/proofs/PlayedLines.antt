-- Each line of a script makes the run of the played world longer, or leaves it as it is.
use Rattle.std.proofs.Common.{◌≡◌, ℕ, false, List, Option, None, Some, sym, subst}
use Rattle.std.specs.Prelude.{MatchOption}
use Rattle.cmh_frames.specs.declared.event.Event.{Event}
use Rattle.cmh_frames.specs.Settling.{is_delivery}
use Rattle.cmh_play.specs.Runs.{IsPlayed}
use Rattle.cmh_play.specs.World.{World, CarriesOut}
use Rattle.cmh_play.specs.declared.site.Refused.TheVariants.{Full, Rule}
use Rattle.cmh_play.proofs.PlayedRuns.{nothing_played, stepped, handed_over, cut_off, refused_for_memory, accepted_report}
use Rattle.cmh_console.proofs.Events.{act_no_got}
use Rattle.cmh_console.specs.Script.{Says}
use Rattle.cmh_console.specs.declared.script.Command.{Command}
use Rattle.cmh_console.specs.declared.script.Command.TheVariants.{Act, Deliver, Cut, Report}
use Rattle.cmh_console.specs.declared.script.Line.{Line}
use Rattle.cmh_console.specs.declared.script.Line.TheVariants.{Silent, Bad, Edition as Edition_line, Site, Command as Command_line}
use Rattle.cmh_play.specs.PlayStates.{PlayState, Named, Played}
use Rattle.cmh_play.specs.declared.reply.Reply.{Reply}
use Rattle.cmh_play.specs.declared.reply.Reply.TheVariants.{Silent as NoReply, Ok, BadLine, Late, Topology, BadLink, Closed, Empty, Lost, Refused, Taken, Got, Report as Reported}
use Rattle.cmh_play.specs.Play.{Replies, IsOfRun, IsOfHonestSites}

-- a script has no line by which a site gets a frame
abbrev pub NoGot : Line → Type 0
NoGot line = (process : ℕ) (event : Event) → line ≡ Command_line (Act process event) → is_delivery event ≡ false

pub said_no_got : (line : Option (List ℕ)) (said : Line) → MatchOption line (said ≡ Bad) (λ bytes. Says bytes said) → NoGot said
said_no_got (Some text) said says process event is = act_no_got text process event (subst (λ (l : Line). Says text l) is says)
said_no_got None said says process event is = absurd (cc (says, is))

same_run : (old new : World) → new ≡ old → IsPlayed old → IsPlayed new
same_run old new same of = subst IsPlayed (sym same) of

-- what a command does to the world, and what it answers
carried_out : (old new : World) (command : Command) (reply : Reply) → NoGot (Command_line command) → CarriesOut old new command reply → IsPlayed old → IsOfHonestSites (Command_line command) reply × IsPlayed new
carried_out old new (Act process event) (Taken done) says is played = (tt, stepped old new is.0 event done (says process event (λ i. Command_line (Act process event))) is.2 played)
carried_out old new (Act process event) (Refused refused) says is played = (tt, same_run old new is.1 played)
carried_out old new (Deliver a b) BadLink says is played = (tt, same_run old new is.1 played)
carried_out old new (Deliver a b) Closed says is played = (tt, same_run old new is.1 played)
carried_out old new (Deliver a b) Empty says is played = (tt, same_run old new is.1 played)
carried_out old new (Deliver a b) (Got frame done) says is played = (tt, handed_over old new a b frame is.0 done is.1 is.2 played)
carried_out old new (Deliver a b) (Refused Full) says is played = (tt, same_run old new is.4 played)
carried_out old new (Deliver a b) (Refused (Rule refusal)) says is played =
    (refused_for_memory old a b is.0 is.1 refusal is.2 is.3 played, same_run old new is.4 played)
carried_out old new (Cut a b) BadLink says is played = (tt, same_run old new is.1 played)
carried_out old new (Cut a b) Closed says is played = (tt, same_run old new is.1 played)
carried_out old new (Cut a b) (Lost lost) says is played = (tt, subst IsPlayed (sym is.3) (cut_off old a b played))
carried_out old new Report (Reported edition verdict) says is played = (accepted_report old verdict.value is.1 played, same_run old new is.2 played)
carried_out old new command reply says is played = absurd is

same_state : (old new : PlayState) → new ≡ old → IsOfRun old → IsOfRun new
same_state old new same of = subst IsOfRun (sym same) of

-- any line
pub replied : (old new : PlayState) (line : Line) (reply : Reply) → NoGot line → Replies old new line reply → IsOfRun old → IsOfHonestSites line reply × IsOfRun new
replied old new Silent NoReply says is of = (tt, same_state old new is of)
replied old new Bad BadLine says is of = (tt, same_state old new is of)
replied (Named edition rows) new (Edition_line said) Ok says is of = (tt, subst IsOfRun (sym is.1) tt)
replied (Named edition rows) new (Edition_line said) Late says is of = (tt, subst IsOfRun (sym is.1) tt)
replied (Named edition rows) new (Site row) Ok says is of = (tt, subst IsOfRun (sym is.1) tt)
replied (Named edition rows) new (Site row) (Topology fault) says is of = (tt, subst IsOfRun (sym is.1) tt)
replied (Named edition rows) (Played after) (Command_line command) reply says is of =
    carried_out is.0 after command reply says is.2 (nothing_played is.0 is.1.journals is.1.links)
replied (Played world) new (Edition_line said) Late says is of = (tt, same_state (Played world) new is of)
replied (Played world) new (Site row) Late says is of = (tt, same_state (Played world) new is of)
replied (Played before) (Played after) (Command_line command) reply says is of = carried_out before after command reply says is of
replied old new line reply says is of = absurd is

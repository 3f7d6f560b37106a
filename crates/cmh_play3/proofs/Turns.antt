-- One line of a script is a turn.
use Rattle.std.proofs.Common.{◌≡◌, ℕ, false, List, [], Option, refl, subst, sym}
use Rattle.std.specs.Prelude.{MatchOption, IfOk, Result, Ok, Err, replicate}
use Rattle.cmh_frames.specs.Rows.{Row}
use Rattle.cmh_model3.specs.declared.event.Event.TheVariants.{Ask, Reply as Reply_event, Withdraw, Got, Turn}
use Rattle.cmh_model3.specs.Entries.{WorldEvent}
use Rattle.cmh_script3.specs.Script.{Says}
use Rattle.cmh_script3.specs.declared.script.Command.{Command as ScriptCommand}
use Rattle.cmh_script3.specs.declared.script.Command.TheVariants.{Act, WithdrawAll, Deliver, Cut, Report}
use Rattle.cmh_script3.specs.declared.script.Line.{Line}
use Rattle.cmh_script3.specs.declared.script.Line.TheVariants.{Silent, Bad, Edition, Site, Command}
use Rattle.cmh_topology3.specs.Topology.{IsTopologyOf}
use Rattle.cmh_play3.specs.Held.{IsShown, Leads, Shows, shown, world_of}
use Rattle.cmh_play3.specs.Inner.Shown.{GetsNothing, IsNewHeld, LeadsOn, LeadsOnTo}
use Rattle.cmh_play3.specs.Play.{IsOfRun, IsTurnOfScript, Replies, new_state}
use Rattle.cmh_play3.specs.Links.{is_cut}
use Rattle.cmh_play3.specs.PlayStates.{PlayState}
use Rattle.cmh_play3.specs.Replies.{reply_text}
use Rattle.cmh_play3.specs.declared.play.PlayState.{PlayState as HeldState}
use Rattle.cmh_play3.specs.declared.play.PlayState.TheVariants.{Named as HeldNamed, Played as HeldPlayed}
use Rattle.cmh_play3.specs.World.{CarriesOut}
use Rattle.cmh_play3.specs.declared.playground.Playground.{Playground}
use Rattle.cmh_play3.specs.declared.reply.Reply.{Reply}
use Rattle.cmh_play3.specs.declared.reply.Reply.TheVariants.{Late}

-- no line gives a site a message
pub says_own : (bytes : List ℕ) (line : Line) → Says bytes line → GetsNothing line
says_own bytes Silent says = tt
says_own bytes Bad says = tt
says_own bytes Edition says = tt
says_own bytes (Site row) says = tt
says_own bytes (Command (Act process (Ask asker targets))) says = λ a. refl
says_own bytes (Command (Act process (Reply_event holder asker))) says = λ a. refl
says_own bytes (Command (Act process (Withdraw asker targets))) says = λ a. refl
says_own bytes (Command (Act process (Got from clock frame))) says = absurd says
says_own bytes (Command (Act process (Turn clock))) says = absurd says
says_own bytes (Command (WithdrawAll process)) says = tt
says_own bytes (Command (Deliver from to)) says = tt
says_own bytes (Command (Cut from to)) says = tt
says_own bytes (Command Report) says = tt

of_run : (held : HeldState) (events : List WorldEvent) → IsShown events held → IsOfRun (shown held events)
of_run (HeldNamed draft) events h = tt
of_run (HeldPlayed world) events h = h.run

pub new_held : (held : HeldState) → IsNewHeld held → shown held [] ≡ new_state
new_held held is = λ i. shown (is i) []

pub new_shown : (held : HeldState) → IsNewHeld held → IsShown [] held
new_shown held is = subst (IsShown []) (sym is) tt

pub turn_of : (old new : HeldState) (events : List WorldEvent) (line : Option (List ℕ)) (said : Line) (reply : Reply)
    → MatchOption line (said ≡ Bad) (λ bytes. Says bytes said) → (leads : LeadsOnTo new (λ (later : PlayState). Replies (shown old events) later said reply))
    → IsTurnOfScript (shown old events) (shown new leads.events) line (reply_text reply)
turn_of old new events line said reply says leads = record {
  said = said;
  reply = reply;
  says = says;
  replies = leads.done;
  of_run = of_run new leads.events leads.held;
  text_is = refl;
}

-- ---- what is held of a state and of the one after it

pub if_ok : {X E : Type 0} (r : Result X E) (P Q : X → Type 0) → ((x : X) → P x → Q x) → IfOk r P → IfOk r Q
if_ok (Ok x) P Q leads h = leads x h
if_ok (Err e) P Q leads h = tt

pub late_site : (held : HeldState) (world : Playground) (row : Row) → held ≡ HeldPlayed world → LeadsOn (λ old new. Replies old new (Site row) Late) held held
late_site held world row is =
    subst (λ (h : HeldState). LeadsOn (λ old new. Replies old new (Site row) Late) h h) (sym is)
    (λ events shows. record { events = events; held = shows; done = refl })

pub late_edition : (held : HeldState) (world : Playground) → held ≡ HeldPlayed world → LeadsOn (λ old new. Replies old new Edition Late) held held
late_edition held world is =
    subst (λ (h : HeldState). LeadsOn (λ old new. Replies old new Edition Late) h h) (sym is)
    (λ events shows. record { events = events; held = shows; done = refl })

pub command_leads : (command : ScriptCommand) (reply : Reply) (world new : Playground) → Leads (λ old later. CarriesOut old later command reply) world new
    → LeadsOn (λ old later. Replies old later (Command command) reply) (HeldPlayed world) (HeldPlayed new)
command_leads command reply world new leads = λ events shows.
    let l = leads events shows in
    record { events = l.events; held = l.played; done = l.done }

-- the first command makes the world
pub first_leads : (rows : List Row) (command : ScriptCommand) (reply : Reply) (world new : Playground) → IsTopologyOf (replicate 16 0) rows world.topology → Shows [] world
    → ((a b : ℕ) → is_cut world.links a b ≡ false) → Leads (λ old later. CarriesOut old later command reply) world new
    → LeadsOn (λ old later. Replies old later (Command command) reply) (HeldNamed rows) (HeldPlayed new)
first_leads rows command reply world new is_topology shows uncut leads = λ events held.
    let l = leads [] shows in
    record {
      events = l.events;
      held = l.played;
      done = (world_of world [], record { topology = is_topology; events = refl; uncut = uncut }, l.done);
    }

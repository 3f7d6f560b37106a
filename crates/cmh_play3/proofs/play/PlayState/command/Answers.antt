use Rattle.std.proofs.Common.{subst, sym}
use Rattle.std.specs.Prelude.{IfOk, replicate}
use Rattle.cmh_script3.specs.declared.script.Line.TheVariants.{Command}
use Rattle.cmh_topology3.specs.Topology.{IsTopologyOf, Topology}
use Rattle.cmh_play3.specs.Held.{Leads}
use Rattle.cmh_play3.specs.Inner.Shown.{LeadsOn}
use Rattle.cmh_play3.specs.Play.{Replies}
use Rattle.cmh_play3.specs.World.{CarriesOut}
use Rattle.cmh_play3.specs.declared.play.PlayState.{PlayState as HeldState}
use Rattle.cmh_play3.specs.declared.play.PlayState.TheVariants.{Played as HeldPlayed}
use Rattle.cmh_play3.specs.declared.reply.Reply.{Reply}
use Rattle.cmh_play3.proofs.Turns.{command_leads, first_leads, if_ok}
use Rattle.cmh_play3.proofs.play.PlayState.command.Goals as goal

pub returns-in-Played : goal.returns-in-Played
returns-in-Played c =
    let command = c.args.command in
    let world = c.in-Played.world in
    let new = c.carry_out.new.world in
    subst (λ (held : HeldState). IfOk c.carry_out.result (λ reply. LeadsOn (λ old later. Replies old later (Command command) reply) held (HeldPlayed new)))
    (sym c.in-Played.is)
    (if_ok c.carry_out.result (λ (reply : Reply). Leads (λ old later. CarriesOut old later command reply) world new)
    (λ (reply : Reply). LeadsOn (λ old later. Replies old later (Command command) reply) (HeldPlayed world) (HeldPlayed new))
    (λ reply leads. command_leads command reply world new leads) c.carry_out.ensures)

pub returns-in_ok-reply-in-Named : goal.returns-in_ok-reply-in-Named
returns-in_ok-reply-in-Named c =
    let command = c.args.command in
    let rows = c.in-Named.draft in
    let world = c.in_ok-world-in-Named.world in
    let made = c.in_ok-world-in-Named.ensures in
    let new = c.carry_out-in-Named.new.world in
    let reply = c.in_ok-reply-in-Named.reply in
    let is_topology = subst (λ (t : Topology). IsTopologyOf (replicate 16 0) rows t) (sym made.topology) c.topology.ensures in
    subst (λ (held : HeldState). LeadsOn (λ old later. Replies old later (Command command) reply) held (HeldPlayed new)) (sym c.in-Named.is)
    (first_leads rows command reply world new is_topology made.played made.uncut c.in_ok-reply-in-Named.ensures)

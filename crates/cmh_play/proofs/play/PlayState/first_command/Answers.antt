use Rattle.std.proofs.Common.{sym, subst}
use Rattle.std.proofs.lemmas.Result.{IfOk-weaker}
use Rattle.cmh_play.specs.World.{World, CarriesOut}
use Rattle.cmh_play.proofs.Led.{commands, commands_first}
use Rattle.cmh_play.specs.PlayStates.{PlayState}
use Rattle.cmh_play.specs.Play.{Replies}
use Rattle.cmh_console.specs.declared.script.Line.TheVariants.{Command as Command_line}
use Rattle.cmh_play.specs.Showing.{LeadsOn, LeadsPlayed}
use Rattle.cmh_play.specs.declared.play.PlayState.{PlayState as HeldState}
use Rattle.cmh_play.specs.declared.play.PlayState.TheVariants.{Played as HeldPlayed}
use Rattle.cmh_play.specs.declared.reply.Reply.{Reply}
use Rattle.cmh_play.proofs.play.PlayState.first_command.Goals as goal

pub returns-in-Played : goal.returns-in-Played
returns-in-Played c =
    let new = c.carry_out.new.world in
    IfOk-weaker c.carry_out.result (λ (reply : Reply). LeadsPlayed (λ (before later : World). CarriesOut before later c.args.command reply) c.in-Played.world new)
    (λ (reply : Reply). LeadsOn c.args.keeps (λ (before later : PlayState). Replies before later (Command_line c.args.command) reply) c.args.self.now (HeldPlayed new))
    (λ reply leads.
    subst (λ (h : HeldState). LeadsOn c.args.keeps (λ (before later : PlayState). Replies before later (Command_line c.args.command) reply) h (HeldPlayed new)) (sym c.in-Played.is)
    (commands c.args.keeps c.in-Played.world new c.args.command reply leads))
    c.carry_out.ensures

pub returns-in_ok-reply-in-Named : goal.returns-in_ok-reply-in-Named
returns-in_ok-reply-in-Named c =
    let new = c.carry_out-in-Named.new.world in
    let reply = c.in_ok-reply-in-Named.reply in
    subst (λ (h : HeldState). LeadsOn c.args.keeps (λ (before later : PlayState). Replies before later (Command_line c.args.command) reply) h (HeldPlayed new)) (sym c.in-Named.is)
    (commands_first c.args.keeps c.in-Named.draft c.topology.result.now c.in_ok-world-in-Named.world new c.args.command reply c.topology.ensures c.in_ok-world-in-Named.ensures c.in_ok-reply-in-Named.ensures)

use Rattle.std.proofs.Common.{sym, subst}
use Rattle.std.proofs.lemmas.Result.{IfOk-weaker}
use Rattle.cmh_play.specs.World.{World, CarriesOut}
use Rattle.cmh_play.proofs.Led.{commands}
use Rattle.cmh_play.specs.PlayStates.{PlayState}
use Rattle.cmh_play.specs.Play.{Replies}
use Rattle.cmh_console.specs.declared.script.Line.TheVariants.{Command as Command_line}
use Rattle.cmh_play.specs.Showing.{LeadsOn, LeadsPlayed}
use Rattle.cmh_play.specs.declared.play.PlayState.{PlayState as HeldState}
use Rattle.cmh_play.specs.declared.play.PlayState.TheVariants.{Played as HeldPlayed}
use Rattle.cmh_play.specs.declared.reply.Reply.{Reply}
use Rattle.cmh_play.proofs.play.PlayState.command.Goals as goal

pub returns-in-Played : goal.returns-in-Played
returns-in-Played c =
    let new = c.carry_out.new.world in
    IfOk-weaker c.carry_out.result (λ (reply : Reply). LeadsPlayed (λ (before later : World). CarriesOut before later c.args.command reply) c.in-Played.world new)
    (λ (reply : Reply). LeadsOn c.args.keeps (λ (before later : PlayState). Replies before later (Command_line c.args.command) reply) c.args.self.now (HeldPlayed new))
    (λ reply leads.
    subst (λ (h : HeldState). LeadsOn c.args.keeps (λ (before later : PlayState). Replies before later (Command_line c.args.command) reply) h (HeldPlayed new)) (sym c.in-Played.is)
    (commands c.args.keeps c.in-Played.world new c.args.command reply leads))
    c.carry_out.ensures

use Rattle.std.proofs.Common.{refl, subst, sym}
use Rattle.std.specs.Prelude.{IfOk}
use Rattle.cmh_script3.specs.declared.script.Line.{Line}
use Rattle.cmh_play3.specs.Held.{shown}
use Rattle.cmh_play3.specs.Inner.Shown.{LeadsOn}
use Rattle.cmh_play3.specs.Play.{Replies}
use Rattle.cmh_play3.specs.declared.reply.Reply.TheVariants.{BadLine, Silent as NoReply}
use Rattle.cmh_play3.proofs.play.PlayState.answer.Goals as goal

pub returns-in-Silent : goal.returns-in-Silent
returns-in-Silent c = λ events shows.
    let state = shown c.args.self.now events in
    record { events = events; held = shows; done = subst (λ (line : Line). Replies state state line NoReply) (sym c.in-Silent.is) refl }

pub returns-in-Bad : goal.returns-in-Bad
returns-in-Bad c = λ events shows.
    let state = shown c.args.self.now events in
    record { events = events; held = shows; done = subst (λ (line : Line). Replies state state line BadLine) (sym c.in-Bad.is) refl }

pub returns-in-Edition : goal.returns-in-Edition
returns-in-Edition c =
    subst (λ (line : Line). LeadsOn (λ old new. Replies old new line c.edition.result) c.args.self.now c.args.self.now) (sym c.in-Edition.is) c.edition.ensures

pub returns-in-Site : goal.returns-in-Site
returns-in-Site c =
    subst (λ (line : Line). IfOk c.add.result (λ reply. LeadsOn (λ old new. Replies old new line reply) c.args.self.now c.add.new.self)) (sym c.in-Site.is) c.add.ensures

pub returns-in-Command : goal.returns-in-Command
returns-in-Command c =
    subst (λ (line : Line). IfOk c.command.result (λ reply. LeadsOn (λ old new. Replies old new line reply) c.args.self.now c.command.new.self)) (sym c.in-Command.is) c.command.ensures

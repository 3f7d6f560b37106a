use Rattle.std.proofs.Common.{sym, subst}
use Rattle.cmh_play.proofs.Led.{row_added}
use Rattle.cmh_play.specs.PlayStates.{PlayState}
use Rattle.cmh_play.specs.Play.{Replies}
use Rattle.cmh_console.specs.declared.script.Line.TheVariants.{Site}
use Rattle.cmh_play.specs.Showing.{LeadsOn}
use Rattle.cmh_play.specs.declared.play.PlayState.{PlayState as HeldState}
use Rattle.cmh_play.specs.declared.play.PlayState.TheVariants.{Named as HeldNamed}
use Rattle.cmh_play.specs.declared.reply.Reply.TheVariants.{Ok as OkReply}
use Rattle.cmh_play.proofs.play.PlayState.add.Goals as goal

pub returns-in-None : goal.returns-in-None
returns-in-None c = λ keeps.
    subst (λ (h : HeldState). LeadsOn keeps (λ (before later : PlayState). Replies before later (Site c.args.row) OkReply) h (HeldNamed c.add.new.self)) (sym c.in-Named.is)
    (row_added keeps c.in-Named.draft c.add.new.self c.args.row c.in_ok-add-in-Named.field-0 c.in-None.is c.in_ok-add-in-Named.ensures.added)

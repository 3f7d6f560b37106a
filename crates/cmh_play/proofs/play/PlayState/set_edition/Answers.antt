use Rattle.std.proofs.Common.{sym, subst, ◌∙◌}
use Rattle.cmh_play.proofs.Led.{edition_set}
use Rattle.cmh_play.specs.Play.{Replies}
use Rattle.cmh_console.specs.declared.script.Line.TheVariants.{Edition as Edition_line}
use Rattle.cmh_play.specs.Showing.{LeadsOn}
use Rattle.cmh_play.specs.declared.play.PlayState.{PlayState as HeldState}
use Rattle.cmh_play.specs.declared.play.PlayState.TheVariants.{Named as HeldNamed}
use Rattle.cmh_play.specs.declared.reply.Reply.TheVariants.{Ok as OkReply}
use Rattle.cmh_play.specs.PlayStates.{PlayState}
use Rattle.cmh_play.proofs.play.PlayState.set_edition.Goals as goal

pub returns : goal.returns
returns c = λ keeps.
    subst (λ (h : HeldState). LeadsOn keeps (λ (before later : PlayState). Replies before later (Edition_line c.args.edition) OkReply) h (HeldNamed c.set_edition.new.self)) (sym c.in-Named.is)
    (edition_set keeps c.in-Named.draft c.set_edition.new.self c.args.edition (sym c.is_empty.ensures ∙ c.if-not-is_empty.false) c.in_ok-set_edition.ensures.ok)

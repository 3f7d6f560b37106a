use Rattle.std.proofs.Common.{Bool, subst}
use Rattle.cmh_play.specs.PlayStates.{PlayState}
use Rattle.cmh_play.specs.Play.{Replies}
use Rattle.cmh_play.specs.Showing.{LeadsOn}
use Rattle.cmh_play.proofs.play.PlayState.answer_line.Goals as goal

pub returns-clause-answers : goal.returns-clause-answers
returns-clause-answers g c = λ state shown of.
    let leads : LeadsOn g.K.Keeper.wants (λ (before later : PlayState). Replies before later c.in_ok-said.said c.in_ok-reply.reply) c.args.self.now c.answer.new.self =
    subst (λ (keeps : Bool). LeadsOn keeps (λ (before later : PlayState). Replies before later c.in_ok-said.said c.in_ok-reply.reply) c.args.self.now c.answer.new.self) c.wants_journals.ensures c.in_ok-reply.ensures in
    let later = leads state shown of in
    record {
      state = later.state;
      shows = later.shows;
      holds = record {
        said = c.in_ok-said.said;
        says = c.in_ok-said.ensures;
        replies = later.holds;
        keeps = c.in_ok-keep_for.ensures.kept later.state later.shows;
      };
    }

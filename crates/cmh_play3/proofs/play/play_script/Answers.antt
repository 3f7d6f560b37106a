use Rattle.cmh_play3.proofs.Lines.{all_answered, all_flushed, none_answered, some_err, some_flushed}
use Rattle.cmh_play3.proofs.play.play_script.Goals as goal

pub returns-in_err-draft-clause-answers : goal.returns-in_err-draft-clause-answers
returns-in_err-draft-clause-answers g c = some_err _ _ _ _ c.from_residual.result c.from_residual.ensures.0 (none_answered _ _ _)

pub returns-in_err-played-clause-answers : goal.returns-in_err-played-clause-answers
returns-in_err-played-clause-answers g c =
    some_err _ _ _ _ c.from_residual-in_err-played.result c.from_residual-in_err-played.ensures.0
    (some_flushed _ _ _ _ _ _ c.flush-flushed.result c.answer_all-played.ensures.answers c.flush-flushed.ensures.bytes
    c.flush-flushed.ensures.ok c.flush-flushed.ensures.err)

pub returns-in_err-flushed-clause-answers : goal.returns-in_err-flushed-clause-answers
returns-in_err-flushed-clause-answers g c =
    some_err _ _ _ _ c.from_residual-in_err-flushed.result c.from_residual-in_err-flushed.ensures.0
    (some_flushed _ _ _ _ _ _ c.flush-flushed.result c.answer_all-played.ensures.answers c.flush-flushed.ensures.bytes
    c.flush-flushed.ensures.ok c.flush-flushed.ensures.err)

pub returns-clause-played : goal.returns-clause-played
returns-clause-played g c =
    let all = c.in_ok-played.ensures.all in
    record { events = all.events; shows = all.shows; holds = all_flushed _ _ _ _ _ all.holds c.flush-flushed.ensures.bytes }

pub returns-clause-answers : goal.returns-clause-answers
returns-clause-answers g c = all_answered _ _ _ c.args.out.now.has_failed _ (returns-clause-played g c).holds

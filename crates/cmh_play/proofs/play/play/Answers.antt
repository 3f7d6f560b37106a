use Rattle.std.specs.Prelude.{false, Ok}
use Rattle.cmh_play.proofs.KeptPlays.{kept_at_end, kept_none, unkept_at_end, unkept_fault}
use Rattle.cmh_play.proofs.Plays.{none_answered, some_flushed}
use Rattle.cmh_play.proofs.play.play.Goals as goal

pub returns-in_err-state-clause-answers : goal.returns-in_err-state-clause-answers
returns-in_err-state-clause-answers g c =
    kept_none _ _ _ _ _ c.from_residual.result _ (none_answered _ _ _) c.from_residual.ensures.0

pub returns-in_err-played-clause-answers : goal.returns-in_err-played-clause-answers
returns-in_err-played-clause-answers g c =
    kept_none _ _ _ _ _ c.from_residual-in_err-played.result _
    (some_flushed _ _ _ _ _ _ c.flush-flushed.result c.answer_all-played.ensures.answers c.flush-flushed.ensures.bytes
    c.flush-flushed.ensures.ok c.flush-flushed.ensures.err)
    c.from_residual-in_err-played.ensures.0

pub returns-in_err-flushed-clause-answers : goal.returns-in_err-flushed-clause-answers
returns-in_err-flushed-clause-answers g c =
    kept_none _ _ _ _ _ c.from_residual-in_err-flushed.result _
    (some_flushed _ _ _ _ _ _ c.flush-flushed.result c.answer_all-played.ensures.answers c.flush-flushed.ensures.bytes
    c.flush-flushed.ensures.ok c.flush-flushed.ensures.err)
    c.from_residual-in_err-flushed.ensures.0

pub returns-in_err-keep_wanted-clause-answers : goal.returns-in_err-keep_wanted-clause-answers
returns-in_err-keep_wanted-clause-answers g c =
    let played = c.in_ok-played.ensures.all in
    unkept_at_end _ _ _ _ _ _ played.state c.keep_wanted.new.keeper c.from_residual-in_err-keep_wanted.result played.holds c.flush-flushed.ensures.bytes
    c.from_residual-in_err-keep_wanted.ensures.0

pub returns-in_err-keep_wanted-clause-fault : goal.returns-in_err-keep_wanted-clause-fault
returns-in_err-keep_wanted-clause-fault g c =
    unkept_fault g.K.Keeper.fails _ _ _ c.from_residual-in_err-keep_wanted.result c.in_err-keep_wanted.field-0.0 c.from_residual-in_err-keep_wanted.ensures.1
    c.in_err-keep_wanted.ensures.fault

pub returns-clause-answers : goal.returns-clause-answers
returns-clause-answers g c =
    let played = c.in_ok-played.ensures.all in
    kept_at_end _ _ _ _ _ false played.state _ _ (Ok tt) played.holds c.flush-flushed.ensures.bytes (c.in_ok-keep_wanted.ensures.kept played.state played.shows)

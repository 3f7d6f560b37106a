use Rattle.std.proofs.Common.{inl, inr}
use Rattle.std.proofs.lemmas.Bool.{MatchBool-at_false, MatchBool-at_true}
use Rattle.cmh_commands.proofs.auditing.show_files.Goals as goal

pub returns-then-begin_with_segment-clause-ends : goal.returns-then-begin_with_segment-clause-ends
returns-then-begin_with_segment-clause-ends g c =
    inl (MatchBool-at_true _ _ c.if-begin_with_segment.true c.begin_with_segment.ensures, c.run_show3.ensures.ends)

pub returns-clause-ends : goal.returns-clause-ends
returns-clause-ends g c =
    inr (MatchBool-at_false _ _ c.if-begin_with_segment.false c.begin_with_segment.ensures, c.run_show.ensures.ends)

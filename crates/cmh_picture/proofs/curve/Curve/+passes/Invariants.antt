use Rattle.cmh_picture.proofs.curve.Curve.+passes.Given as goal

abbrev pub decreases-passes : goal.decreases-passes
decreases-passes l = l.halvings

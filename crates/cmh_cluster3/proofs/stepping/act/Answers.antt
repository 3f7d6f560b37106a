use Rattle.cmh_cluster3.proofs.Doing.{does_in}
use Rattle.cmh_cluster3.proofs.stepping.act.Goals as goal

pub returns-in_ok-give-in-Some : goal.returns-in_ok-give-in-Some
returns-in_ok-give-in-Some g c =
    does_in g.F.SegmentFile.told g.F.SegmentFile.has_failed _ _ _ _ _ c.in-Some.is c.in_ok-give-in-Some.ensures

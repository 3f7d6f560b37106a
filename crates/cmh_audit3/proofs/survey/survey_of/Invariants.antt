use Rattle.cmh_audit3.proofs.Surveys.{Surveying}
use Rattle.cmh_audit3.proofs.survey.survey_of.Given as goal

-- the walks of the segments so far, and all controllers
abbrev pub invariant-loop-place : goal.invariant-loop-place
invariant-loop-place l = Surveying l.segments l.fn.controllers.items l.place l.limits.items l.walks.items l.controllers.items

use Rattle.cmh_resume3.proofs.Resuming.{all_resume, arrives, resumes}
use Rattle.cmh_resume3.proofs.laws.resume_law.Goals as goal

pub returns : goal.returns
returns c = record { resumes = resumes; arrives = arrives; all = all_resume }

use Rattle.std.proofs.Common.{subst}
use Rattle.cmh_console.specs.Forms.{ReadsAll}
use Rattle.cmh_script3.specs.Forms.{Fits}
use Rattle.cmh_script3.proofs.Forms.{says_bad, says_form}
use Rattle.cmh_script3.proofs.script.parse.Goals as goal

pub returns-in-None : goal.returns-in-None
returns-in-None c =
    says_bad c.in-Some.form c.in-Some.words c.args.line.now c.in-Some.ensures (subst (ReadsAll (Fits c.in-Some.form) c.in-Some.words) c.in-None.is c.in_ok-line.ensures)

pub returns-in-Some-2 : goal.returns-in-Some-2
returns-in-Some-2 c =
    says_form c.args.line.now c.in-Some.form c.in-Some.words c.in-Some.ensures c.in-Some-2.line
    (subst (ReadsAll (Fits c.in-Some.form) c.in-Some.words) c.in-Some-2.is c.in_ok-line.ensures)

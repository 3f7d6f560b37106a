use Rattle.std.proofs.Common.{subst}
use Rattle.cmh_console.specs.Forms.{Fits, ReadsAll}
use Rattle.cmh_console.proofs.Forms.{says_bad, says_form}
use Rattle.cmh_console.proofs.script.parse_into.Goals as goal

pub returns-in-None : goal.returns-in-None
returns-in-None c =
    says_bad c.in-Some.form c.in-Some.words c.args.line.now c.in-Some.ensures (subst (ReadsAll (Fits c.in-Some.form) c.in-Some.words) c.in-None.is c.in_ok-line.ensures)

pub returns-in-Some-2 : goal.returns-in-Some-2
returns-in-Some-2 c =
    says_form c.args.line.now c.in-Some.form c.in-Some.words c.in-Some.ensures c.in-Some-2.line
    (subst (ReadsAll (Fits c.in-Some.form) c.in-Some.words) c.in-Some-2.is c.in_ok-line.ensures)

use Rattle.std.proofs.Common.{◌≤◌, length, arith}
use Rattle.cmh_resume3.proofs.Answers.{no_answer, titled_answer}
use Rattle.cmh_resume3.proofs.answer.decode_answer.Goals as goal

pub returns-in-None : goal.returns-in-None
returns-in-None c =
    let enough : 40 ≤ length c.args.behind.now = omega arith in
    no_answer c.args.behind.now c.new-cursor.result c.new-cursor.ensures enough c.in-None.ensures

pub returns-in-Some : goal.returns-in-Some
returns-in-Some c = titled_answer c.args.behind.now c.new-cursor.result c.read_answer.new.cursor c.in-Some.answer c.new-cursor.ensures c.in-Some.ensures

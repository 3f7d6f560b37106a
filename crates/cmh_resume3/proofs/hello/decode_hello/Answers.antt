use Rattle.std.proofs.Common.{◌≤◌, length, arith}
use Rattle.cmh_resume3.proofs.Answers.{no_title}
use Rattle.cmh_resume3.proofs.hello.decode_hello.Goals as goal

pub returns-in_default : goal.returns-in_default
returns-in_default c =
    let enough : 4 ≤ length c.args.bytes.now = omega arith in
    no_title c.args.bytes.now c.new-cursor.result c.new-cursor.ensures enough c.in_default.ensures

use Rattle.std.proofs.Common.{◌≡◌, arith}
use Rattle.cmh_resume3.proofs.Answers.{same_reply}
use Rattle.cmh_resume3.proofs.answer.decode_reply.Goals as goal

pub returns-in-Some-eq3 : goal.returns-in-Some-eq3
returns-in-Some-eq3 c =
    let is : c.in-Some-eq3.field-0 ≡ 3 = omega (arith, c.in-Some-eq3.field-0-is) in
    same_reply c.args.bytes.now c.new-cursor.result c.read_title.new.cursor c.rest.result.now c.in-Some-eq3.field-0 3 c.decode_answer.result
    c.new-cursor.ensures c.in-Some-eq3.ensures.bytes_are is c.rest.ensures c.decode_answer.ensures

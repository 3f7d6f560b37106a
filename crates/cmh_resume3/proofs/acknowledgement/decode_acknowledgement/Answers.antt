use Rattle.std.proofs.Common.{◌≡◌, arith}
use Rattle.cmh_resume3.proofs.Answers.{same_acknowledgement}
use Rattle.cmh_resume3.proofs.acknowledgement.decode_acknowledgement.Goals as goal

pub returns-in-Some-eq6 : goal.returns-in-Some-eq6
returns-in-Some-eq6 c =
    let is : c.in-Some-eq6.field-0 ≡ 6 = omega (arith, c.in-Some-eq6.field-0-is) in
    same_acknowledgement c.args.bytes.now c.new-cursor.result c.byte.new.self c.rest.result.now c.in-Some-eq6.field-0 6 c.decode_behind.result
    c.new-cursor.ensures c.in-Some-eq6.ensures.read is c.rest.ensures c.decode_behind.ensures

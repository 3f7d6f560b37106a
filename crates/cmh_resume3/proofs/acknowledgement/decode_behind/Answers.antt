use Rattle.cmh_resume3.proofs.Answers.{whole_acknowledgement}
use Rattle.cmh_resume3.proofs.acknowledgement.decode_behind.Goals as goal

pub returns-in-Some : goal.returns-in-Some
returns-in-Some c =
    whole_acknowledgement c.args.behind.now c.new-cursor.result c.read_behind.new.cursor c.in-Some.acknowledgement c.new-cursor.ensures c.in-Some.ensures.read

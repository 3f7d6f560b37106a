use Rattle.cmh_resume3.proofs.Answers.{answer_there, no_count, no_mark}
use Rattle.cmh_resume3.proofs.answer.read_answer.Goals as goal

pub returns-in_default-u64 : goal.returns-in_default-u64
returns-in_default-u64 c = no_count c.args.cursor.now c.in-Some.hello c.read_places.new.cursor c.in-Some.ensures c.in_default-u64.ensures

pub returns-in_default-u64-2 : goal.returns-in_default-u64-2
returns-in_default-u64-2 c =
    no_mark c.args.cursor.now c.in-Some.hello c.read_places.new.cursor c.in-Some.ensures c.in-Some-u64.count c.u64.new.self c.in-Some-u64.ensures.bytes_are c.in_default-u64-2.ensures

pub returns : goal.returns
returns c =
    answer_there c.args.cursor.now c.read_places.new.cursor c.u64.new.self c.u64-2.new.self c.in-Some.hello c.in-Some-u64.count c.in-Some-u64-2.mark c.new.result
    c.in-Some.ensures c.in-Some-u64.ensures c.in-Some-u64-2.ensures c.new.ensures

use Rattle.cmh_client.proofs.Feeds.{found_rest}
use Rattle.cmh_client.proofs.next.first_len.Goals as goal

pub returns-in-Some-clause-rest : goal.returns-in-Some-clause-rest
returns-in-Some-clause-rest c = found_rest c.args.bytes.now c.in-Some.end c.in-Some.ensures

use Rattle.cmh_client.proofs.Feeds.{found_feed, found_line}
use Rattle.cmh_client.proofs.next.first_of.Goals as goal

pub returns-in-Some-2 : goal.returns-in-Some-2
returns-in-Some-2 c = (found_feed c.args.bytes.now c.in-Some.end c.in-Some.ensures, found_line c.args.bytes.now c.in-Some.end c.in-Some.ensures)

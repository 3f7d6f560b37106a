use Rattle.cmh_node3.proofs.Linking.{come_back, go_on}
use Rattle.cmh_node3.proofs.links.links_law.Goals as goal

pub returns-clause-back : goal.returns-clause-back
returns-clause-back c = come_back

pub returns-clause-behind : goal.returns-clause-behind
returns-clause-behind c = go_on

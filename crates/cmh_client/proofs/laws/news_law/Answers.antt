use Rattle.cmh_client.proofs.Talks.{told_in_order}
use Rattle.cmh_client.proofs.laws.news_law.Goals as goal

pub returns : goal.returns
returns g c = told_in_order

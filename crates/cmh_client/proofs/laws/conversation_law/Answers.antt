use Rattle.cmh_client.proofs.Conversations.{serves}
use Rattle.cmh_client.proofs.laws.conversation_law.Goals as goal

pub returns : goal.returns
returns g c = serves g.L.Language.Means g.L.Language.Answers g.L.Language.Replies g.L.Telling.line

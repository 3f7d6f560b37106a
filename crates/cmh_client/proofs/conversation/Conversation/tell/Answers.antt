use Rattle.std.proofs.Common.{rules}
use Rattle.cmh_client.proofs.conversation.Conversation.tell.Goals as goal

pub returns-clause-goes_on : goal.returns-clause-goes_on
returns-clause-goes_on g c = λ count e. (c.in-Some.more.now, (search rules))

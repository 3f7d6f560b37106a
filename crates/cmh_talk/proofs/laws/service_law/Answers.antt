use Rattle.cmh_client.proofs.Conversations.{serves}
use Rattle.cmh_talk.specs.Means.{MeansHere}
use Rattle.cmh_talk.specs.Replies.{AnswersEvent, AnswersQuestion}
use Rattle.cmh_talk.specs.Texts.{declaration_text}
use Rattle.cmh_talk.proofs.laws.service_law.Goals as goal

pub returns : goal.returns
returns c = serves MeansHere AnswersEvent AnswersQuestion declaration_text

use Rattle.cmh_frames.proofs.Scripts.{no_reply_of_blocked, no_ask_of_blocked}
use Rattle.cmh_frames.proofs.examples.blocked_process_waits.Goals as goal

pub returns-clause-no_reply : goal.returns-clause-no_reply
returns-clause-no_reply c = no_reply_of_blocked

pub returns-clause-no_ask : goal.returns-clause-no_ask
returns-clause-no_ask c = no_ask_of_blocked

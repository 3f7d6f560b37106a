use denote.Param.Send.{arg_send, param_send}
use Rattle.cmh_links.proofs.accepting.fn.spawn_accepter.spawn.Goals as goal

-- what goes to the thread may: the closure's last condition is that each of its types is sent
pub run_accepter-requires-send-S : goal.run_accepter-requires-send-S
run_accepter-requires-send-S g c κs within = param_send _ _ (arg_send _ _ _ c.requires.1.1.1.1.1.1.1.1.1.1.1.1.1.1.1.1.1)

pub run_accepter-requires-send-B : goal.run_accepter-requires-send-B
run_accepter-requires-send-B g c κs within = param_send _ _ (arg_send _ _ _ c.requires.1.1.1.1.1.1.1.1.1.1.1.1.1.1.1.1.2)

pub run_accepter-requires-send-K : goal.run_accepter-requires-send-K
run_accepter-requires-send-K g c κs within = param_send _ _ (arg_send _ _ _ c.requires.1.1.1.1.1.1.1.1.1.1.1.1.1.1.1.1.3)

pub run_accepter-requires-send-L-In : goal.run_accepter-requires-send-L-In
run_accepter-requires-send-L-In g c κs within = param_send _ _ (arg_send _ _ _ c.requires.1.1.1.1.1.1.1.1.1.1.1.1.1.1.1.1.5)

pub run_accepter-requires-send-L-Handle : goal.run_accepter-requires-send-L-Handle
run_accepter-requires-send-L-Handle g c κs within = param_send _ _ (arg_send _ _ _ c.requires.1.1.1.1.1.1.1.1.1.1.1.1.1.1.1.1.6)

-- How the links of a site stand, and how that reads.
use Rattle.std.specs.Prelude.{ℕ, List, length, ◌++◌, codes, is_some, if◌then◌else◌}
use Rattle.std.specs.Fmt.{decimal}
use Rattle.cmh_resume3.specs.Numbers.{mismatch_number, refusal_number}
use Rattle.cmh_resume3.specs.Receiver.{Receiver}
use Rattle.cmh_resume3.specs.Sender.{Sender}
use Rattle.cmh_resume3.specs.declared.sender.State.{State}
use Rattle.cmh_resume3.specs.declared.sender.State.TheVariants as state
use Rattle.cmh_node3.specs.declared.peer.Peer.{Peer}
use Rattle.cmh_talk3.specs.declared.link_state.IntoState.{IntoState}
use Rattle.cmh_talk3.specs.declared.link_state.IntoState.TheVariants as into
use Rattle.cmh_talk3.specs.declared.link_state.LinkStates.{LinkStates}
use Rattle.cmh_talk3.specs.declared.link_state.OutState.{OutState}
use Rattle.cmh_talk3.specs.declared.link_state.OutState.TheVariants as out

-- of a sender's end that keeps so many messages
abbrev pub out_state_by : ℕ → State → OutState
out_state_by kept (state.Down since pause) = out.Down kept
out_state_by kept (state.Asked since pause) = out.Down kept
out_state_by kept (state.Running next spoke heard) = out.Open
out_state_by kept (state.Refused refusal) = out.Refused (refusal_number refusal)
out_state_by kept (state.Mismatched mismatch) = out.Refused (mismatch_number mismatch)

abbrev pub out_state : Sender → OutState
out_state end = out_state_by (length end.kept) end.state

abbrev pub into_state : Receiver → IntoState
into_state end = if end.closed then into.Closed else (if is_some end.claim then into.Open else into.Resting)

abbrev pub states_of : Peer → LinkStates
states_of peer = record { site = peer.site; out = out_state peer.out; into = into_state peer.into }

-- ---- texts

abbrev pub out_text : OutState → List ℕ
out_text out.Open = codes "open"
out_text (out.Down kept) = codes "down " ++ decimal kept
out_text (out.Refused number) = codes "refused " ++ decimal number

abbrev pub into_text : IntoState → List ℕ
into_text into.Open = codes "open"
into_text into.Resting = codes "resting"
into_text into.Closed = codes "closed 4"

abbrev pub states_text : LinkStates → List ℕ
states_text states = codes "out " ++ decimal states.site ++ codes " " ++ out_text states.out
    ++ codes "\nin " ++ decimal states.site ++ codes " " ++ into_text states.into ++ codes "\n"

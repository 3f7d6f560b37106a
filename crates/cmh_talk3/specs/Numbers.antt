-- The replies to what a node answered for events. The numbers are those of editions 1 and 2, with 13 to 17 behind them.
use Rattle.std.specs.Prelude.{ℕ, length, Option, None, Some, Result, Ok, Err}
use Rattle.cmh_controller3.specs.Refusals as rules
use Rattle.cmh_controller3.specs.declared.outcome.Declaration.{Declaration}
use Rattle.cmh_controller3.specs.declared.outcome.Outcome.{Outcome}
use Rattle.cmh_controller3.specs.declared.refusal.Refusal.{Refusal}
use Rattle.cmh_journaled.specs.declared.refusal.Refusal.{Refusal as Reason}
use Rattle.cmh_journaled.specs.declared.refusal.Refusal.TheVariants.{Rule, Sealed, Full, Memory, Disk}
use Rattle.cmh_node3.specs.declared.settling.StepFault.TheVariants as fault
use Rattle.cmh_node3.specs.declared.stepping.NotStepped.{NotStepped}
use Rattle.cmh_node3.specs.declared.stepping.NotStepped.TheVariants as stepping
use Rattle.cmh_talk3.specs.declared.reply.EventReply.{EventReply}
use Rattle.cmh_talk3.specs.declared.reply.EventReply.TheVariants.{Taken, Declared, Refused}

-- of an event: 1 to 8 and 14 to 17 by the rules
abbrev pub number_of : Reason Refusal → ℕ
number_of (Rule refusal) = rules.number_of refusal
number_of Sealed = 9
number_of Disk = 10
number_of Memory = 11
number_of Full = 12

-- of each event of a call that took none
abbrev pub number_of_none : NotStepped → ℕ
number_of_none stepping.Sealed = 9
number_of_none (stepping.Failed fault.Disk) = 10
number_of_none (stepping.Failed fault.Memory) = 11
number_of_none stepping.Behind = 13

-- so many messages were sent, and a process was declared, if one was
abbrev pub taken_so : ℕ → Option Declaration → EventReply
taken_so sent None = Taken sent
taken_so sent (Some declaration) = Declared sent declaration.process declaration.stop

abbrev pub taken : Outcome → EventReply
taken outcome = taken_so (length outcome.sent) outcome.declared

abbrev pub reply_of : Result Outcome (Reason Refusal) → EventReply
reply_of (Ok outcome) = taken outcome
reply_of (Err refusal) = Refused (number_of refusal)

abbrev pub reply_of_none : NotStepped → EventReply
reply_of_none why = Refused (number_of_none why)

-- to each event while the site waits for its peers
abbrev pub reply_while_waiting : EventReply
reply_while_waiting = Refused 18

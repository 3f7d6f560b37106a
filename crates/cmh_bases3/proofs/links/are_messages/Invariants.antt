use Rattle.std.proofs.Common.{take}
use Rattle.std.specs.List.{AllByRecursion}
use Rattle.cmh_wire3.specs.Wire.{IsMessage}
use Rattle.cmh_bases3.proofs.links.are_messages.Given as goal

-- the messages so far
abbrev pub invariant-loop-message : goal.invariant-loop-message
invariant-loop-message l = AllByRecursion IsMessage (take l.message-index l.messages)

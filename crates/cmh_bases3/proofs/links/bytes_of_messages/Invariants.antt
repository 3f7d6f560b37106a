use Rattle.std.proofs.Common.{◌≡◌, ◌-◌, ◌^◌, length, min, take}
use Rattle.cmh_wire3.specs.Wire.{spelled}
use Rattle.cmh_bases3.proofs.links.bytes_of_messages.Given as goal

-- those so far
abbrev pub invariant-loop-message : goal.invariant-loop-message
invariant-loop-message l = l.bytes ≡ min (length (spelled (take l.message-index l.messages))) (2 ^ 64 - 1)

use Rattle.std.proofs.Common.{◌≡◌, flat_map, take}
use Rattle.cmh_client.proofs.saying.say_all.Given as goal

abbrev pub invariant-loop-item : goal.invariant-loop-item
invariant-loop-item g l = l.draft.items ≡ flat_map g.L.Telling.line (take l.item-index l.items)

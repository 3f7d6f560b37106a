use mir.Raw.{raw}
use base.Shift.{Keyless}
use Rattle.std.specs.Prelude.{Bool, true, false}
use denote.Memory.{lone}
use denote.RawPtr.{Ptr}
use denote.Struct.Struct.{exits_of}
use denote.Struct.Owning.{shape, fields, to}
use denote.Param.Send.{IsSend, AllSend, owning_send, struct_send, sendable}
use Rattle.std.specs.Global.{Global}
use Rattle.std.proofs.Crossing as heap
use Rattle.std_alloc.proofs.SendSync.{quiet, lies}
use Rattle.std_heap.proofs.Global.TheSendSync as handle
use Rattle.cmh_seat3.specs.Inner.Owned.{held_owns}
use Rattle.cmh_seat3.specs.contracts.seat.Seat as Seat
use Rattle.cmh_seat3.proofs.seat.Seat.TheSendSync.{the_send as seat}
use Rattle.cmh_seat3.specs.contracts.held.Held.{the_row, the_type}

owned_keyless : (y : Bool) (a : Global) (p : Ptr) (x : Seat.the_row.Denot) → Keyless (held_owns y a p x)
owned_keyless true a p x = (lies Seat.the_row seat p x, heap.frees.frees a (raw (lone Seat.the_row.mir)) p)
owned_keyless false a p x = tt

pub send : IsSend the_row
send =
    let all : AllSend (fields the_type) = (search sendable, (handle.the_field_send, tt)) in
    owning_send the_type all (λ d. owned_keyless d.is_open d.alloc d.at d.seat)
    (λ k. quiet (to the_type) (exits_of k (fields the_type)) ((struct_send (shape the_type) all).leaving k))

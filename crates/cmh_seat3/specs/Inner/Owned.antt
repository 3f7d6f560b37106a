-- What a handle owns: where it is open, the same as a box.
use Rattle.std.specs.Prelude.{Bool, true, false}
use base.Fml.{Fml, ftrue}
use base.Stored.{Coded}
use denote.RawPtr.{Ptr}
use Rattle.std.specs.Box.Ownership.{box_owns}
use Rattle.std.specs.Global.{Global}
use Rattle.std_heap.specs.contracts.GlobalAllocator.TheImpl.{ghosts}
use Rattle.cmh_seat3.specs.contracts.seat.Seat.{the_row}

abbrev pub held_owns : Bool → Global → Ptr → the_row.Denot → Fml
held_owns true alloc at seat = box_owns (ghosts.dealloc_token alloc) the_row at seat
held_owns false alloc at seat = ftrue

abbrev pub seat_coded : Coded the_row.Denot
seat_coded = the_row.coded

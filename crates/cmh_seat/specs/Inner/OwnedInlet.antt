-- What a handle owns: where it is open, the same as a box.
use Rattle.std.specs.Prelude.{Bool, true, false}
use base.Fml.{Fml, ftrue}
use base.Stored.{Coded}
use denote.RawPtr.{Ptr}
use Rattle.std.specs.Box.Ownership.{box_owns}
use Rattle.std.specs.Global.{Global}
use Rattle.std_heap.specs.contracts.GlobalAllocator.TheImpl.{ghosts}
use Rattle.cmh_seat.specs.contracts.inlet.Inlet.{the_row}

abbrev pub inlet_owns : Bool → Global → Ptr → the_row.Denot → Fml
inlet_owns true alloc at inlet = box_owns (ghosts.dealloc_token alloc) the_row at inlet
inlet_owns false alloc at inlet = ftrue

abbrev pub inlet_coded : Coded the_row.Denot
inlet_coded = the_row.coded

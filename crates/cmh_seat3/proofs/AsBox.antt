-- The seal and its parts own what a box at the same types owns.
use mir.Syntax.{impl, tnil, dnil}
use mathlib.Core.List.{[]}
use denote.Signature.{Slot, plain}
use Rattle.std_alloc.proofs.BoxSteps.Form.{Bx}
use Rattle.std_heap.specs.contracts.Global as Heap
use Rattle.std_heap.specs.contracts.GlobalAllocator.TheImpl.{ghosts, dict}
use Rattle.std_heap.proofs.Global.TheLaws as heap
use Rattle.std.specs.Prelude.{None}
use Rattle.cmh_seat3.specs.Seat.{Seat}
use Rattle.cmh_seat3.specs.contracts.seat.Seat as Home
use Rattle.cmh_seat3.proofs.seat.Seat.TheLaws as home
use Rattle.cmh_seat.specs.contracts.parts.Parts as Parts
use Rattle.cmh_seat3.specs.contracts.held.Held as Sealed

abbrev pub E : Bx
E = record { row = Home.the_row; laws = home.the_row_laws; al = record { row = Heap.the_row; laws = heap.the_row_laws; g = ghosts; d = dict; drops = impl [] tnil dnil } }

abbrev pub FromParts : Slot 0
FromParts = plain (λ _. Parts.the_row Home.the_row Heap.the_row ghosts)

abbrev pub FromSeal : Slot 0
FromSeal = plain (λ _. Sealed.the_row)

-- some seat, which a closed handle is said to hold
pub no_seat : Seat
no_seat = record {
  controller = record {
    topology = record { world = []; rows = [] };
    site = 0;
    kept = record {
      waits = record { members = []; rows = [] };
      leaving = [];
      owed = [];
      marks = [];
      declared = [];
      stamps = [];
      clock = 0;
    };
  };
  taken = 0;
  mark = 0;
  pending = None;
}

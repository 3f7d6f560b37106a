-- The numbers of the faults that only this library has.
use Rattle.std.specs.Prelude.{ℕ, ◌+◌, Option, None}
use Rattle.cmh_frames.specs.Rows.{fault_number}
use Rattle.cmh_c.specs.Codes3.{code_of_restart, place_of}
use Rattle.cmh_c.specs.declared.codes.CallFault.{CallFault}
use Rattle.cmh_c.specs.declared.codes.CallFault.TheVariants.{Edition, Entry, Sending, Rows, Topology, Site, Number, Short, Files, World, Restart, Memory}

abbrev pub code_of_call : CallFault → ℕ
code_of_call Site = 2
code_of_call Memory = 11
code_of_call Entry = 20
code_of_call Short = 21
code_of_call Edition = 24
code_of_call Rows = 25
code_of_call Number = 28
code_of_call Sending = 29
code_of_call Files = 30
code_of_call World = 50
code_of_call (Topology fault) = 30 + fault_number fault
code_of_call (Restart fault) = code_of_restart fault

-- the place that is told of a fault
abbrev pub place_told : CallFault → Option ℕ
place_told (Restart fault) = place_of fault
place_told fault = None

-- The faults of a reader.
use Rattle.std.specs.Prelude.{ℕ}
use Rattle.cmh_reader.specs.declared.fault.ReadFault.{ReadFault}
use Rattle.cmh_reader.specs.declared.fault.ReadFault.TheVariants.{BadHello, BadFrame, WrongSite, Memory}

-- the number of a fault
abbrev pub number_of : ReadFault → ℕ
number_of BadHello = 1
number_of (BadFrame offset) = 2
number_of WrongSite = 3
number_of Memory = 4

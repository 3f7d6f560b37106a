-- How often a sink of the laboratory failed.
use Rattle.std.specs.Prelude.{ℕ}
use Rattle.cmh_lab_stations.specs.declared.disk.Disk.{Disk}
use Rattle.cmh_lab_stations.specs.declared.disk.Disk.TheVariants.{Room, Fuse}

abbrev pub failures_of : Disk → ℕ
failures_of (Room sink) = sink.faults
failures_of (Fuse sink) = sink.memory.faults

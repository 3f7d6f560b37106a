-- Whether what is told of a process is this declaration, and its cycle stands.
use Rattle.std.specs.Prelude.{Bool, ◌&&◌, ◌==◌}
use Rattle.cmh_segment3.specs.declared.entry.Declaration.{Declaration}
use Rattle.cmh_report3.specs.declared.cycle.Deadlock.{Deadlock}
use Rattle.cmh_draw3.specs.Marks.{is_standing}

abbrev pub stands : Declaration → Deadlock → Bool
stands d told = ((told.process == d.process) && (told.stop == d.stamp)) && is_standing told.cycle

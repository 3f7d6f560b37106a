-- What is told of a declared process, as a search for it takes it.
use Rattle.std.specs.Prelude.{ℕ, Bool, ◌&&◌, ◌==◌}
use Rattle.cmh_report3.specs.declared.cycle.Deadlock.{Deadlock}
use Rattle.cmh_draw.specs.Inner.Steps.{has_step}
use Rattle.cmh_draw3.specs.Marks.{is_standing, standing}

abbrev pub is_of_process : ℕ → Deadlock → Bool
is_of_process process told = told.process == process

abbrev pub is_stuck_in : ℕ → Deadlock → Bool
is_stuck_in process told = (told.process == process) && is_standing told.cycle

abbrev pub takes_step : ℕ → ℕ → Deadlock → Bool
takes_step j k told = has_step j k (standing told.cycle)

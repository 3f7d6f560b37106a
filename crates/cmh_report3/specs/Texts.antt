-- The lines of a report.
use Rattle.std.specs.Prelude.{ℕ, zero, suc, List, ◌++◌, codes, None, Some, flat_map}
use Rattle.std.specs.Fmt.{decimal}
use Rattle.cmh_frames.specs.Texts.{processes_text}
use Rattle.cmh_report3.specs.declared.cycle.CycleNow.{CycleNow}
use Rattle.cmh_report3.specs.declared.cycle.CycleNow.TheVariants as cycle
use Rattle.cmh_report3.specs.declared.cycle.Deadlock.{Deadlock}
use Rattle.cmh_report3.specs.declared.report.Report.{Report}

abbrev pub transit_text : ℕ → List ℕ
transit_text zero = codes "drained\n"
transit_text (suc messages) = codes "in transit " ++ decimal (suc messages) ++ codes "\n"

-- a line with two processes
abbrev pub pair_text : List ℕ → ℕ × ℕ → List ℕ
pair_text word pair = word ++ decimal pair.0 ++ codes " " ++ decimal pair.1 ++ codes "\n"

-- a cycle, and what became of it; by `report_law` no run comes to the last two of these forms
abbrev pub cycle_text : CycleNow → List ℕ
cycle_text (cycle.Stands members) = codes "cycle" ++ processes_text members.items ++ codes " stands"
cycle_text (cycle.Left members (Some by)) = codes "cycle" ++ processes_text members.items ++ codes " left by " ++ decimal by
cycle_text (cycle.Left members None) = codes "cycle" ++ processes_text members.items ++ codes " left by nobody"
cycle_text cycle.None = codes "no cycle"

abbrev pub deadlock_text : Deadlock → List ℕ
deadlock_text deadlock =
    codes "declared " ++ decimal deadlock.process ++ codes " at " ++ decimal deadlock.stop ++ codes " "
    ++ cycle_text deadlock.cycle

abbrev pub deadlock_line : Deadlock → List ℕ
deadlock_line deadlock = deadlock_text deadlock ++ codes "\n"

abbrev pub report_text : Report → List ℕ
report_text report =
    codes "accepted\nevents " ++ decimal report.events ++ codes "\n" ++ transit_text report.in_transit
    ++ flat_map (pair_text (codes "wait ")) report.waits.items
    ++ flat_map (pair_text (codes "leaving ")) report.leaving.items
    ++ flat_map deadlock_line report.declared.items

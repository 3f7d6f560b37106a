-- A mark, and those of one site.
use Rattle.std.specs.Prelude.{ℕ, ◌==◌, List, [], ◌∷◌}
use Rattle.std.specs.List.{list_any}
use Rattle.std.specs.Option.{option_map}
use Rattle.cmh_frames.specs.Topology.{Topology, sites_of}
use Rattle.cmh_frames.specs.Entries.{Entry}
use Rattle.cmh_audit.specs.Reports.{Report}
use Rattle.cmh_draw.specs.Arrows.{spot_of}
use Rattle.cmh_draw.specs.Each.{each_from, number_from}
use Rattle.cmh_draw.specs.Marks.{is_on_cycle, older_declared, process_spot}
use Rattle.cmh_draw.specs.declared.mark.DrawnEvent.TheVariants.{Older}
use Rattle.cmh_draw.specs.declared.mark.Mark as marks
use Rattle.cmh_draw.specs.declared.mark.Mark.TheVariants.{Process, Wait, Entry as Entry_mark, Stop}

abbrev pub entry_mark : List (List ℕ) → ℕ → ℕ → ℕ → Entry → marks.Mark
entry_mark columns row site number e =
    Entry_mark (record { at = spot_of columns row site number; event = Older e.event; declared = option_map older_declared e.declared })

abbrev pub entry_marks : List (List ℕ) → ℕ → ℕ → List Entry → List marks.Mark
entry_marks columns row site entries =
    each_from (λ number (e : Entry). entry_mark columns row site number e ∷ []) 1 entries

abbrev pub stop_mark : Topology → List (List ℕ) → ℕ × ℕ → marks.Mark
stop_mark t columns stop = Stop (spot_of columns (number_from 0 (sites_of t) stop.0) stop.0 stop.1)

abbrev pub wait_mark : Topology → Report → ℕ × ℕ → marks.Mark
wait_mark t report wait = Wait (record {
  asker = wait.0;
  holder = wait.1;
  from = process_spot t wait.0;
  to = process_spot t wait.1;
  is_on_cycle = is_on_cycle report wait.0 wait.1;
})

abbrev pub member_mark : List ℕ → ℕ → ℕ → ℕ → ℕ → marks.Mark
member_mark declared column site row process = Process (record {
  process = process;
  site = site;
  spot = record { column = column; row = row };
  is_declared = list_any (λ q. q == process) declared;
})

abbrev pub member_marks : List ℕ → ℕ → ℕ → List ℕ → List marks.Mark
member_marks declared column site members =
    each_from (λ row process. member_mark declared column site row process ∷ []) 0 members

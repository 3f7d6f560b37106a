-- A mark, and those of one site.
use Rattle.std.specs.Prelude.{ℕ, List, [], ◌∷◌}
use Rattle.std.specs.Option.{option_map}
use Rattle.cmh_topology3.specs.Topology.{Topology, sites_of}
use Rattle.cmh_segment3.specs.declared.entry.Entry.{Entry}
use Rattle.cmh_audit3.specs.declared.stops.Stop.{Stop as StopAt}
use Rattle.cmh_report3.specs.declared.cycle.Deadlock.{Deadlock}
use Rattle.cmh_files3.specs.declared.auditing.Finding.{Finding}
use Rattle.cmh_draw.specs.Arrows.{spot_of}
use Rattle.cmh_draw.specs.Each.{each_from, number_from}
use Rattle.cmh_draw.specs.declared.mark.DrawnEvent.TheVariants.{Newer}
use Rattle.cmh_draw.specs.declared.mark.Mark as marks
use Rattle.cmh_draw.specs.declared.mark.Mark.TheVariants.{Wait, Leaving, Entry as Entry_mark, Stop}
use Rattle.cmh_draw3.specs.Marks.{drawn_declaration, drawn_wait, is_declared, member_mark}

abbrev pub entry_mark : List (List ℕ) → Finding → ℕ → ℕ → ℕ → Entry → marks.Mark
entry_mark columns finding row site number e = Entry_mark (record {
  at = spot_of columns row site number;
  event = Newer e.event;
  declared = option_map (drawn_declaration finding) e.declared;
})

abbrev pub entries_marks : List (List ℕ) → Finding → ℕ → ℕ → List Entry → List marks.Mark
entries_marks columns finding row site entries =
    each_from (λ number (e : Entry). entry_mark columns finding row site number e ∷ []) 1 entries

abbrev pub stop_mark : Topology → List (List ℕ) → StopAt → marks.Mark
stop_mark t columns stop = Stop (spot_of columns (number_from 0 (sites_of t) stop.site) stop.site stop.entry)

abbrev pub wait_mark : Topology → List Deadlock → ℕ × ℕ → marks.Mark
wait_mark t declared wait = Wait (drawn_wait t declared wait)

abbrev pub leaving_mark : Topology → List Deadlock → ℕ × ℕ → marks.Mark
leaving_mark t declared wait = Leaving (drawn_wait t declared wait)

abbrev pub process_mark : List Deadlock → ℕ → ℕ → ℕ → ℕ → marks.Mark
process_mark declared column site row process = member_mark declared (record {
  process = process;
  site = site;
  spot = record { column = column; row = row };
  is_declared = is_declared declared process;
})

abbrev pub member_marks : List Deadlock → ℕ → ℕ → List ℕ → List marks.Mark
member_marks declared column site members =
    each_from (λ row process. process_mark declared column site row process ∷ []) 0 members

-- What is drawn.
use Rattle.std.specs.Prelude.{◌≡◌, ℕ, ◌≤◌, Bool, false, ◌&&◌, ◌==◌, List, [], ◌∷◌, ◌++◌, drop, length, map, None, unwrap_or, zip, ⊤}
use Rattle.std.specs.List.{AllByRecursion, list_any}
use Rattle.std.specs.Option.{option_map, option_map_or}
use Rattle.cmh_frames.specs.Rules.{IsAscending}
use Rattle.cmh_frames.specs.Topology.{Topology, sites_of, members_of, home}
use Rattle.cmh_frames.specs.Entries.{Entry}
use Rattle.cmh_journal.specs.Journal.{Journal}
use Rattle.cmh_audit.specs.Journals.{journal_of}
use Rattle.cmh_audit.specs.Reports.{Report, cycle_of}
use Rattle.cmh_audit.specs.declared.verdict.Verdict.{Verdict}
use Rattle.cmh_audit.specs.declared.verdict.Verdict.TheVariants.{Accepted, Refused}
use Rattle.cmh_draw.specs.Arrows.{IsForward, arrows_of, spot_of}
use Rattle.cmh_draw.specs.Each.{each_from, number_from}
use Rattle.cmh_draw.specs.declared.mark.Arrow as arrows
use Rattle.cmh_draw.specs.declared.mark.Declared.{Declared}
use Rattle.cmh_draw.specs.declared.mark.DrawnEvent.TheVariants.{Older}
use Rattle.cmh_draw.specs.declared.mark.Mark as marks
use Rattle.cmh_draw.specs.declared.mark.Mark.TheVariants.{Site, Process, Wait, Entry as Entry_mark, Arrow, Stop}
use Rattle.cmh_draw.specs.declared.mark.Spot.{Spot}
use Rattle.cmh_draw.specs.declared.picture.Picture.{Picture}
use Rattle.cmh_draw.specs.declared.picture.Kind.TheVariants.{Waits, Run}

-- a mark for each site: in a run a line, and in a picture of waits a box, of the length that a site has
abbrev pub site_marks : Topology → (ℕ → ℕ) → List marks.Mark
site_marks t length_of = each_from
    (λ place site. Site (record { site = site; place = place; length = length_of site }) ∷ []) 0 (sites_of t)

-- a mark for each entry at which the journals stop: the site and the number of each that can't be taken
abbrev pub stop_marks : Topology → List (List ℕ) → Verdict → List marks.Mark
stop_marks t columns (Accepted report) = []
stop_marks t columns (Refused stops) =
    map (λ (stop : ℕ × ℕ). Stop (spot_of columns (number_from 0 (sites_of t) stop.0) stop.0 stop.1)) stops.rows

-- ---- a run

-- a process of editions 1 and 2 that was declared: it has no stop, and is so for ever
abbrev pub older_declared : ℕ → Declared
older_declared process = record { process = process; stop = None; is_over = false }

-- a mark for each entry of all sites
abbrev pub entry_marks : Topology → List Journal → List (List ℕ) → List marks.Mark
entry_marks t journals columns = each_from (λ row site. each_from (λ number (e : Entry). Entry_mark
    (record { at = spot_of columns row site number; event = Older e.event; declared = option_map older_declared e.declared }) ∷ []) 1
    (journal_of journals site)) 0 (sites_of t)

-- in a picture of journals that come from a run, each arrow goes forward in time
abbrev pub AreForward : Verdict → List arrows.Arrow → Type 0
AreForward (Accepted report) drawn = AllByRecursion IsForward drawn
AreForward (Refused stops) drawn = ⊤

-- The picture of a run: each site, each frame, each entry and each stop once, and nothing else. Each entry has a column
-- of its own among those of its site, ascending, and a place within the picture; an entry that got a frame stands on the
-- right of the one that sent it.
pub record IsRunPicture (t : Topology) (journals : List Journal) (verdict : Verdict) (picture : Picture) : Type 0 where
  pub columns : List (List ℕ)
  pub lengths_are : map (λ of. length of) columns ≡ map (λ site. length (journal_of journals site)) (sites_of t)
  pub are_ascending : AllByRecursion IsAscending columns
  pub are_forward : AreForward verdict (arrows_of t journals columns)
  pub are_within : AllByRecursion (λ of. AllByRecursion (λ column. column ≤ picture.columns) of) columns
  pub kind_is : picture.kind ≡ Run
  pub edition_is : picture.may_withdraw ≡ false
  pub rows_are : picture.rows ≡ length (sites_of t)
  pub marks_are : picture.marks.items ≡ site_marks t (λ site. picture.columns) ++ map Arrow (arrows_of t journals columns)
      ++ entry_marks t journals columns ++ stop_marks t columns verdict

-- ---- waits

-- where a process is drawn: in the column of its site, in the row of its place there
abbrev pub process_spot : Topology → ℕ → Spot
process_spot t process = option_map_or
    (λ site. record { column = number_from 0 (sites_of t) site; row = number_from 0 (members_of t site) process })
    (home t process) (record { column = 0; row = 0 })

-- the wait of j for k is one of the cycle that the report gives for a declared process: j stands right before k
abbrev pub is_on_cycle : Report → ℕ → ℕ → Bool
is_on_cycle report j k = list_any (λ i. let members = unwrap_or (cycle_of report i) [] in
    list_any (λ step. (step.0 == j) && (step.1 == k)) (zip members (drop 1 members))) report.declared

-- a mark for each process of all sites
abbrev pub process_marks : Topology → List ℕ → List marks.Mark
process_marks t declared = each_from (λ column site. each_from (λ row process. Process (record {
  process = process;
  site = site;
  spot = record { column = column; row = row };
  is_declared = list_any (λ q. q == process) declared;
}) ∷ []) 0 (members_of t site)) 0 (sites_of t)

-- a mark for each wait of a report
abbrev pub report_marks : Topology → Report → List marks.Mark
report_marks t report = map (λ (wait : ℕ × ℕ). Wait (record {
  asker = wait.0;
  holder = wait.1;
  from = process_spot t wait.0;
  to = process_spot t wait.1;
  is_on_cycle = is_on_cycle report wait.0 wait.1;
})) report.waits

-- a mark for each wait and for each process; where the journals come from no run, for each site where it stops, and for
-- each process
abbrev pub waits_marks : Topology → Verdict → List marks.Mark
waits_marks t (Accepted report) = report_marks t report ++ process_marks t report.declared
waits_marks t (Refused stops) = stop_marks t [] (Refused stops) ++ process_marks t []

-- the picture of the waits of an audit's report: each site, each wait and each process once, and nothing else, with a
-- place within it for each process
pub record IsWaitsPicture (t : Topology) (verdict : Verdict) (picture : Picture) : Type 0 where
  pub kind_is : picture.kind ≡ Waits
  pub edition_is : picture.may_withdraw ≡ false
  pub columns_are : picture.columns ≡ length (sites_of t)
  pub has_room : AllByRecursion (λ site. length (members_of t site) ≤ picture.rows) (sites_of t)
  pub marks_are : picture.marks.items ≡ site_marks t (λ site. length (members_of t site)) ++ waits_marks t verdict

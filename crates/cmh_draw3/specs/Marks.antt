-- What is drawn of a world of edition 3.
use Rattle.std.specs.Prelude.{◌≡◌, ℕ, ◌≤◌, Bool, true, false, not, ◌&&◌, ◌==◌, if◌then◌else◌, List, [], ◌∷◌, ◌++◌, drop, length, map, Some, zip, ⊤}
use Rattle.std.specs.List.{AllByRecursion, list_any}
use Rattle.std.specs.Option.{option_map, option_map_or}
use Rattle.cmh_frames.specs.Rules.{IsAscending}
use Rattle.cmh_topology3.specs.Topology.{Topology, sites_of, members_of, home}
use Rattle.cmh_segment3.specs.declared.entry.Declaration.{Declaration}
use Rattle.cmh_segment3.specs.declared.entry.Entry.{Entry}
use Rattle.cmh_segment3.specs.declared.segment.Segment.{Segment}
use Rattle.cmh_audit3.specs.Journals.{journal_of}
use Rattle.cmh_audit3.specs.declared.stops.Stop.{Stop as StopAt}
use Rattle.cmh_report3.specs.declared.cycle.CycleNow.{CycleNow}
use Rattle.cmh_report3.specs.declared.cycle.CycleNow.TheVariants as cycle
use Rattle.cmh_report3.specs.declared.cycle.Deadlock.{Deadlock}
use Rattle.cmh_files3.specs.declared.auditing.Finding.{Finding}
use Rattle.cmh_files3.specs.declared.auditing.Finding.TheVariants.{Accepted, Refused}
use Rattle.cmh_draw.specs.Arrows.{IsForward, spot_of}
use Rattle.cmh_draw.specs.Each.{each_from, number_from}
use Rattle.cmh_draw.specs.declared.mark.Arrow as arrows
use Rattle.cmh_draw.specs.declared.mark.Declared.{Declared}
use Rattle.cmh_draw.specs.declared.mark.DrawnEvent.TheVariants.{Newer}
use Rattle.cmh_draw.specs.declared.mark.Mark as marks
use Rattle.cmh_draw.specs.declared.mark.Mark.TheVariants.{Site, Process, Wait, Released, Leaving, Entry as Entry_mark, Arrow, Stop}
use Rattle.cmh_draw.specs.declared.mark.Process as processes
use Rattle.cmh_draw.specs.declared.mark.Spot.{Spot}
use Rattle.cmh_draw.specs.declared.mark.Wait as waits
use Rattle.cmh_draw.specs.declared.picture.Picture.{Picture}
use Rattle.cmh_draw.specs.declared.picture.Kind.TheVariants.{Waits, Run}
use Rattle.cmh_draw3.specs.Arrows.{arrows_of}

-- a mark for each site: in a run a line, and in a picture of waits a box, of the length that a site has
abbrev pub site_marks : Topology → (ℕ → ℕ) → List marks.Mark
site_marks t length_of = each_from
    (λ place site. Site (record { site = site; place = place; length = length_of site }) ∷ []) 0 (sites_of t)

-- a mark for each entry at which the segments stop
abbrev pub stop_marks : Topology → List (List ℕ) → Finding → List marks.Mark
stop_marks t columns (Accepted report) = []
stop_marks t columns (Refused stops) = map (λ (stop : StopAt).
    Stop (spot_of columns (number_from 0 (sites_of t) stop.site) stop.site stop.entry)) stops

-- ---- what became of a declaration

-- the members of a cycle that stands
abbrev pub standing : CycleNow → List ℕ
standing (cycle.Stands members) = members.items
standing (cycle.Left members by) = []
standing cycle.None = []

abbrev pub is_standing : CycleNow → Bool
is_standing (cycle.Stands members) = true
is_standing (cycle.Left members by) = false
is_standing cycle.None = false

-- A declaration is over where the report does not say that the process is declared at this stop with a cycle that stands.
-- Of segments that come from no run nothing is known.
abbrev pub is_over : Finding → Declaration → Bool
is_over (Accepted report) d = not (list_any (λ (told : Deadlock).
    ((told.process == d.process) && (told.stop == d.stamp)) && is_standing told.cycle) report.declared.items)
is_over (Refused stops) d = false

abbrev pub drawn_declaration : Finding → Declaration → Declared
drawn_declaration finding d = record { process = d.process; stop = Some d.stamp; is_over = is_over finding d }

-- ---- a run

-- a mark for each entry of all sites
abbrev pub entry_marks : Topology → List Segment → List (List ℕ) → Finding → List marks.Mark
entry_marks t segments columns finding = each_from (λ row site. each_from (λ number (e : Entry). Entry_mark (record {
  at = spot_of columns row site number;
  event = Newer e.event;
  declared = option_map (drawn_declaration finding) e.declared;
}) ∷ []) 1 (journal_of segments site)) 0 (sites_of t)

-- in a picture of segments that come from a run, each arrow goes forward in time
abbrev pub AreForward : Finding → List arrows.Arrow → Type 0
AreForward (Accepted report) drawn = AllByRecursion IsForward drawn
AreForward (Refused stops) drawn = ⊤

-- The picture of a run: each site, each message, each entry and each stop once, and nothing else. Each entry has a column
-- of its own among those of its site, ascending, and a place within the picture; an entry that got a message stands on the
-- right of the one that sent it.
pub record IsRunPicture (t : Topology) (segments : List Segment) (finding : Finding) (picture : Picture) : Type 0 where
  pub columns : List (List ℕ)
  pub lengths_are : map (λ of. length of) columns ≡ map (λ site. length (journal_of segments site)) (sites_of t)
  pub are_ascending : AllByRecursion IsAscending columns
  pub are_forward : AreForward finding (arrows_of t segments columns)
  pub are_within : AllByRecursion (λ of. AllByRecursion (λ column. column ≤ picture.columns) of) columns
  pub kind_is : picture.kind ≡ Run
  pub edition_is : picture.may_withdraw ≡ true
  pub rows_are : picture.rows ≡ length (sites_of t)
  pub marks_are : picture.marks.items ≡ site_marks t (λ site. picture.columns) ++ map Arrow (arrows_of t segments columns)
      ++ entry_marks t segments columns finding ++ stop_marks t columns finding

-- ---- waits

-- where a process is drawn: in the column of its site, in the row of its place there
abbrev pub process_spot : Topology → ℕ → Spot
process_spot t process = option_map_or
    (λ site. record { column = number_from 0 (sites_of t) site; row = number_from 0 (members_of t site) process })
    (home t process) (record { column = 0; row = 0 })

-- the wait of j for k is one of a cycle that stands of a declared process: j stands right before k
abbrev pub is_on_cycle : List Deadlock → ℕ → ℕ → Bool
is_on_cycle declared j k = list_any (λ (told : Deadlock). let members = standing told.cycle in
    list_any (λ step. (step.0 == j) && (step.1 == k)) (zip members (drop 1 members))) declared

abbrev pub drawn_wait : Topology → List Deadlock → ℕ × ℕ → waits.Wait
drawn_wait t declared wait = record {
  asker = wait.0;
  holder = wait.1;
  from = process_spot t wait.0;
  to = process_spot t wait.1;
  is_on_cycle = is_on_cycle declared wait.0 wait.1;
}

-- the process is declared at the end, and it is with a cycle that stands
abbrev pub is_declared : List Deadlock → ℕ → Bool
is_declared declared process = list_any (λ (told : Deadlock). told.process == process) declared

abbrev pub is_stuck : List Deadlock → ℕ → Bool
is_stuck declared process = list_any (λ (told : Deadlock). (told.process == process) && is_standing told.cycle) declared

-- one that is declared and whose cycle was left has a mark of its own
abbrev pub member_mark : List Deadlock → processes.Process → marks.Mark
member_mark declared p =
    if is_declared declared p.process && not (is_stuck declared p.process) then Released p else Process p

-- a mark for each process of all sites
abbrev pub process_marks : Topology → List Deadlock → List marks.Mark
process_marks t declared = each_from (λ column site. each_from (λ row process. member_mark declared (record {
  process = process;
  site = site;
  spot = record { column = column; row = row };
  is_declared = is_declared declared process;
}) ∷ []) 0 (members_of t site)) 0 (sites_of t)

-- A mark for each wait, for each wait that was given up and not answered, and for each process; where the segments come
-- from no run, for each site where it stops, and for each process.
abbrev pub waits_marks : Topology → Finding → List marks.Mark
waits_marks t (Accepted report) =
    map (λ wait. Wait (drawn_wait t report.declared.items wait)) report.waits.items
    ++ (map (λ wait. Leaving (drawn_wait t report.declared.items wait)) report.leaving.items
    ++ process_marks t report.declared.items)
waits_marks t (Refused stops) = stop_marks t [] (Refused stops) ++ process_marks t []

-- the picture of the waits of an audit's report: each site, each wait and each process once, and nothing else, with a
-- place within it for each process
pub record IsWaitsPicture (t : Topology) (finding : Finding) (picture : Picture) : Type 0 where
  pub kind_is : picture.kind ≡ Waits
  pub edition_is : picture.may_withdraw ≡ true
  pub columns_are : picture.columns ≡ length (sites_of t)
  pub has_room : AllByRecursion (λ site. length (members_of t site) ≤ picture.rows) (sites_of t)
  pub marks_are : picture.marks.items ≡ site_marks t (λ site. length (members_of t site)) ++ waits_marks t finding

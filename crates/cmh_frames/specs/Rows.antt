-- What is wrong with the rows that are given for a topology, if anything.
use Rattle.std.specs.Prelude.{◌≡◌, ℕ, Bool, false, not, ◌||◌, List, [], ◌∷◌, length, ◌==◌, nat_lt, if◌then◌else◌, Option, None, Some, map, flat_map}
use Rattle.std.specs.List.{list_any, sum_by}
use Rattle.cmh_frames.specs.declared.edition.Edition.{Edition}
use Rattle.cmh_frames.specs.Edition.{site_limit, process_limit, member_limit}
use Rattle.cmh_frames.specs.Number.{is_number}
use Rattle.cmh_frames.specs.declared.rows.TopologyFault.{TopologyFault}
use Rattle.cmh_frames.specs.declared.rows.TopologyFault.TheVariants.{Limit, RepeatedSite, RepeatedProcess, BadNumber, Memory}

-- a row: a site and its processes
abbrev pub Row : Type 0
Row = ℕ × List ℕ

-- too many sites, too many processes at one of them, or too many in all
abbrev pub is_over_limit : Edition → List Row → Bool
is_over_limit edition rows =
    nat_lt (site_limit edition) (length rows)
    || (list_any (λ (row : Row). nat_lt (member_limit edition) (length row.1)) rows
    || nat_lt (process_limit edition) (sum_by (λ (row : Row). length row.1) rows))

-- all processes of the rows
abbrev pub all_members : List Row → List ℕ
all_members rows = flat_map (λ (row : Row). row.1) rows

-- a number stands twice in the list
abbrev pub repeats : List ℕ → Bool
repeats [] = false
repeats (n ∷ ns) = list_any (λ m. m == n) ns || repeats ns

-- a row has what is no number of a site or a process
abbrev pub has_bad_number : List Row → Bool
has_bad_number rows =
    list_any (λ (row : Row). not (is_number row.0) || list_any (λ p. not (is_number p)) row.1) rows

-- the first of the faults that holds over all rows: a site with two rows and a process that is named twice are repeated
abbrev pub fault_of : Edition → List Row → Option TopologyFault
fault_of edition rows =
    if is_over_limit edition rows then Some Limit
    else (if repeats (map (λ (row : Row). row.0) rows) then Some RepeatedSite
    else (if repeats (all_members rows) then Some RepeatedProcess
    else (if has_bad_number rows then Some BadNumber else None)))

-- the fault is the first that holds; out of memory comes only where none does
abbrev pub IsFaultOf : Edition → List Row → TopologyFault → Type 0
IsFaultOf edition rows Memory = fault_of edition rows ≡ None
IsFaultOf edition rows fault = fault_of edition rows ≡ Some fault

-- the number of a fault
abbrev pub fault_number : TopologyFault → ℕ
fault_number Limit = 1
fault_number RepeatedSite = 2
fault_number RepeatedProcess = 3
fault_number BadNumber = 4
fault_number Memory = 5

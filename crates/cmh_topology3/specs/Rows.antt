-- What is wrong with the rows that are given for a world of edition 3, if anything.
use Rattle.std.specs.Prelude.{◌≡◌, Bool, ◌||◌, List, length, nat_lt, if◌then◌else◌, Option, None, Some, map}
use Rattle.std.specs.List.{list_any, sum_by}
use Rattle.cmh_frames.specs.declared.rows.TopologyFault.{TopologyFault}
use Rattle.cmh_frames.specs.declared.rows.TopologyFault.TheVariants.{Limit, RepeatedSite, RepeatedProcess, BadNumber, Memory}
use Rattle.cmh_frames.specs.Rows.{Row, all_members, has_bad_number, repeats}
use Rattle.cmh_topology3.specs.Limits.{most_members, most_processes, most_sites}

-- too many sites, too many processes at one of them, or too many in all
abbrev pub is_over_limit : List Row → Bool
is_over_limit rows =
    nat_lt most_sites (length rows)
    || (list_any (λ (row : Row). nat_lt most_members (length row.1)) rows
    || nat_lt most_processes (sum_by (λ (row : Row). length row.1) rows))

-- the first of the faults that holds over all rows: a site with two rows and a process that is named twice are repeated
abbrev pub fault_of : List Row → Option TopologyFault
fault_of rows =
    if is_over_limit rows then Some Limit
    else (if repeats (map (λ (row : Row). row.0) rows) then Some RepeatedSite
    else (if repeats (all_members rows) then Some RepeatedProcess
    else (if has_bad_number rows then Some BadNumber else None)))

-- the fault is the first that holds; out of memory comes only where none does
abbrev pub IsFaultOf : List Row → TopologyFault → Type 0
IsFaultOf rows Memory = fault_of rows ≡ None
IsFaultOf rows fault = fault_of rows ≡ Some fault

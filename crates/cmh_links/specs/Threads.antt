-- The links of a site's threads, and where their taps are.
use Rattle.std.specs.Prelude.{ℕ, ◌==◌, Bool, true, false, List, ◌++◌, map, reverse}
use Rattle.std.specs.List.{filter, sum_by}
use Rattle.cmh_station.specs.LinkEnds.{Tap}
use Rattle.cmh_carriers.specs.Table.{number_of}
use Rattle.cmh_links.specs.declared.opening.Place.{Place}
use Rattle.cmh_links.specs.declared.opening.Place.TheVariants.{Idle, Closed, Draining, Writing}

-- the site that a tap's link leads to
abbrev pub site_of : Tap → ℕ
site_of tap = tap.to

-- the site that the link of a place leads to
abbrev pub leads_to : Place → ℕ
leads_to (Idle tap) = tap.to
leads_to (Closed tap fault) = tap.to
leads_to (Draining drain fault) = drain.promise.to
leads_to (Writing writer) = writer.promise.to

-- the sites of all links: of those that were to be opened, and of those whose taps wait, the next one last
abbrev pub link_sites : List Place → List Tap → List ℕ
link_sites places waiting = map leads_to places ++ map site_of (reverse waiting)

-- whether the link was not new
abbrev pub is_idle : Place → Bool
is_idle (Idle tap) = true
is_idle (Closed tap fault) = false
is_idle (Draining drain fault) = false
is_idle (Writing writer) = false

-- how many links have a writing thread
abbrev pub is_connected : Place → ℕ
is_connected (Idle tap) = 0
is_connected (Closed tap fault) = 0
is_connected (Draining drain fault) = 0
is_connected (Writing writer) = 1

abbrev pub connected_in : List Place → ℕ
connected_in places = sum_by is_connected places

-- how many links were new and could not be opened
abbrev pub is_failed : Place → ℕ
is_failed (Idle tap) = 0
is_failed (Closed tap fault) = 1
is_failed (Draining drain fault) = 1
is_failed (Writing writer) = 0

abbrev pub failed_in : List Place → ℕ
failed_in places = sum_by is_failed places

-- whether the link was new and closed with this number
abbrev pub has_closed : ℕ → Place → Bool
has_closed number (Idle tap) = false
has_closed number (Closed tap fault) = number_of fault == number
has_closed number (Draining drain fault) = number_of fault == number
has_closed number (Writing writer) = false

-- the sites that such links lead to
abbrev pub closed_with : ℕ → List Place → List ℕ
closed_with number places = map leads_to (filter (has_closed number) places)

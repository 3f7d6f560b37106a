-- What segments come to each by itself, and how far a merge came, by site number.
use Rattle.std.specs.Prelude.{ℕ, ◌+◌, ◌-◌, ◌==◌, nat_lt, List, [], ◌∷◌, ◌++◌, length, take, map, if◌then◌else◌, Option, None, Some}
use Rattle.std.specs.Option.{option_to_list}
use Rattle.cmh_model3.specs.Entries as model
use Rattle.cmh_model3.specs.State.{State}
use Rattle.cmh_topology3.specs.Topology.{Topology}
use Rattle.cmh_controller3.specs.Controller.{Controller}
use Rattle.cmh_segment3.specs.declared.segment.Segment.{Segment}
use Rattle.cmh_segment3.specs.Entries.{step_of}
use Rattle.cmh_merge.specs.Merges as merge
use Rattle.cmh_audit3.specs.declared.stops.Stop.{Stop}
use Rattle.cmh_audit3.specs.declared.stops.Reason.{Reason}
use Rattle.cmh_audit3.specs.declared.stops.Reason.TheVariants.{Unlawful, NotSent}
use Rattle.cmh_audit3.specs.Journals.{journal_of}
use Rattle.cmh_audit3.specs.Set.{sites_in}
use Rattle.cmh_audit3.specs.Inner.Lawful.{AreLawfulLengths, StandIfLawful}

-- of each segment the steps of its first entries, so many as the limit says
abbrev pub steps_within : List Segment → List ℕ → List (List model.Entry)
steps_within [] limits = []
steps_within (g ∷ segments) [] = []
steps_within (g ∷ segments) (n ∷ limits) = map step_of (take n g.entries) ∷ steps_within segments limits

-- how far the entries of segments are lawful from these states, and where the controllers stand
pub record IsSurvey (t : Topology) (states : ℕ → State) (segments : List Segment) (limits : List ℕ) (controllers : List Controller) : Type 0 where
  pub lengths : AreLawfulLengths t states segments limits
  pub stand : StandIfLawful t states segments controllers

-- the limit of a site's segment
abbrev pub limit_at : List Segment → List ℕ → ℕ → ℕ
limit_at [] limits s = 0
limit_at (g ∷ segments) [] s = 0
limit_at (g ∷ segments) (n ∷ limits) s = if g.header.site == s then n else limit_at segments limits s

-- how many steps of a site are left
abbrev pub left_at : List Segment → List (List model.Entry) → ℕ → ℕ
left_at segments lefts s = length (merge.journal_of (sites_in segments) lefts s)

-- where lawful entries are left, they wait for a message
abbrev pub reason_of : ℕ → Reason
reason_of left = if left == 0 then Unlawful else NotSent

-- the stop of a site of whose entries so many are lawful, of which so many are left, and so many there in all
abbrev pub stop_of : ℕ → ℕ → ℕ → ℕ → Option Stop
stop_of s lawful left all =
    if nat_lt (lawful - left) all
    then Some (record { site = s; entry = lawful - left + 1; reason = reason_of left }) else None

abbrev pub stop_at : List Segment → List ℕ → List (List model.Entry) → ℕ → Option Stop
stop_at segments limits lefts s =
    stop_of s (limit_at segments limits s) (left_at segments lefts s) (length (journal_of segments s))

-- those of these sites that have one
abbrev pub stops_at : (ℕ → Option Stop) → List ℕ → List Stop
stops_at stop [] = []
stops_at stop (s ∷ sites) = option_to_list (stop s) ++ stops_at stop sites

-- The segments of one site's journal, from its first epoch on.
use Rattle.std.specs.Prelude.{◌≡◌, not, ◌==◌, if◌then◌else◌, List, [], ◌∷◌, Option, None, Some}
use Rattle.std.specs.Bool.{nat_eq, nat_lt}
use Rattle.std.specs.Cmp.Lexicographic.{pointwise}
use Rattle.cmh_segment3.specs.declared.segment.Segment.{Segment}
use Rattle.cmh_history3.specs.declared.check.JournalFault.{JournalFault}
use Rattle.cmh_history3.specs.declared.check.JournalFault.TheVariants.{NoFirst, OtherSite, OtherWorld, NotLater, Gap}

-- Why a segment does not follow the one in front of it: it is of another site or world, its epoch is not later, or it says
-- that another one is in front of it.
abbrev pub fault_between : Segment → Segment → Option JournalFault
fault_between front next =
    if not (next.header.site == front.header.site) then Some (OtherSite next.header.epoch)
    else (if not (pointwise nat_eq next.header.world front.header.world) then Some (OtherWorld next.header.epoch)
    else (if not (nat_lt front.header.epoch next.header.epoch) then Some (NotLater next.header.epoch)
    else (if not (next.header.before == front.header.epoch) then Some (Gap next.header.epoch)
    else None)))

-- a fault, or else another
abbrev pub or_else : Option JournalFault → Option JournalFault → Option JournalFault
or_else (Some fault) other = Some fault
or_else None other = other

-- the first fault behind a segment
abbrev pub fault_behind : Segment → List Segment → Option JournalFault
fault_behind front [] = None
fault_behind front (next ∷ more) = or_else (fault_between front next) (fault_behind next more)

-- the first fault: the first segment is missing, or one does not follow the one in front of it
abbrev pub fault_in : List Segment → Option JournalFault
fault_in [] = Some NoFirst
fault_in (first ∷ later) = if first.header.epoch == 0 then fault_behind first later else Some NoFirst

-- the first is of epoch 0, and each other one follows the one in front of it
abbrev pub IsJournal : List Segment → Type 0
IsJournal segments = fault_in segments ≡ None

-- the same from a first one of any epoch on
abbrev pub fault_within : List Segment → Option JournalFault
fault_within [] = Some NoFirst
fault_within (first ∷ later) = fault_behind first later

abbrev pub IsPart : List Segment → Type 0
IsPart segments = fault_within segments ≡ None

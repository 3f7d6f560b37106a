-- The part of a run in which the entries of an epoch stand.
use Rattle.std.specs.Prelude.{ℕ, ◌+◌, ◌-◌, ◌/◌, ◌^◌, ◌==◌, ◌≡◌, Bool, false, List, [], ◌∷◌, ◌++◌, flat_map, get_or, if◌then◌else◌, length, map, min, slice_get, slice_index}
use Rattle.std.specs.List.Sorted.{IsPermutation, IsSorted}
use Rattle.std.specs.Option.{option_map_or}
use Rattle.std.specs.Ordering.{nat_cmp}
use Rattle.cmh_model3.specs.declared.event.Event.{Event}
use Rattle.cmh_model3.specs.declared.event.Event.TheVariants.{Turn}
use Rattle.cmh_topology3.specs.Topology.{Topology, sites_of}
use Rattle.cmh_segment3.specs.declared.entry.Entry.{Entry}
use Rattle.cmh_segment3.specs.declared.segment.Segment.{Segment}
use Rattle.cmh_audit3.specs.Journals.{journal_of}
use Rattle.cmh_draw.specs.declared.mark.EntrySpot.{EntrySpot}
use Rattle.cmh_draw.specs.declared.mark.Mark.{Mark}
use Rattle.cmh_draw.specs.declared.mark.Mark.TheVariants.{Entry as Entry_mark}
use Rattle.cmh_picture.specs.declared.part.Part.{Part}

-- ---- the epochs of entries

-- the epoch of an entry behind one of an epoch: a turn is of the epoch to which it leads
abbrev pub epoch_behind : ℕ → Event → ℕ
epoch_behind epoch (Turn clock) = clock / 2 ^ 32
epoch_behind epoch event = epoch

-- those of entries, in order, behind one of an epoch
abbrev pub epochs_from : ℕ → List Entry → List ℕ
epochs_from epoch [] = []
epochs_from epoch (e ∷ es) = epoch_behind epoch e.event ∷ epochs_from (epoch_behind epoch e.event) es

-- those of the entries of each site, in the order of the topology
abbrev pub epochs_at : Topology → List Segment → List (List ℕ)
epochs_at t wholes = map (λ site. epochs_from 0 (journal_of wholes site)) (sites_of t)

-- ---- the columns of an epoch

abbrev pub is_at : ℕ → List ℕ → ℕ → Bool
is_at epoch epochs number = option_map_or (λ own. own == epoch) (slice_get epochs (number - 1)) false

-- the entry is one of the epoch
abbrev pub is_of : ℕ → List (List ℕ) → EntrySpot → Bool
is_of epoch epochs at = is_at epoch (get_or epochs at.spot.row []) at.number

-- the column of a mark, if it is that of an entry of the epoch
abbrev pub column_in : ℕ → List (List ℕ) → Mark → List ℕ
column_in epoch epochs (Entry_mark entry) = if is_of epoch epochs entry.at then entry.at.spot.column ∷ [] else []
column_in epoch epochs mark = []

-- those of all entries of the epoch
abbrev pub columns_in : ℕ → List (List ℕ) → List Mark → List ℕ
columns_in epoch epochs marks = flat_map (column_in epoch epochs) marks

-- ---- the part

-- from the first to the last of columns that ascend; no column where there are none
abbrev pub part_over : List ℕ → Part
part_over [] = record { first = 1; last = 0 }
part_over (c ∷ cs) = record { first = min (c + 1) 4294967295; last = min (slice_index (c ∷ cs) (length cs) + 1) 4294967295 }

-- the part reaches from the least to the greatest of these columns, which it counts from 1
pub record IsPartOver (columns : List ℕ) (part : Part) : Type 0 where
  pub ascending : List ℕ
  pub same : IsPermutation columns ascending
  pub sorted : IsSorted nat_cmp ascending
  pub part_is : part ≡ part_over ascending

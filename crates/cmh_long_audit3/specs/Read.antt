-- The files of journals, each segment by segment.
use Rattle.std.specs.Prelude.{◌≡◌, ◌<◌, ◌⊎◌, ℕ, List, [], Option, None, Some}
use Rattle.std.specs.List.{AllZip}
use Rattle.cmh_segment3.specs.Head.{BeginsHead}
use Rattle.cmh_segment3.specs.Segment.{IsSegmentOf}
use Rattle.cmh_segment3.specs.declared.segment.Segment.{Segment}

-- the file is that of the segment, with a tail or none
abbrev pub IsRead : List ℕ → Segment → Type 0
IsRead file g = (left : ℕ) × IsSegmentOf g left file

-- the files are those of the segments of a journal, in order
abbrev pub AreRead : List (List ℕ) → List Segment → Type 0
AreRead files journal = AllZip IsRead files journal

-- The segment is behind the last epoch, and its head begins the file. It has no entries here: those in the file are not read.
pub record IsBehind (last : ℕ) (file : List ℕ) (g : Segment) : Type 0 where
  pub later : last < g.header.epoch
  pub bare : g.entries ≡ []
  pub rest : List ℕ
  pub begins : BeginsHead file (record { header = g.header; base = g.base }) rest

-- the file is that of the segment, or this is behind the last epoch
abbrev pub IsReadUntil : Option ℕ → List ℕ → Segment → Type 0
IsReadUntil None file g = IsRead file g
IsReadUntil (Some last) file g = IsRead file g ⊎ IsBehind last file g

-- the same of the files of a journal, in order
abbrev pub AreReadUntil : Option ℕ → List (List ℕ) → List Segment → Type 0
AreReadUntil last files journal = AllZip (IsReadUntil last) files journal

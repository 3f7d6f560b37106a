-- The lines of segments.
use Rattle.std.specs.Prelude.{ℕ, Bool, false, ◌==◌, if◌then◌else◌, List, [], ◌∷◌, ◌++◌, codes, map, flat_map}
use Rattle.std.specs.Fmt.{decimal}
use Rattle.cmh_archive3.specs.Archive.{is_closed, may_be_archived}
use Rattle.cmh_archive3.specs.Names.{sixteen_digits}
use Rattle.cmh_archive3.specs.declared.summary.Folder.{Folder}
use Rattle.cmh_archive3.specs.declared.summary.Listed.{Listed}
use Rattle.cmh_archive3.specs.declared.summary.Summary.{Summary}
use Rattle.cmh_archive3.specs.declared.lines.SegmentLine.{SegmentLine}
use Rattle.cmh_archive3.specs.declared.lines.State.{State}
use Rattle.cmh_archive3.specs.declared.lines.State.TheVariants.{Newest, Open, Closed}

-- ---- which lines there are

abbrev pub state_of : Bool → State
state_of closed = if closed then Closed else Open

-- that of a segment before the newest one; these are before it, the last one first
abbrev pub line_of : List ℕ → Listed → List Listed → SegmentLine
line_of newest segment earlier = record {
  segment = segment;
  state = state_of (is_closed newest segment.summary.header.epoch);
  may_be_archived = may_be_archived newest segment earlier;
}

-- those of the segments before the newest one, which are given last first: ascending
abbrev pub earlier_lines : List ℕ → List Listed → List SegmentLine
earlier_lines newest [] = []
earlier_lines newest (segment ∷ earlier) = earlier_lines newest earlier ++ line_of newest segment earlier ∷ []

abbrev pub newest_line : Listed → SegmentLine
newest_line segment = record { segment = segment; state = Newest; may_be_archived = false }

abbrev pub folder_lines : List ℕ → Folder → List SegmentLine
folder_lines newest folder = earlier_lines newest folder.earlier.items ++ newest_line folder.newest ∷ []

-- the newest epoch of each site
abbrev pub newest_in : List Folder → List ℕ
newest_in folders = map (λ (folder : Folder). folder.newest.summary.header.epoch) folders

-- those of a site
abbrev pub site_lines : List ℕ → List Folder → ℕ → List SegmentLine
site_lines newest folders s =
    flat_map (λ (folder : Folder). if folder.newest.summary.header.site == s then folder_lines newest folder else []) folders

-- those of all these sites
abbrev pub all_lines : List ℕ → List Folder → List SegmentLine
all_lines sites folders = flat_map (site_lines (newest_in folders) folders) sites

-- ---- their text

abbrev pub state_text : State → List ℕ
state_text Newest = codes "newest"
state_text Open = codes "open"
state_text Closed = codes "closed"

-- a word behind a line, if it stands there
abbrev pub word_if : Bool → List ℕ → List ℕ
word_if stands word = if stands then word else []

-- of a segment by itself
abbrev pub summary_text : Summary → List ℕ
summary_text summary =
    codes "site " ++ decimal summary.header.site ++ codes " epoch " ++ decimal summary.header.epoch
    ++ codes " entries " ++ decimal summary.entries ++ codes " bytes " ++ decimal summary.bytes
    ++ codes " mark " ++ sixteen_digits summary.mark

abbrev pub line_text : SegmentLine → List ℕ
line_text line =
    summary_text line.segment.summary ++ codes " " ++ state_text line.state
    ++ word_if line.segment.is_audited (codes " audited") ++ word_if line.may_be_archived (codes " archive") ++ codes "\n"

abbrev pub lines_text : List SegmentLine → List ℕ
lines_text lines = flat_map line_text lines

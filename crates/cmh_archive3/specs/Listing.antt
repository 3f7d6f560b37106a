-- The command `segments`.
use Rattle.std.specs.Prelude.{◌≡◌, ℕ, List, [], map, Option, Some}
use Rattle.std.specs.Io.KnownBytes.{Appends}
use Rattle.std.specs.List.{AllZip}
use Rattle.cmh_audit3.specs.Set.{AreOfWorld}
use Rattle.cmh_files3.specs.Audits.{SaysTopology}
use Rattle.cmh_inputs.specs.Stored.{Stored}
use Rattle.cmh_segment3.specs.Base.{empty_base}
use Rattle.cmh_segment3.specs.declared.head.Header.{Header}
use Rattle.cmh_segment3.specs.declared.segment.Segment.{Segment}
use Rattle.cmh_topology3.specs.Topology.{Topology, sites_of}
use Rattle.cmh_archive3.specs.Lines.{all_lines, lines_text}
use Rattle.cmh_archive3.specs.Reading.{IsFolderAt}
use Rattle.cmh_archive3.specs.declared.lines.SegmentLine.{SegmentLine}
use Rattle.cmh_archive3.specs.declared.summary.Folder.{Folder}

-- the topology file says this world; where the files are told, it is that at the path
pub record SaysTopologyAt (told : Option Stored) (path : List ℕ) (world : Topology) : Type 0 where
  pub file : List ℕ
  pub read : (stored : Stored) → told ≡ Some stored → stored.files path ≡ Some file
  pub says : SaysTopology file world

abbrev pub segment_with : Header → Segment
segment_with header = record { header = header; base = empty_base; entries = [] }

-- segments with the headers of the newest ones
abbrev pub newest_segments : List Folder → List Segment
newest_segments folders = map (λ (folder : Folder). segment_with folder.newest.summary.header) folders

-- The lines are those of the segments in these folders, site by site. The folders are those of all sites of the world that the
-- topology file says, one of each.
pub record AreLinesOf (told : Option Stored) (topology : List ℕ) (paths : List (List ℕ)) (lines : List SegmentLine) : Type 0 where
  pub world : Topology
  pub folders : List Folder
  pub says : SaysTopologyAt told topology world
  pub read : AllZip (IsFolderAt told) paths folders
  pub of_world : AreOfWorld world (newest_segments folders)
  pub lines_are : lines ≡ all_lines (sites_of world) folders

-- just their text was written
pub record ListsSegments (told : Option Stored) (topology : List ℕ) (paths : List (List ℕ)) (old new : Option (List ℕ)) : Type 0 where
  pub lines : List SegmentLine
  pub are_lines : AreLinesOf told topology paths lines
  pub wrote : Appends old new (lines_text lines)

-- What is kept of a segment that was read.
use Rattle.std.specs.Prelude.{◌≡◌, ℕ, List, length}
use Rattle.cmh_segment3.specs.Head.{head_mark}
use Rattle.cmh_segment3.specs.Segment.{IsSegmentOf, last_mark}
use Rattle.cmh_segment3.specs.declared.segment.Segment.{Segment}
use Rattle.cmh_archive3.specs.declared.summary.Summary.{Summary}

-- the summary is that of the segment whose file has these bytes
pub record IsSummaryOf (summary : Summary) (bytes : List ℕ) : Type 0 where
  pub segment : Segment
  pub read : IsSegmentOf segment summary.tail bytes
  pub header_is : summary.header ≡ segment.header
  pub entries_are : summary.entries ≡ length segment.entries
  pub bytes_are : summary.bytes ≡ length bytes
  pub mark_is : summary.mark ≡ last_mark (head_mark segment.header segment.base) segment.entries

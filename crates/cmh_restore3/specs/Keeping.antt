-- The journals of a restored world, as they are begun.
use Rattle.std.specs.Prelude.{◌≡◌, ℕ, Contains, List, [], ◌∷◌}
use Rattle.cmh_segment3.specs.Head.{marked_head}
use Rattle.cmh_segment3.specs.declared.segment.Segment.{Segment}

-- The journal of a site was begun with a file, of which these bytes are all: the head of its segment, with the mark. So it is
-- the file of the segment where that has no entry.
pub record BeginsJournal {K : Type 0} (Begins : K → ℕ → ℕ → List ℕ → K → Type 0) (segments : List Segment) (site : ℕ)
    (old new : K) : Type 0 where
  pub segment : Segment
  pub there : Contains segments segment
  pub of_site : segment.header.site ≡ site
  pub begun : Begins old site segment.header.epoch (marked_head segment.header segment.base) new

-- those of these sites were begun, one after the other
abbrev pub BeginsEach : {K : Type 0} → (K → ℕ → ℕ → List ℕ → K → Type 0) → List Segment → List ℕ → K → K → Type 0
BeginsEach Begins segments [] old new = new ≡ old
BeginsEach {K} Begins segments (site ∷ sites) old new =
    (next : K) × BeginsJournal Begins segments site old next × BeginsEach Begins segments sites next new

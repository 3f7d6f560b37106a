-- Segments, read one file after the other.
use Rattle.std.proofs.Common.{◌≡◌, ℕ, ◌+◌, ◌<◌, List, [], ◌∷◌, ◌++◌, length, map, take, get_or, sym, ap, subst, ◌∙◌}
use Rattle.std.specs.List.{AllZip}
use Rattle.std.proofs.lemmas.List.{map-append, take_more}
use Rattle.std.proofs.lemmas.Slice.Zip.{all_zipped_more}
use Rattle.cmh_segment3.specs.Segment.{IsSegmentOf}
use Rattle.cmh_segment3.specs.declared.segment.Segment.{Segment}
use Rattle.cmh_draw3.specs.Draws.{AreSegmentsOf}

-- one more file is read
pub segments_more : {F : Type 0} → (bytes : F → List ℕ) (files : List F) (i : ℕ) (file : F) (gs : List Segment) (g : Segment) (left : ℕ)
    → i < length files → file ≡ get_or files i file → AreSegmentsOf (map bytes (take i files)) gs → IsSegmentOf g left (bytes file)
    → AreSegmentsOf (map bytes (take (i + 1) files)) (gs ++ g ∷ [])
segments_more bytes files i file gs g left within is so_far one =
    let longer : map bytes (take i files) ++ bytes file ∷ [] ≡ map bytes (take (i + 1) files) =
    sym (map-append bytes (take i files) (file ∷ [])) ∙ ap (map bytes) (ap (λ x. take i files ++ x ∷ []) is ∙ sym (take_more files i file within)) in
    subst (λ (fs : List (List ℕ)). AreSegmentsOf fs (gs ++ g ∷ [])) longer
    (all_zipped_more (λ (s : Segment) (f : List ℕ). (n : ℕ) × IsSegmentOf s n f) gs (map bytes (take i files)) g (bytes file) so_far (left, one))

-- Reading segments, one file after the other.
use Rattle.std.proofs.Common.{◌≡◌, ℕ, zero, suc, ◌+◌, ◌<◌, List, [], ◌∷◌, ◌++◌, length, map, take, get_or, sym, ap, subst, ◌∙◌, refl, append-nil}
use Rattle.std.specs.List.{AllByRecursion, AllZip, flat_map}
use Rattle.std.proofs.lemmas.Grind.{flat_map-append}
use Rattle.std.proofs.lemmas.List.{map-append, take_more}
use Rattle.std.proofs.lemmas.Slice.Zip.{all_zipped_more}
use Rattle.cmh_frames.specs.Rows.{Row}
use Rattle.cmh_topology3.specs.Topology.{IsTopologyOf, Topology}
use Rattle.cmh_segment3.specs.Segment.{IsSegmentOf}
use Rattle.cmh_segment3.specs.declared.segment.Segment.{Segment}
use Rattle.cmh_segment3.specs.declared.segment.SegmentFault.TheVariants.{BadHead, Damaged, Memory}
use Rattle.cmh_audit3.specs.Files.{IsFaultOfFile}
use Rattle.cmh_audit3.specs.declared.file.FileFault.{FileFault}
use Rattle.cmh_audit3.specs.declared.file.FileFault.TheVariants.{OtherEdition, Segment as Unread}
use Rattle.cmh_console.specs.TopologyFile3.{SaysWorld}
use Rattle.cmh_files.proofs.FileLemmas.{split-at}
use Rattle.cmh_files3.specs.AuditFaults.{of_file}
use Rattle.cmh_files3.specs.Audits.{IsFaultOfFiles, IsFirstFaulty, SaysTopology, cut_of}
use Rattle.cmh_files3.specs.Inner.Cuts.{cut_at}

-- the topology that is made of what a file says
pub says_topology : (file world : List ℕ) (rows : List Row) (t : Topology) → SaysWorld file world rows → IsTopologyOf world rows t → SaysTopology file t
says_topology file world rows t says is = (
  rows,
  subst (λ (w : List ℕ). SaysWorld file w rows) (sym is.world_is) says,
  subst (λ (w : List ℕ). IsTopologyOf w rows t) (sym is.world_is) is,
)

-- the files so far are those of the segments so far, of which just these were cut off
pub record ReadSoFar (files : List (List ℕ)) (segments : List Segment) (cuts : List (ℕ × ℕ)) : Type 0 where
  pub reads : List (Segment × ℕ)
  pub segments_are : segments ≡ map (λ one. one.0) reads
  pub are_files : AllZip (λ one file. IsSegmentOf one.0 one.1 file) reads files
  pub cuts_are : flat_map cut_of reads ≡ cuts

cut_told : (g : Segment) (left : ℕ) → cut_of (g, left) ≡ cut_at g.header.site left
cut_told g zero = refl
cut_told g (suc n) = refl

-- each file that was read can be
each_readable : (reads : List (Segment × ℕ)) (fs : List (List ℕ)) → AllZip (λ one file. IsSegmentOf one.0 one.1 file) reads fs
    → AllByRecursion (λ file. (g : Segment) × (left : ℕ) × IsSegmentOf g left file) fs
each_readable [] [] are = tt
each_readable [] (f ∷ fs) are = absurd are
each_readable (r ∷ reads) [] are = absurd are
each_readable (r ∷ reads) (f ∷ fs) are = ((r.0, r.1, are.0), each_readable reads fs are.1)

-- one more file is read
pub read_more : {F : Type 0} → (bytes : F → List ℕ) (files : List F) (i : ℕ) (file : F) (gs : List Segment) (cuts : List (ℕ × ℕ)) (g : Segment) (left : ℕ)
    → i < length files → file ≡ get_or files i file → ReadSoFar (map bytes (take i files)) gs cuts → IsSegmentOf g left (bytes file)
    → ReadSoFar (map bytes (take (i + 1) files)) (gs ++ g ∷ []) (cuts ++ cut_at g.header.site left)
read_more bytes files i file gs cuts g left within is so_far one =
    let longer : map bytes (take i files) ++ bytes file ∷ [] ≡ map bytes (take (i + 1) files) =
    sym (map-append bytes (take i files) (file ∷ [])) ∙ ap (map bytes) (ap (λ x. take i files ++ x ∷ []) is ∙ sym (take_more files i file within)) in
    record {
      reads = so_far.reads ++ (g, left) ∷ [];
      segments_are = ap (λ l. l ++ g ∷ []) so_far.segments_are ∙ sym (map-append (λ (r : Segment × ℕ). r.0) so_far.reads ((g, left) ∷ []));
      are_files = subst (λ (fs : List (List ℕ)). AllZip (λ (r : Segment × ℕ) (f : List ℕ). IsSegmentOf r.0 r.1 f) (so_far.reads ++ (g, left) ∷ []) fs) longer
          (all_zipped_more (λ (r : Segment × ℕ) (f : List ℕ). IsSegmentOf r.0 r.1 f) so_far.reads (map bytes (take i files)) (g, left) (bytes file) so_far.are_files one);
      cuts_are = flat_map-append cut_of so_far.reads ((g, left) ∷ [])
          ∙ ap (λ l. flat_map cut_of so_far.reads ++ l) (append-nil (cut_of (g, left)))
          ∙ ap (λ l. l ++ cut_of (g, left)) so_far.cuts_are ∙ ap (λ l. cuts ++ l) (cut_told g left);
    }

-- the same, said of other names of the two lists
pub read_same : (fs : List (List ℕ)) (gs hs : List Segment) (cs ds : List (ℕ × ℕ)) → hs ≡ gs → ds ≡ cs → ReadSoFar fs gs cs → ReadSoFar fs hs ds
read_same fs gs hs cs ds segments cuts so_far =
    subst (λ (l : List Segment). ReadSoFar fs l ds) (sym segments) (subst (λ (l : List (ℕ × ℕ)). ReadSoFar fs gs l) (sym cuts) so_far)

first_faulty : {F : Type 0} → (bytes : F → List ℕ) (files : List F) (i : ℕ) (file : F) (gs : List Segment) (cs : List (ℕ × ℕ)) (fault : FileFault)
    → i < length files → file ≡ get_or files i file → ReadSoFar (map bytes (take i files)) gs cs → IsFaultOfFile (bytes file) fault
    → IsFirstFaulty (map bytes files) (i + 1) fault
first_faulty bytes files i file gs cs fault within is so_far found =
    let split = split-at bytes files i file within is in
    record {
      before = map bytes (take i files);
      bytes = bytes file;
      after = split.0;
      files_are = split.1;
      place_is = ap (λ n. n + 1) (sym split.2);
      readable = each_readable so_far.reads (map bytes (take i files)) so_far.are_files;
      fault_is = found;
    }

-- the first file that is no segment's
pub fault_found : {F : Type 0} → (bytes : F → List ℕ) (files : List F) (i : ℕ) (file : F) (gs : List Segment) (cs : List (ℕ × ℕ)) (fault : FileFault)
    → i < length files → file ≡ get_or files i file → ReadSoFar (map bytes (take i files)) gs cs → IsFaultOfFile (bytes file) fault
    → IsFaultOfFiles (map bytes files) (of_file (i + 1) fault)
fault_found bytes files i file gs cs OtherEdition within is so_far found =
    (i + 1, OtherEdition, first_faulty bytes files i file gs cs OtherEdition within is so_far found, refl)
fault_found bytes files i file gs cs (Unread BadHead) within is so_far found =
    (i + 1, Unread BadHead, first_faulty bytes files i file gs cs (Unread BadHead) within is so_far found, refl)
fault_found bytes files i file gs cs (Unread (Damaged byte)) within is so_far found =
    (i + 1, Unread (Damaged byte), first_faulty bytes files i file gs cs (Unread (Damaged byte)) within is so_far found, refl)
fault_found bytes files i file gs cs (Unread Memory) within is so_far found = tt

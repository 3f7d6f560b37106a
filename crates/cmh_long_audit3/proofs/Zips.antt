-- Files that are read one after the other.
use Rattle.std.proofs.Common.{◌≡◌, ℕ, ◌+◌, ◌%◌, ◌^◌, ◌<◌, List, [], ◌∷◌, ◌++◌, length, map, take, get_or, sym, ap, subst, ◌∙◌, Vec, Option, None, Some, inl, inr}
use Rattle.std.specs.Global.{Global}
use Rattle.std.specs.List.{AllByRecursion, AllZip}
use Rattle.std.proofs.lemmas.List.{map-append, take_more}
use Rattle.std.proofs.lemmas.Slice.Zip.{all_zipped_more}
use Rattle.rayon.specs.Lists.{enumerate_from}
use Rattle.cmh_frames.specs.Rows.{Row}
use Rattle.cmh_topology3.specs.Topology.{IsTopologyOf, Topology}
use Rattle.cmh_segment3.specs.declared.segment.Segment.{Segment}
use Rattle.cmh_console.specs.TopologyFile3.{SaysWorld}
use Rattle.cmh_files3.specs.Audits.{SaysTopology}
use Rattle.cmh_history3.specs.Histories.{AreReadBases}
use Rattle.cmh_segment3.specs.Base.{IsBase}
use Rattle.cmh_long_audit3.specs.Read.{AreRead, AreReadUntil, IsReadUntil}

-- the bytes of files
abbrev pub all_files : List (Vec ℕ Global) → List (List ℕ)
all_files files = map (λ (file : Vec ℕ Global). file.items) files

abbrev pub file_lists : List (Vec (Vec ℕ Global) Global) → List (List (List ℕ))
file_lists files = map (λ (segments : Vec (Vec ℕ Global) Global). all_files segments.items) files

-- one more
pub zip_more : {F Y X : Type 0} (R : Y → X → Type 0) (h : F → Y) (fs : List F) (i : ℕ) (f : F) (xs : List X) (x : X) → i < length fs → f ≡ get_or fs i f
    → AllZip R (map h (take i fs)) xs → R (h f) x → AllZip R (map h (take (i + 1) fs)) (xs ++ x ∷ [])
zip_more R h fs i f xs x within is so_far one =
    let longer : map h (take i fs) ++ h f ∷ [] ≡ map h (take (i + 1) fs) =
    sym (map-append h (take i fs) (f ∷ [])) ∙ ap (map h) (ap (λ y. take i fs ++ y ∷ []) is ∙ sym (take_more fs i f within)) in
    subst (λ ys. AllZip R ys (xs ++ x ∷ [])) longer (all_zipped_more R (map h (take i fs)) xs (h f) x so_far one)

-- what was read has such bases as can be read
pub bases_read : (files : List (List ℕ)) (journal : List Segment) → AreRead files journal → AreReadBases journal
bases_read [] [] read = tt
bases_read [] (g ∷ gs) read = absurd read
bases_read (f ∷ fs) [] read = absurd read
bases_read (f ∷ fs) (g ∷ gs) read = (read.0.1.writes.segment.base_is, bases_read fs gs read.1)

base_until : (last : Option ℕ) (file : List ℕ) (g : Segment) → IsReadUntil last file g → IsBase g.base
base_until None file g read = read.1.writes.segment.base_is
base_until (Some last) file g (inl read) = read.1.writes.segment.base_is
base_until (Some last) file g (inr behind) = behind.begins.base_is

pub bases_until : (last : Option ℕ) (files : List (List ℕ)) (journal : List Segment) → AreReadUntil last files journal → AreReadBases journal
bases_until last [] [] read = tt
bases_until last [] (g ∷ gs) read = absurd read
bases_until last (f ∷ fs) [] read = absurd read
bases_until last (f ∷ fs) (g ∷ gs) read = (base_until last f g read.0, bases_until last fs gs read.1)

pub all_bases : (files : List (List (List ℕ))) (journals : List (List Segment)) → AllZip AreRead files journals → AllByRecursion AreReadBases journals
all_bases [] [] read = tt
all_bases [] (j ∷ js) read = absurd read
all_bases (f ∷ fs) [] read = absurd read
all_bases (f ∷ fs) (j ∷ js) read = (bases_read f j read.0, all_bases fs js read.1)

-- the topology that is made of what a file says
pub says_topology : (file world : List ℕ) (rows : List Row) (t : Topology) → SaysWorld file world rows → IsTopologyOf world rows t → SaysTopology file t
says_topology file world rows t says is = (
  rows,
  subst (λ (w : List ℕ). SaysWorld file w rows) (sym is.world_is) says,
  subst (λ (w : List ℕ). IsTopologyOf w rows t) (sym is.world_is) is,
)

-- what is so of each with its place is so of each
pub places_left_out : {X Y : Type 0} (R : X → Y → Type 0) (at : ℕ) (xs : List X) (ys : List Y)
    → AllZip (λ (placed : ℕ × X) y. R placed.1 y) (enumerate_from at xs) ys → AllZip R xs ys
places_left_out R at [] [] h = tt
places_left_out R at [] (y ∷ ys) h = absurd h
places_left_out R at (x ∷ xs) [] h = absurd h
places_left_out R at (x ∷ xs) (y ∷ ys) h = (h.0, places_left_out R ((at + 1) % 2 ^ 64) xs ys h.1)

-- Journals of several epochs, and what their audit comes to.
use Rattle.std.specs.Prelude.{◌≡◌, ◌≢◌, ℕ, ◌<◌, List, [], ◌∷◌, None, codes, drop, length, take}
use Rattle.clap.specs.Matches.{one_text}
use Rattle.clap.specs.declared.parser.matches.Found.{Found}
use Rattle.cmh_console.specs.Status.{IsStatus}
use Rattle.cmh_files.specs.Readings.{file_at}
use Rattle.cmh_inputs.specs.Editions.{BeginsSegment}
use Rattle.cmh_long_audit3.specs.Audits.{IsAccepted}
use Rattle.cmh_long_audit3.specs.Parts.{IsPartAccepted}
use Rattle.cmh_long_audit3.specs.declared.part.EpochRange.{EpochRange}

-- the bytes begin as a segment of a later epoch than the first
pub record BeginsLater (bytes : List ℕ) : Type 0 where
  pub segment : BeginsSegment bytes
  pub later : take 4 (drop 23 bytes) ≢ 0 ∷ 0 ∷ 0 ∷ 0 ∷ []

-- one of the files does
pub record OneBeginsLater (files : List (List ℕ)) : Type 0 where
  pub place : ℕ
  pub inside : place < length files
  pub later : BeginsLater (file_at files place)

-- An audit over several epochs ended so: with 0 only where the epochs of some files of segments are one run of the world that
-- the topology file says.
pub record LongEnds (topology : List ℕ) (status : ℕ) : Type 0 where
  pub ends : IsStatus status
  pub accepted : status ≡ 0 → (files : List (List (List ℕ))) × IsAccepted topology files

-- no epoch is named
abbrev pub NamesNoEpoch : Found → Type 0
NamesNoEpoch found = (one_text found (codes "epoch") ≡ None) × (one_text found (codes "from") ≡ None)

-- An audit of some epochs ended so: with 0 only where those of some files of segments are one run from the bases of the
-- first, in a world that some topology file says.
pub record PartEnds (range : EpochRange) (status : ℕ) : Type 0 where
  pub ends : IsStatus status
  pub accepted : status ≡ 0 → (topology : List ℕ) × (files : List (List (List ℕ))) × IsPartAccepted topology range files

-- so did one of some epochs or others
abbrev pub SomePartEnds : ℕ → Type 0
SomePartEnds status = (range : EpochRange) × PartEnds range status

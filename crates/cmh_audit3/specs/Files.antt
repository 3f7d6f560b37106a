-- The files that an auditor is given.
use Rattle.std.specs.Prelude.{◌≡◌, ◌⊎◌, ℕ, List, ◌∷◌}
use Rattle.cmh_segment3.specs.Segment.{IsFault}
use Rattle.cmh_audit3.specs.declared.file.FileFault.{FileFault}
use Rattle.cmh_audit3.specs.declared.file.FileFault.TheVariants.{OtherEdition, Segment}

-- the bytes begin as a journal of edition 1 or 2: "CMHJ", and the edition
pub record BeginsOtherEdition (bytes : List ℕ) : Type 0 where
  pub edition : ℕ
  pub rest : List ℕ
  pub older : (edition ≡ 1) ⊎ (edition ≡ 2)
  pub bytes_are : bytes ≡ 67 ∷ 77 ∷ 72 ∷ 74 ∷ edition ∷ rest

-- the first fault of a file; a journal of another edition is told apart from what is none
abbrev pub IsFaultOfFile : List ℕ → FileFault → Type 0
IsFaultOfFile bytes OtherEdition = BeginsOtherEdition bytes
IsFaultOfFile bytes (Segment fault) = IsFault bytes fault × ¬ BeginsOtherEdition bytes

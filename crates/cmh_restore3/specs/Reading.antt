-- What is read of the journals that are restored: of each the head of one segment.
use Rattle.std.specs.Prelude.{◌≡◌, ℕ, List, ◌++◌, Option, Some}
use Rattle.std.specs.List.{AllZip}
use Rattle.cmh_segment3.specs.Head.{BeginsHead}
use Rattle.cmh_segment3.specs.declared.head.Head.{Head}
use Rattle.cmh_inputs.specs.Stored.{Stored}

-- a file begins with the head, and whatever stands behind it
pub record BeginsWith (file : List ℕ) (head : Head) : Type 0 where
  pub behind : List ℕ
  pub begins : BeginsHead file head behind

-- The head begins a segment of the journal at a path: the newest one, or another one in its folder.
pub record IsHeadAt (stored : Stored) (path : List ℕ) (head : Head) : Type 0 where
  pub name : List ℕ
  pub file : List ℕ
  pub held : stored.journals (path ++ name) ≡ Some file
  pub begins : BeginsWith file head

-- where the files are told
abbrev pub IsNamedHead : Option Stored → List ℕ → Head → Type 0
IsNamedHead told path head = (stored : Stored) → told ≡ Some stored → IsHeadAt stored path head

-- the heads are those of the journals at the paths, in their order
abbrev pub AreNamedHeads : Option Stored → List (List ℕ) → List Head → Type 0
AreNamedHeads told paths heads = AllZip (IsNamedHead told) paths heads

-- The sites of a world as a script names them.
use Rattle.std.specs.Prelude.{ℕ, List}
use Rattle.cmh_frames.specs.declared.edition.Edition.{Edition}

-- each site with its processes, in the order of the script
pub record Draft : Type 0 where
  pub edition : Edition
  pub rows : List (ℕ × List ℕ)

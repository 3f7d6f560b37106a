-- How a site's journal grows while its connections are served.
use Rattle.std.specs.Prelude.{Bool, List, ◌++◌, Option}
use Rattle.cmh_model3.specs.Entries.{Entry as Step}
use Rattle.cmh_station3.specs.Files.{Held}
use Rattle.cmh_node3.specs.Nodes.{IsExact, Node}

module _ {File : Type 0} (told : File → Option Held) (has_failed : File → Bool) where
  -- What the journal had it has, in front of what was taken, and the ends of the links have just what it has.
  pub record Grows (a b : Node File) : Type 0 where
    pub grown : (steps : List Step) → IsExact told has_failed a steps → (more : List Step) × IsExact told has_failed b (steps ++ more)

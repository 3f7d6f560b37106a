-- The files that a command can read, where they are told.
use Rattle.std.specs.Prelude.{◌≡◌, ℕ, ◌++◌, List, Option, Some, take, drop}

-- The files at all paths. They stay as they are while a command reads them.
pub record Stored : Type 0 where
  -- the bytes of the file at each path, where one can be read
  pub files : List ℕ → Option (List ℕ)
  -- those of the file of a journal; at the path of a folder, those of the newest segment in it
  pub journals : List ℕ → Option (List ℕ)

-- what was opened has just these bytes to be read, which are those at the path
pub record IsOpenedAt (held : List ℕ → Option (List ℕ)) (path : List ℕ) (left : Option (List ℕ)) : Type 0 where
  pub bytes : List ℕ
  pub held_is : held path ≡ Some bytes
  pub left_is : left ≡ Some bytes

-- so many of the bytes that are left were read behind the others, or all if they are fewer
pub record TakesUpTo (most : ℕ) (rest : List ℕ) (left : Option (List ℕ)) (before after : List ℕ) : Type 0 where
  pub read : after ≡ before ++ take most rest
  pub left_is : left ≡ Some (drop most rest)

-- Columns that options tell.
use Rattle.std.proofs.Common.{◌≡◌, ℕ, ◌<◌, ◌^◌, List, Option, None, Some}
use Rattle.cmh_commands.specs.Drawing.{TellsColumn}
use Rattle.cmh_commands.specs.Numbers.{TellsNumber}

pub column_is : (text : Option (List ℕ)) (read : Option ℕ) → (text ≡ None → read ≡ None)
    → ((column : ℕ) → column < 2 ^ 32 → TellsNumber text column → read ≡ Some column)
    → (told : Option ℕ) → TellsColumn text told → read ≡ told
column_is text read none some None unset = none unset
column_is text read none some (Some column) told = some column told.0 told.1

-- The words of the kinds of pictures.
use Rattle.std.specs.Prelude.{◌≡◌, ◌≢◌, ℕ, List, codes, Result, Ok, Err}
use Rattle.cmh_draw.specs.declared.picture.Kind.{Kind}
use Rattle.cmh_draw.specs.declared.picture.Kind.TheVariants.{Waits, Run}
use Rattle.cmh_draw.specs.declared.picture.NoKind.{NoKind}

abbrev pub kind_word : Kind → List ℕ
kind_word Waits = codes "waits"
kind_word Run = codes "run"

-- the kind that has this word; no kind where none has it
abbrev pub IsKindOf : List ℕ → Result Kind NoKind → Type 0
IsKindOf word (Ok kind) = word ≡ kind_word kind
IsKindOf word (Err fault) = (kind : Kind) → word ≢ kind_word kind

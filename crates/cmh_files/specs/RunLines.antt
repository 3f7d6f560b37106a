-- An entry of a run as a line.
use Rattle.std.specs.Prelude.{ℕ, List, ◌++◌, codes}
use Rattle.std.specs.Fmt.{decimal}
use Rattle.cmh_frames.specs.Entries.{Entry}
use Rattle.cmh_files.specs.EntryTexts.{line_text}

-- the line of its site's journal, after its site
abbrev pub run_line_text : ℕ → ℕ → Entry → List ℕ
run_line_text site number entry = decimal site ++ codes " " ++ line_text number entry

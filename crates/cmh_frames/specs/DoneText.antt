-- The text of a step in answers.
use Rattle.std.specs.Prelude.{List, ℕ, ◌++◌, codes}
use Rattle.std.specs.Fmt.{decimal}
use Rattle.cmh_frames.specs.Texts.{declared_text}
use Rattle.cmh_frames.specs.declared.done.Done.{Done}

-- how many frames a step sent, and whom it declared
abbrev pub done_text : Done → List ℕ
done_text done = codes "sent " ++ decimal done.sent ++ declared_text done.declared

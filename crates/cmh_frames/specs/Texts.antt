-- The texts of frames and of processes in answers.
use Rattle.std.specs.Prelude.{ℕ, List, [], ◌++◌, codes, Option, None, Some, flat_map}
use Rattle.std.specs.Fmt.{decimal}
use Rattle.cmh_frames.specs.declared.frame.Frame.{Frame}
use Rattle.cmh_frames.specs.declared.frame.Frame.TheVariants.{Request, Reply, Probe}

-- the kind and the numbers, with a space between them
abbrev pub frame_text : Frame → List ℕ
frame_text (Request (asker, holder)) = codes "request " ++ decimal asker ++ codes " " ++ decimal holder
frame_text (Reply (holder, asker)) = codes "reply " ++ decimal holder ++ codes " " ++ decimal asker
frame_text (Probe (origin, from, to)) =
    codes "probe " ++ decimal origin ++ codes " " ++ decimal from ++ codes " " ++ decimal to

abbrev pub declared_text : Option ℕ → List ℕ
declared_text None = []
declared_text (Some process) = codes " declared " ++ decimal process

abbrev pub process_text : ℕ → List ℕ
process_text process = codes " " ++ decimal process

-- each after a space
abbrev pub processes_text : List ℕ → List ℕ
processes_text processes = flat_map process_text processes

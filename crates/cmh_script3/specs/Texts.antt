-- A frame as words.
use Rattle.std.specs.Prelude.{ℕ, List, ◌++◌, codes}
use Rattle.std.specs.Fmt.{decimal}
use Rattle.cmh_model3.specs.declared.frame.Frame.{Frame}
use Rattle.cmh_model3.specs.declared.frame.Frame.TheVariants.{Request, Reply, Withdraw, Probe}

-- the kind and the numbers, with a space between them
abbrev pub frame_text : Frame → List ℕ
frame_text (Request asker holder) = codes "request " ++ decimal asker ++ codes " " ++ decimal holder
frame_text (Reply holder asker) = codes "reply " ++ decimal holder ++ codes " " ++ decimal asker
frame_text (Withdraw asker holder) = codes "withdraw " ++ decimal asker ++ codes " " ++ decimal holder
frame_text (Probe origin stamp holder to) =
    codes "probe " ++ decimal origin ++ codes " " ++ decimal stamp ++ codes " " ++ decimal holder ++ codes " " ++ decimal to

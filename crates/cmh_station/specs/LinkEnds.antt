-- The two ends of a link, for the frames of this model.
use Rattle.cmh_frames.specs.declared.frame.Frame.{Frame}
use Rattle.cmh_shared.specs.Links.{Link as LinkOf, Tap as TapOf}

-- the site's end
abbrev pub Link : Type 0
Link = LinkOf Frame

-- the other end, from which frames are taken
abbrev pub Tap : Type 0
Tap = TapOf Frame

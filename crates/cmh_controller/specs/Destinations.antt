-- Where frames go.
use Rattle.std.specs.Prelude.{ℕ}
use Rattle.cmh_frames.specs.declared.frame.Frame.{Frame}
use Rattle.cmh_frames.specs.declared.frame.Frame.TheVariants.{Request, Reply, Probe}
use Rattle.cmh_frames.specs.Topology.{Topology, site_of}

-- the process that a frame is for
abbrev pub receiver_of : Frame → ℕ
receiver_of (Request (asker, holder)) = holder
receiver_of (Reply (holder, asker)) = asker
receiver_of (Probe (origin, from, to)) = to

-- a frame with the site of that process
abbrev pub addressed : Topology → Frame → ℕ × Frame
addressed t frame = (site_of t (receiver_of frame), frame)

-- The links of a world that is played.
use Rattle.std.specs.Prelude.{◌≡◌, ℕ, Bool, true, false, ◌&&◌, ◌==◌, List, [], ◌∷◌, ◌++◌, drop, if◌then◌else◌, Option, None, Some, option_map}
use Rattle.std.specs.List.{list_any}
use Rattle.cmh_frames.specs.declared.frame.Frame.{Frame}
use Rattle.cmh_frames.specs.Journals.{frames_to}
use Rattle.cmh_world.specs.Links as world
use Rattle.cmh_play.specs.declared.links.Ends.{Ends}

-- the frames under way, and the links that are cut
abbrev pub Links : Type 0
Links = world.Links × List Ends

abbrev pub goes : ℕ → ℕ → Ends → Bool
goes a b ends = (a == ends.from) && (b == ends.to)

-- the frames under way from a to b, oldest first, or none where the link is cut
abbrev pub link_of : Links → ℕ → ℕ → Option (List Frame)
link_of links a b = if list_any (goes a b) links.1 then None else Some (world.waiting links.0 a b)

abbrev pub is_cut : Option (List Frame) → Bool
is_cut None = true
is_cut (Some frames) = false

abbrev pub next_of : Option (List Frame) → Option Frame
next_of None = None
next_of (Some []) = None
next_of (Some (frame ∷ frames)) = Some frame

-- a cut link loses what is sent on it
abbrev pub with_last : Option (List Frame) → Frame → Option (List Frame)
with_last None frame = None
with_last (Some frames) frame = Some (frames ++ frame ∷ [])

abbrev pub without_first : Option (List Frame) → Option (List Frame)
without_first None = None
without_first (Some frames) = Some (drop 1 frames)

-- each link is as it was
abbrev pub SameLinks : Links → Links → Type 0
SameLinks old new = (c d : ℕ) → link_of new c d ≡ link_of old c d

-- the link from a to b becomes this one, and each other is as it was
abbrev pub ChangesLink : Links → Links → ℕ → ℕ → Option (List Frame) → Type 0
ChangesLink old new a b link = (c d : ℕ) → link_of new c d ≡ (if (a == c) && (b == d) then link else link_of old c d)

-- a link with frames sent on it; one that is cut loses them
abbrev pub with_all : Option (List Frame) → List Frame → Option (List Frame)
with_all link sent = option_map (λ (frames : List Frame). frames ++ sent) link

-- the link from a to b after s sent these: what goes to b lies after what is under way; links of others are as they
-- were
abbrev pub link_after : Links → ℕ → List (ℕ × Frame) → ℕ → ℕ → Option (List Frame)
link_after links s sent a b = if s == a then with_all (link_of links a b) (frames_to b sent) else link_of links a b

-- What a station takes from its links.
use Rattle.std.specs.Prelude.{ℕ, List, [], ◌∷◌, ◌++◌, if◌then◌else◌, ◌==◌}
use Rattle.cmh_frames.specs.declared.frame.Frame.{Frame}
use Rattle.cmh_frames.specs.declared.event.Event.{Event}
use Rattle.cmh_frames.specs.declared.event.Event.TheVariants.{Ask, Reply, Start, Got}
use Rattle.cmh_frames.specs.Entries.{Entry}

-- what an event takes, with its site
abbrev pub receipt : Event → List (ℕ × Frame)
receipt (Ask asker targets) = []
receipt (Reply holder asker) = []
receipt (Start of) = []
receipt (Got from frame) = (from, frame) ∷ []

-- the receipts on all links, in their order
abbrev pub all_receipts : List Entry → List (ℕ × Frame)
all_receipts [] = []
all_receipts (e ∷ es) = receipt e.event ++ all_receipts es

-- those on one link
abbrev pub on_link : ℕ → List (ℕ × Frame) → List Frame
on_link site [] = []
on_link site (x ∷ xs) = (if x.0 == site then x.1 ∷ [] else []) ++ on_link site xs

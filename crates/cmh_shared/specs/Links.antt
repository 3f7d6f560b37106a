-- What a contract sees of links and of their taps.
use Rattle.std.specs.Prelude.{ℕ, ◌≡◌, ◌⊎◌, List, [], ◌++◌, map}
use mathlib.Core.List.{IsPrefix}
use denote.RawPtr.{Ptr}
use Rattle.rtrb.specs.Shared.{Names}
use Rattle.cmh_runs.specs.Journals.{frames_to}

-- The site's end of a link: the site at the other end, which ring it is (its words, its slots and its names), all frames
-- that ever went into it, those that wait to go in, and how many places of the ring are known to be free.
pub record Link (F : Type 0) : Type 0 where
  pub to : ℕ
  pub ring : Ptr × Ptr × Names
  pub released : List F
  pub backlog : List F
  pub free : ℕ

-- The other end: all frames that ever came out of the ring, and those that were seen in it since.
pub record Tap (F : Type 0) : Type 0 where
  pub to : ℕ
  pub ring : Ptr × Ptr × Names
  pub taken : List F
  pub known : List F

-- all links of a site; each backlog takes up to `reserved` frames more with no further memory
pub record SiteLinks (F : Type 0) : Type 0 where
  pub each : List (Link F)
  pub reserved : ℕ

-- the two ends of one ring
pub record IsTapOf {F : Type 0} (link : Link F) (tap : Tap F) : Type 0 where
  pub to : tap.to ≡ link.to
  pub ring : tap.ring ≡ link.ring

-- a link through which nothing has gone, and its tap
pub record AreFresh {F : Type 0} (link : Link F) (tap : Tap F) : Type 0 where
  pub link_is : link ≡ record { to = tap.to; ring = tap.ring; released = []; backlog = []; free = 64 }
  pub taken : tap.taken ≡ []

-- the sites that links lead to
abbrev pub ends_of : {F : Type 0} → List (Link F) → List ℕ
ends_of links = map (λ link. link.to) links

-- the frames for the link's site stand at the end of its backlog
abbrev pub queued : {F : Type 0} → List (ℕ × F) → Link F → Link F
queued sent link = record link { backlog = link.backlog ++ frames_to link.to sent }

-- frames went from the front of the backlog to the end of those released, as long as a place was known to be free
pub record Released {F : Type 0} (old new : Link F) : Type 0 where
  pub link_is : new ≡ record old { released = new.released; backlog = new.backlog; free = new.free }
  pub grows : IsPrefix old.released new.released
  pub same : new.released ++ new.backlog ≡ old.released ++ old.backlog
  pub most : (new.backlog ≡ []) ⊎ (new.free ≡ 0)

-- what was taken, and then what is left in the ring, is what was released
pub record Through {F : Type 0} (link : Link F) (tap : Tap F) : Type 0 where
  pub left : List F
  pub seen : IsPrefix tap.known left
  pub all : tap.taken ++ left ≡ link.released

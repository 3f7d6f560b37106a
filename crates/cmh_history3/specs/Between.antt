-- What the bases of all sites say of the links between them.
use Rattle.std.specs.Prelude.{ℕ, ◌+◌, ◌-◌, ◌≤◌, ◌==◌, ◌&&◌, List, [], ◌∷◌, length, drop, if◌then◌else◌, Contains}
use Rattle.std.specs.List.{All}
use Rattle.cmh_model3.specs.declared.frame.Message.{Message}
use Rattle.cmh_segment3.specs.declared.links.LinkState.{LinkState}
use Rattle.cmh_segment3.specs.declared.segment.Segment.{Segment}
use Rattle.cmh_audit3.specs.Set.{has_site}
use Rattle.cmh_history3.specs.declared.between.Link.{Link}

-- ---- what one base says; where it has no row for a site, nothing was sent to it and nothing got from it

-- of how many messages to a site it is known that they came
abbrev pub acked_to : List LinkState → ℕ → ℕ
acked_to [] s = 0
acked_to (row ∷ rows) s = if row.site == s then row.out.acked else acked_to rows s

-- those that were sent after them
abbrev pub kept_for : List LinkState → ℕ → List Message
kept_for [] s = []
kept_for (row ∷ rows) s = if row.site == s then row.out.kept else kept_for rows s

-- how many messages came from a site
abbrev pub got_from : List LinkState → ℕ → ℕ
got_from [] s = 0
got_from (row ∷ rows) s = if row.site == s then row.into.got else got_from rows s

-- the links of a site's base; none where it has no segment
abbrev pub links_of : List Segment → ℕ → List LinkState
links_of [] s = []
links_of (g ∷ segments) s = if g.header.site == s then g.base.links else links_of segments s

-- ---- the link from a to b

-- how many messages a knows to have come, those that it sent after them, and how many b got
abbrev pub acked : List Segment → ℕ → ℕ → ℕ
acked segments a b = acked_to (links_of segments a) b

abbrev pub kept : List Segment → ℕ → ℕ → List Message
kept segments a b = kept_for (links_of segments a) b

abbrev pub got : List Segment → ℕ → ℕ → ℕ
got segments a b = got_from (links_of segments b) a

-- what a knows to have come has come, and what came was sent
pub record Agrees (segments : List Segment) (a b : ℕ) : Type 0 where
  pub came : acked segments a b ≤ got segments a b
  pub was_sent : got segments a b ≤ acked segments a b + length (kept segments a b)

-- what a sent and b has not got, the oldest first
abbrev pub under_way : List Segment → ℕ → ℕ → List Message
under_way segments a b = drop (got segments a b - acked segments a b) (kept segments a b)

-- ---- all links between some sites

abbrev pub AreAgreed : List ℕ → List Segment → Type 0
AreAgreed sites segments = All (λ a. All (Agrees segments a) sites) sites

-- the bases do not agree on this one
pub record IsDisagreement (sites : List ℕ) (segments : List Segment) (link : Link) : Type 0 where
  pub from : Contains sites link.from
  pub to : Contains sites link.to
  pub apart : ¬ Agrees segments link.from link.to

-- what is under way between two of the sites, and nothing between others
abbrev pub between : List ℕ → List Segment → ℕ → ℕ → List Message
between sites segments a b = if has_site sites a && has_site sites b then under_way segments a b else []

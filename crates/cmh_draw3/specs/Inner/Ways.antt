-- The way of a message, and what a site's messages give.
use Rattle.std.specs.Prelude.{ℕ, Bool, not, ◌==◌, if◌then◌else◌, List, [], ◌∷◌, ◌++◌, None}
use Rattle.cmh_model3.specs.declared.frame.Message.{Message}
use Rattle.cmh_topology3.specs.Topology.{Topology, is_site, sites_of}
use Rattle.cmh_segment3.specs.declared.segment.Segment.{Segment}
use Rattle.cmh_audit3.specs.Journals.{journal_of}
use Rattle.cmh_draw.specs.Arrows.{link_arrows, spot_of}
use Rattle.cmh_draw.specs.Each.{each_from}
use Rattle.cmh_draw.specs.Inner.Ways.{if_on}
use Rattle.cmh_draw.specs.declared.mark.Arrow.{Arrow}
use Rattle.cmh_draw.specs.declared.mark.DrawnFrame.TheVariants.{Newer}
use Rattle.cmh_draw.specs.declared.mark.EntrySpot.{EntrySpot}
use Rattle.cmh_draw3.specs.Arrows.{got_from, sent_where}
use Rattle.cmh_draw3.specs.declared.arrows.Way.{Way}
use Rattle.cmh_draw3.specs.declared.arrows.Way.TheVariants.{To, Astray}

-- whether what goes to this site is on the way
abbrev pub is_on : Topology → Way → ℕ → Bool
is_on t (To site) to = to == site
is_on t Astray to = not (is_site t to)

-- of the messages that an entry sent, those on a way
abbrev pub sent_by : Topology → Way → EntrySpot → List (ℕ × Message) → List Arrow
sent_by t way at sent = each_from (λ place (x : ℕ × Message).
    if_on (is_on t way x.0) (record { from = at; place = place; to = x.0; frame = Newer x.1.frame; got = None })) 0 sent

-- of the messages from a site to another
abbrev pub to_site : List Segment → (ℕ → EntrySpot) → (ℕ → EntrySpot) → ℕ → ℕ → List Arrow
to_site segments from_spot to_spot site to =
    link_arrows to_spot (sent_where (λ x. x == to) from_spot (journal_of segments site)) (got_from site (journal_of segments to))

-- of the messages of a site, link by link
abbrev pub from_site : Topology → List Segment → List (List ℕ) → ℕ → ℕ → List Arrow
from_site t segments columns row site =
    each_from (λ to_row to. to_site segments (spot_of columns row site) (spot_of columns to_row to) site to) 0 (sites_of t)
    ++ sent_where (λ to. not (is_site t to)) (spot_of columns row site) (journal_of segments site)

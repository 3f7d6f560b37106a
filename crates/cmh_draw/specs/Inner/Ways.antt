-- The way of a frame, and what a site's frames give.
use Rattle.std.specs.Prelude.{ℕ, nat_lt, Bool, true, not, ◌==◌, if◌then◌else◌, List, [], ◌∷◌, ◌++◌, None}
use Rattle.std.specs.Option.{option_map_or}
use Rattle.cmh_frames.specs.declared.frame.Frame.{Frame}
use Rattle.cmh_frames.specs.Topology.{Topology, is_site, sites_of}
use Rattle.cmh_journal.specs.Journal.{Journal}
use Rattle.cmh_audit.specs.Journals.{journal_of}
use Rattle.cmh_draw.specs.Arrows.{spot_of, got_from, sent_where, link_arrows}
use Rattle.cmh_draw.specs.Each.{each_from}
use Rattle.cmh_draw.specs.declared.arrows.Way.{Way}
use Rattle.cmh_draw.specs.declared.arrows.Way.TheVariants.{To, Astray}
use Rattle.cmh_draw.specs.declared.mark.Arrow.{Arrow}
use Rattle.cmh_draw.specs.declared.mark.DrawnFrame.TheVariants.{Older}
use Rattle.cmh_draw.specs.declared.mark.EntrySpot.{EntrySpot}

-- whether what goes to this site is on the way
abbrev pub is_on : Topology → Way → ℕ → Bool
is_on t (To site) to = to == site
is_on t Astray to = not (is_site t to)

abbrev pub if_on : Bool → Arrow → List Arrow
if_on b arrow = if b then arrow ∷ [] else []

-- of the frames that an entry sent, those on a way
abbrev pub sent_by : Topology → Way → EntrySpot → List (ℕ × Frame) → List Arrow
sent_by t way at sent = each_from (λ place (x : ℕ × Frame).
    if_on (is_on t way x.0) (record { from = at; place = place; to = x.0; frame = Older x.1; got = None })) 0 sent

-- of the frames from a site to another
abbrev pub to_site : List Journal → (ℕ → EntrySpot) → (ℕ → EntrySpot) → ℕ → ℕ → List Arrow
to_site journals from_spot to_spot site to =
    link_arrows to_spot (sent_where (λ x. x == to) from_spot (journal_of journals site)) (got_from site (journal_of journals to))

-- of the frames of a site, link by link
abbrev pub from_site : Topology → List Journal → List (List ℕ) → ℕ → ℕ → List Arrow
from_site t journals columns row site =
    each_from (λ to_row to. to_site journals (spot_of columns row site) (spot_of columns to_row to) site to) 0 (sites_of t)
    ++ sent_where (λ to. not (is_site t to)) (spot_of columns row site) (journal_of journals site)

-- whether the entry that got the frame of an arrow, if one did, stands on the right of the one that sent it
abbrev pub is_forward : Arrow → Bool
is_forward arrow = option_map_or (λ (got : EntrySpot). nat_lt arrow.from.spot.column got.spot.column) arrow.got true

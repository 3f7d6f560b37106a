-- The frames of a run as arrows: from the entry that sent a frame to the entry that got it.
use Rattle.std.specs.Prelude.{ℕ, ◌-◌, ◌<◌, Bool, not, ◌==◌, if◌then◌else◌, List, [], ◌∷◌, ◌++◌, get_or, map, slice_get, slice_index, option_map, None, IfSome}
use Rattle.cmh_frames.specs.declared.frame.Frame.{Frame}
use Rattle.cmh_frames.specs.Journals.{frame_from}
use Rattle.cmh_frames.specs.Topology.{Topology, is_site, sites_of}
use Rattle.cmh_frames.specs.Entries.{Entry}
use Rattle.cmh_journal.specs.Journal.{Journal}
use Rattle.cmh_audit.specs.Journals.{journal_of}
use Rattle.cmh_draw.specs.Each.{each_from}
use Rattle.cmh_draw.specs.declared.mark.Arrow.{Arrow}
use Rattle.cmh_draw.specs.declared.mark.DrawnFrame.TheVariants.{Older}
use Rattle.cmh_draw.specs.declared.mark.EntrySpot.{EntrySpot}

-- where the entry of this number of a site is drawn: in the row of the site, in the column that this row has for it, or
-- in column 0 where it has none
abbrev pub spot_of : List (List ℕ) → ℕ → ℕ → ℕ → EntrySpot
spot_of columns row site number =
    let column = slice_index (get_or columns row []) (number - 1) in
    record { site = site; number = number; spot = record { column = column; row = row } }

-- the frames that entries sent to where it says, as arrows that end nowhere; the entry of a number stands at its spot
abbrev pub sent_where : (ℕ → Bool) → (ℕ → EntrySpot) → List Entry → List Arrow
sent_where goes spot entries = each_from (λ number (e : Entry). each_from (λ place (x : ℕ × Frame). if goes x.0
    then (record { from = spot number; place = place; to = x.0; frame = Older x.1; got = None }) ∷ [] else []) 0 e.sent) 1 entries

-- the numbers of the entries that got a frame from the site
abbrev pub got_from : ℕ → List Entry → List ℕ
got_from site entries = each_from (λ number (e : Entry). map (λ frame. number) (frame_from site e.event)) 1 entries

-- of the frames that were sent on a link the first is the first that was got, the second the second, and so on
abbrev pub link_arrows : (ℕ → EntrySpot) → List Arrow → List ℕ → List Arrow
link_arrows spot sent got =
    each_from (λ place (arrow : Arrow). record arrow { got = option_map spot (slice_get got place) } ∷ []) 0 sent

-- an arrow for each frame that was sent: site by site, link by link, and at last those to no site of the topology,
-- which nobody got
abbrev pub arrows_of : Topology → List Journal → List (List ℕ) → List Arrow
arrows_of t journals columns = each_from (λ row site.
    each_from (λ to_row to. link_arrows (spot_of columns to_row to)
    (sent_where (λ x. x == to) (spot_of columns row site) (journal_of journals site))
    (got_from site (journal_of journals to))) 0 (sites_of t)
    ++ sent_where (λ to. not (is_site t to)) (spot_of columns row site) (journal_of journals site)) 0 (sites_of t)

-- an arrow goes forward in time: the entry that got the frame, if one did, stands on the right of the one that sent it
abbrev pub IsForward : Arrow → Type 0
IsForward arrow = IfSome arrow.got (λ (got : EntrySpot). arrow.from.spot.column < got.spot.column)

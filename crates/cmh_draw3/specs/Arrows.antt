-- The messages of a run as arrows: from the entry that sent a message to the entry that got it.
use Rattle.std.specs.Prelude.{ℕ, Bool, not, ◌==◌, if◌then◌else◌, List, [], ◌∷◌, ◌++◌, None}
use Rattle.cmh_model3.specs.declared.event.Event.{Event}
use Rattle.cmh_model3.specs.declared.event.Event.TheVariants.{Got}
use Rattle.cmh_model3.specs.declared.frame.Message.{Message}
use Rattle.cmh_topology3.specs.Topology.{Topology, is_site, sites_of}
use Rattle.cmh_segment3.specs.declared.entry.Entry.{Entry}
use Rattle.cmh_segment3.specs.declared.segment.Segment.{Segment}
use Rattle.cmh_audit3.specs.Journals.{journal_of}
use Rattle.cmh_draw.specs.Arrows.{link_arrows, spot_of}
use Rattle.cmh_draw.specs.Each.{each_from}
use Rattle.cmh_draw.specs.declared.mark.Arrow.{Arrow}
use Rattle.cmh_draw.specs.declared.mark.DrawnFrame.TheVariants.{Newer}
use Rattle.cmh_draw.specs.declared.mark.EntrySpot.{EntrySpot}

-- the messages that entries sent to where it says, as arrows that end nowhere; the entry of a number stands at its spot
abbrev pub sent_where : (ℕ → Bool) → (ℕ → EntrySpot) → List Entry → List Arrow
sent_where goes spot entries = each_from (λ number (e : Entry). each_from (λ place (x : ℕ × Message). if goes x.0
    then (record { from = spot number; place = place; to = x.0; frame = Newer x.1.frame; got = None }) ∷ [] else []) 0 e.sent) 1 entries

-- the number, where a message from the site was got
abbrev pub number_if : ℕ → ℕ → Event → List ℕ
number_if site number (Got from clock frame) = if from == site then number ∷ [] else []
number_if site number event = []

-- the numbers of the entries that got a message from the site
abbrev pub got_from : ℕ → List Entry → List ℕ
got_from site entries = each_from (λ number (e : Entry). number_if site number e.event) 1 entries

-- An arrow for each message that was sent: site by site, link by link, and at last those to no site of the topology, which
-- nobody got. The k-th that was sent on a link is the k-th that was got.
abbrev pub arrows_of : Topology → List Segment → List (List ℕ) → List Arrow
arrows_of t segments columns = each_from (λ row site.
    each_from (λ to_row to. link_arrows (spot_of columns to_row to)
    (sent_where (λ x. x == to) (spot_of columns row site) (journal_of segments site))
    (got_from site (journal_of segments to))) 0 (sites_of t)
    ++ sent_where (λ to. not (is_site t to)) (spot_of columns row site) (journal_of segments site)) 0 (sites_of t)

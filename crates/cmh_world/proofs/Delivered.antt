-- The first frame under way on a link is accepted, and the run can go on by it.
use Rattle.std.proofs.Common.{◌≡◌, ℕ, List, [], ◌∷◌, ◌++◌, refl, ap, subst, arith}
use Rattle.std.specs.List.{AllByRecursion}
use Rattle.cmh_frames.specs.declared.frame.Frame.{Frame}
use Rattle.cmh_frames.specs.declared.frame.Frame.TheVariants.{Request, Reply as Reply_frame, Probe}
use Rattle.cmh_frames.specs.declared.event.Event.TheVariants.{Got}
use Rattle.cmh_frames.specs.Entries.{WorldEvent}
use Rattle.cmh_frames.specs.Topology.{Topology}
use Rattle.cmh_frames.specs.Relation.{has}
use Rattle.cmh_frames.specs.Rules.{Accepts}
use Rattle.cmh_frames.specs.Runs.{IsRun, under_way, state_of}
use Rattle.cmh_frames.specs.Laws.{bit, count_of, is_request, is_reply}
use Rattle.cmh_frames.proofs.Bits.{bit_zero, bit_one, bit_at_most}
use Rattle.cmh_frames.proofs.Fits.{FrameFits, under_way_fits}
use Rattle.cmh_frames.proofs.LongerRuns.{run_more}
use Rattle.cmh_frames.proofs.Moves.{both_yes}
use Rattle.cmh_frames.proofs.SomeOutcome.{some_outcome}
use Rattle.cmh_world.proofs.World.{Invariant}
use Rattle.cmh_world.proofs.RunsSoFar.{world_of, invariant_of_run}

-- it fits, and what it says of a wait is so
pub first_accepted : (t : Topology) (events : List WorldEvent) → IsRun t events → (a b : ℕ) (frame : Frame) (behind : List Frame) → under_way a b events ≡ frame ∷ behind
    → Accepts t b (state_of t b events) (Got a frame)
first_accepted t events run a b frame behind queue = go frame queue (subst (AllByRecursion (FrameFits t a b)) queue (under_way_fits t events run a b)).0
  where
    inv : Invariant t (world_of t events)
    inv = invariant_of_run t events run

    go : (frame : Frame) → under_way a b events ≡ frame ∷ behind → FrameFits t a b frame → Accepts t b (state_of t b events) (Got a frame)
    go (Request (j, k)) queue fits =
        let all = (inv.each a b j k fits.1 fits.2).0 in
        let count = ap (count_of (is_request j k)) queue in
        let one = ap bit (both_yes j k j k refl refl) in
        let most = bit_at_most (has (state_of t a events).waits j k) in
        (fits.0, fits.1, fits.2, bit_zero (has (state_of t b events).owed k j) (omega arith))
    go (Reply_frame (k, j)) queue fits =
        let all = (inv.each b a j k fits.2 fits.1).0 in
        let count = ap (count_of (is_reply k j)) queue in
        let one = ap bit (both_yes k j k j refl refl) in
        let most = bit_at_most (has (state_of t b events).waits j k) in
        let is : bit (has (state_of t b events).waits j k) ≡ 1 = omega arith in
        (fits.0, fits.1, fits.2, bit_one (has (state_of t b events).waits j k) 0 is)
    go (Probe (i, j, k)) queue fits = fits

-- its receipt makes the run one longer
pub deliverable : (t : Topology) (events : List WorldEvent) → IsRun t events → (a b : ℕ) (frame : Frame) (behind : List Frame) → under_way a b events ≡ frame ∷ behind
    → (e : WorldEvent) × (e.site ≡ b) × (e.entry.event ≡ Got a frame) × IsRun t (events ++ e ∷ [])
deliverable t events run a b frame behind queue =
    let outcome = some_outcome t b (state_of t b events) (Got a frame) in
    let e : WorldEvent = record { site = b; entry = record { event = Got a frame; sent = outcome.0; declared = outcome.1 } } in
    (e, refl, refl, run_more t events e run (first_accepted t events run a b frame behind queue) outcome.2 (behind, queue))

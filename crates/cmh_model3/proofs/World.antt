-- The state of a world, and one event of it.
use Rattle.std.specs.Prelude.{◌≡◌, ◌≢◌, ℕ, ◌+◌, Bool, false, not, ◌&&◌, ◌||◌, List, ◌++◌, ◌==◌, if◌then◌else◌}
use Rattle.cmh_runs.proofs.Journals as runs
pub use Rattle.cmh_runs.proofs.Journals.{sent_on}
use Rattle.cmh_model3.specs.declared.frame.Frame.{Frame}
use Rattle.cmh_model3.specs.declared.frame.Frame.TheVariants.{Request, Reply as Reply_frame, Withdraw as Withdraw_frame, Probe}
use Rattle.cmh_model3.specs.declared.frame.Message.{Message}
use Rattle.cmh_model3.specs.Entries.{WorldEvent}
use Rattle.cmh_model3.specs.State.{State, waits_for}
use Rattle.cmh_model3.specs.Rules.{clock_after, Accepts, after, Sends}
use Rattle.cmh_model3.specs.Journals.{message_from}
use Rattle.cmh_model3.specs.Waits.{begins, ends}
use Rattle.cmh_model3.specs.Stops.{is_within}
use Rattle.cmh_model3.specs.Frames.{bit}

abbrev pub frame_requests : ℕ → ℕ → Frame → Bool
frame_requests j k (Request i h) = (i == j) && (h == k)
frame_requests j k (Reply_frame h i) = false
frame_requests j k (Withdraw_frame i h) = false
frame_requests j k (Probe i n a b) = false

abbrev pub frame_withdraws : ℕ → ℕ → Frame → Bool
frame_withdraws j k (Request i h) = false
frame_withdraws j k (Reply_frame h i) = false
frame_withdraws j k (Withdraw_frame i h) = (i == j) && (h == k)
frame_withdraws j k (Probe i n a b) = false

abbrev pub is_withdraw : ℕ → ℕ → Message → Bool
is_withdraw j k m = frame_withdraws j k m.frame

abbrev pub is_request : ℕ → ℕ → Message → Bool
is_request j k m = frame_requests j k m.frame

pub record World : Type 0 where
  pub value : ℕ → State
  pub queue : ℕ → ℕ → List Message
  pub wait : ℕ → ℕ → Bool  -- by the events so far
  pub early : ℕ → ℕ → ℕ → Bool  -- by those within stop n

-- what one event got on the link from a to b
abbrev pub got_on : ℕ → ℕ → WorldEvent → List Message
got_on = runs.got_on message_from

pub record Step (home : ℕ → ℕ) (w : World) (e : WorldEvent) (n : World) : Type 0 where
  pub accepted : Accepts home e.site (w.value e.site) e.entry.event
  pub sends : Sends home e.site (w.value e.site) e.entry.event e.entry.sent e.entry.declared
  pub here : n.value e.site ≡ after home e.site (w.value e.site) e.entry.event e.entry.declared
  pub elsewhere : (a : ℕ) → a ≢ e.site → n.value a ≡ w.value a
  pub links : (a b : ℕ) → w.queue a b ++ sent_on a b e ≡ got_on a b e ++ n.queue a b
  pub waits : (j k : ℕ) → n.wait j k ≡ (begins j k e.entry.event || (not (ends j k e.entry.event) && w.wait j k))
  pub earlier : (m j k : ℕ) → n.early m j k
      ≡ (if is_within m (clock_after (w.value e.site).clock e.entry.event) e.entry.event
      then begins j k e.entry.event || (not (ends j k e.entry.event) && w.early m j k) else w.early m j k)

-- how often j keeps k: as a wait, or as one that it gave up
abbrev pub held : State → ℕ → ℕ → ℕ
held v j k = bit (waits_for v j k) + bit (v.leaving j k)

-- the clock of the site of a process
abbrev pub clock_of : (ℕ → ℕ) → World → ℕ → ℕ
clock_of home w x = (w.value (home x)).clock

-- What is counted of the frames that went on a link.
use Rattle.std.specs.Prelude.{◌≡◌, ℕ, ◌-◌, ◌^◌, ◌<◌, List, Option, All, length, map, min, option_and_then, slice_get, slice_index_or, sum_by}
use Rattle.cmh_frames.specs.Journals.{receipts_of, sendings_of}
use Rattle.cmh_frames.specs.Runs.{IsBeginningOf}
use Rattle.cmh_frames.specs.Entries.{Entry}
use Rattle.cmh_cluster.specs.declared.settling.Receipts.{Receipts}
use Rattle.cmh_cluster.specs.declared.settling.Sendings.{Sendings}
use Rattle.cmh_cluster.specs.declared.settling.Tally.{Tally}

-- ---- one link

-- all entries of the receiver's journal were looked at, and so many frames of the link were got by them; the number stops at
-- its greatest
pub record AreReceipts (journal : List Entry) (count : Receipts) : Type 0 where
  pub frames : count.frames ≡ min (length (receipts_of count.from journal)) (2 ^ 64 - 1)
  pub looked : count.entries ≡ length journal

-- the same of the sender's journal and of the frames that were sent on the link
pub record AreSendings (journal : List Entry) (count : Sendings) : Type 0 where
  pub frames : count.frames ≡ min (length (sendings_of count.to journal)) (2 ^ 64 - 1)
  pub looked : count.entries ≡ length journal

-- a count of a journal's first entries becomes one of all of them
pub record CountsReceipts (journal : List Entry) (old new : Receipts) : Type 0 where
  pub link : new.from ≡ old.from
  pub counted : (before : List Entry) → IsBeginningOf before journal → AreReceipts before old → AreReceipts journal new

pub record CountsSendings (journal : List Entry) (old new : Sendings) : Type 0 where
  pub link : new.to ≡ old.to
  pub counted : (before : List Entry) → IsBeginningOf before journal → AreSendings before old → AreSendings journal new

-- nothing was looked at
abbrev pub no_receipts : ℕ → Receipts
no_receipts from = record { from = from; frames = 0; entries = 0 }

abbrev pub no_sendings : ℕ → Sendings
no_sendings to = record { to = to; frames = 0; entries = 0 }

-- ---- all links

-- at each place of two lists of one length
abbrev pub AtEach : {X : Type 0} → (X → X → Type 0) → List X → List X → Type 0
AtEach {X} R xs ys = (length ys ≡ length xs) × ((k : ℕ) (d e : X) → k < length xs → R (slice_index_or xs k d) (slice_index_or ys k e))

-- of each link between two of the sites nothing was looked at
pub record IsNewTally (sites : List ℕ) (tally : Tally) : Type 0 where
  pub received_by : length tally.received.items ≡ length sites
  pub received : All (λ row. row.items ≡ map no_receipts sites) tally.received.items
  pub sent_by : length tally.sent.items ≡ length sites
  pub sent : All (λ row. row.items ≡ map no_sendings sites) tally.sent.items

-- how many frames were got, on all links
abbrev pub receipts_of_all : Tally → ℕ
receipts_of_all tally = sum_by (λ row. sum_by (λ receipts. receipts.frames) row.items) tally.received.items

-- what was got on the link from one place to another
abbrev pub received_at : Tally → ℕ → ℕ → Option Receipts
received_at tally from to = option_and_then (λ row. slice_get row.items from) (slice_get tally.received.items to)

-- what was sent on it
abbrev pub sent_at : Tally → ℕ → ℕ → Option Sendings
sent_at tally from to = option_and_then (λ row. slice_get row.items to) (slice_get tally.sent.items from)

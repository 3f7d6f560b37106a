-- What entries come to that were taken one after the other: enough for the report of an audit.
use Rattle.std.specs.Prelude.{◌≡◌, ℕ, ◌+◌, ◌-◌, ◌^◌, ◌<◌, ◌≤◌, ◌↔◌, min, List, length, All, Contains, false}
use Rattle.cmh_frames.specs.Topology.{Topology}
use Rattle.cmh_frames.specs.declared.event.Event.{Event}
use Rattle.cmh_frames.specs.declared.event.Event.TheVariants.{Ask, Reply, Start, Got}
use Rattle.cmh_frames.specs.Entries.{Entry}
use Rattle.cmh_frames.specs.Runs.{ComeFromRun}
use Rattle.cmh_journal.specs.Journal.{Journal, entry_limit}
use Rattle.cmh_audit.specs.Declarations.{declares, HasMore}
use Rattle.cmh_audit.specs.Journals.{journal_of}
use Rattle.cmh_audit.specs.Set.{IsSet}
use Rattle.cmh_audit.specs.Sums.{in_journals}
use Rattle.cmh_audit.specs.Transit.{sent_count}
use Rattle.cmh_audit.specs.Turns.{turned, turns, is_open, Turns}

-- how many frames an event got
abbrev pub got_by : Event → ℕ
got_by (Ask asker targets) = 0
got_by (Reply holder asker) = 0
got_by (Start of) = 0
got_by (Got from frame) = 1

abbrev pub got_count : Entry → ℕ
got_count e = got_by e.event

-- a count as it is kept: no further than its type goes
abbrev pub kept : ℕ → ℕ
kept n = min n (2 ^ 64 - 1)

pub record Totals : Type 0 where
  pub waits : List (List ℕ)  -- those that are open, by their askers' numbers
  pub declared : List ℕ
  pub events : ℕ
  pub sent : ℕ  -- frames
  pub got : ℕ

-- one entry was taken more
pub record AddsEntry (old new : Totals) (entry : Entry) : Type 0 where
  pub waits : Turns old.waits new.waits (λ j k. turns j k entry)
  pub declared : HasMore old.declared new.declared (λ i. declares i entry)
  pub events : new.events ≡ kept (old.events + 1)
  pub sent : new.sent ≡ kept (old.sent + sent_count entry)
  pub got : new.got ≡ kept (old.got + got_count entry)

-- the totals of entries over which a count of each sums up so
pub record AreTotals (sum : (Entry → ℕ) → ℕ) (totals : Totals) : Type 0 where
  pub waits : (j k : ℕ) → is_open totals.waits j k ≡ turned (sum (turns j k)) false
  pub declared : (i : ℕ) → Contains totals.declared i ↔ (0 < sum (declares i))
  pub events : totals.events ≡ kept (sum (λ e. 1))
  pub sent : totals.sent ≡ kept (sum sent_count)
  pub got : totals.got ≡ kept (sum got_count)

-- of all entries of these journals
abbrev pub AreTotalsOf : List Journal → Totals → Type 0
AreTotalsOf journals totals = AreTotals (λ f. in_journals f journals) totals

-- no journal is longer than one may be, so no count of them goes beyond its type
abbrev pub AreWithinLimit : List Journal → Type 0
AreWithinLimit journals = All (λ (j : Journal). length j.entries ≤ entry_limit) journals

-- the journals of all sites come from a run, and these are their totals
pub record AreTotalsOfRun (t : Topology) (journals : List Journal) (totals : Totals) : Type 0 where
  pub set : IsSet t journals
  pub limit : AreWithinLimit journals
  pub comes : ComeFromRun t (journal_of journals)
  pub sums : AreTotalsOf journals totals

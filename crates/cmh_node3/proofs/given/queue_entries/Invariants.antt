use Rattle.std.proofs.Common.{take}
use Rattle.cmh_runs.specs.Journals.{sendings_of}
use Rattle.cmh_node3.specs.Peers.{WasGiven}
use Rattle.cmh_node3.proofs.given.queue_entries.Given as goal

-- what the entries so far sent was given
abbrev pub invariant-loop-entry : goal.invariant-loop-entry
invariant-loop-entry l = WasGiven (sendings_of l.to (take l.entry-index l.entries)) l.fn.out l.out

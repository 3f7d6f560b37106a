use Rattle.std.proofs.Common.{take}
use Rattle.cmh_runs.specs.Journals.{frames_to}
use Rattle.cmh_node3.specs.Peers.{WasGiven}
use Rattle.cmh_node3.proofs.given.queue_sent.Given as goal

-- the frames so far were given
abbrev pub invariant-loop-site : goal.invariant-loop-site
invariant-loop-site l = WasGiven (frames_to l.to (take l.site-index l.sent)) l.fn.out l.out

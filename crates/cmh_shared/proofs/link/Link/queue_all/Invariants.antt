use Rattle.std.proofs.Common.{◌≡◌, length, drop}
use Rattle.cmh_shared.specs.Backlogs.{HasRoom, seen}
use Rattle.cmh_shared.specs.Links.{queued}
use Rattle.cmh_shared.proofs.Queuing.{sent_of}
use Rattle.cmh_shared.proofs.link.Link.queue_all.Given as goal

-- with the frames of the entries that are left, it is as with all
abbrev pub invariant-loop-entry : goal.invariant-loop-entry
invariant-loop-entry g l = record {
  all : queued (sent_of (drop l.entry-index l.entries)) (seen l.self) ≡ queued (sent_of l.entries) (seen l.initial.self);
  room : HasRoom (length (sent_of (drop l.entry-index l.entries))) l.self;
}

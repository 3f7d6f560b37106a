use Rattle.std.proofs.Common.{◌≡◌, ℕ, ◌<◌, ◌≤◌, get_or}
use Rattle.cmh_shared.specs.declared.link.Link.{Link}
use Rattle.cmh_shared.specs.Backlogs.{seen}
use Rattle.cmh_shared.specs.Links.{queued}
use Rattle.cmh_shared.proofs.Queuing.{sent_of}
use Rattle.cmh_shared.proofs.links.queue_each.Given as goal

abbrev pub invariant-loop-link : goal.invariant-loop-link
invariant-loop-link g l = record {
  done : (k : ℕ) (d : Link g.row.F.Denot) → k < l.link-index → seen (get_or l.links k d) ≡ queued (sent_of l.entries) (seen (get_or l.initial.links k d));
  rest : (k : ℕ) (d : Link g.row.F.Denot) → l.link-index ≤ k → get_or l.links k d ≡ get_or l.initial.links k d;
}

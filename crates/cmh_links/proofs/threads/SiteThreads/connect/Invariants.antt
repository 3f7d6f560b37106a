use Rattle.std.proofs.Common.{◌≡◌, ◌+◌, ◌≤◌}
use Rattle.std.specs.Prelude.{vec_len}
use Rattle.cmh_links.specs.Threads.{connected_in, failed_in, link_sites}
use Rattle.cmh_links.proofs.threads.SiteThreads.connect.Given as goal

abbrev pub invariant-loop-tap : goal.invariant-loop-tap
invariant-loop-tap g l = record {
  few : l.connected + l.failed + vec_len l.self.waiting ≤ vec_len l.fn.self.waiting;
  connected : connected_in l.self.places.items ≡ connected_in l.fn.self.places.items + l.connected;
  failed : failed_in l.self.places.items ≡ failed_in l.fn.self.places.items + l.failed;
  links : link_sites l.self.places.items l.self.waiting.items ≡ link_sites l.fn.self.places.items l.fn.self.waiting.items;
}

abbrev pub decreases-loop-tap : goal.decreases-loop-tap
decreases-loop-tap g l = vec_len l.self.waiting

use Rattle.std.proofs.Common.{◌≡◌, ℕ, ◌==◌, [], ◌++◌, if◌then◌else◌, take}
use Rattle.cmh_model3.specs.Journals.{frames_to}
use Rattle.cmh_play3.specs.Links.{is_cut, under_way}
use Rattle.cmh_play3.proofs.playground.send_all.Given as goal

abbrev pub invariant-loop-to : goal.invariant-loop-to
invariant-loop-to l = record {
  sent : (a b : ℕ) → under_way l.links a b
      ≡ under_way l.fn.links a b ++ (if l.from == a then frames_to b (take l.to-index l.sent) else []);
  cuts : (a b : ℕ) → is_cut l.links a b ≡ is_cut l.fn.links a b;
}

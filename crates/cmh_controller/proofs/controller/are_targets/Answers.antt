use Rattle.std.proofs.Common.{◌≤◌, arith, refl, rules, length}
use Rattle.cmh_frames.proofs.Members.{all_from}
use Rattle.cmh_controller.proofs.controller.are_targets.Goals as goal

pub returns : goal.returns
returns c =
    let targets = c.args.targets.now in (
      λ _. record {
        some = search rules;
        within = search rules;
        ascending = c.is_ascending.ensures.0 c.if-not-is_ascending.false;
        known = all_from _ targets (λ k h. c.loop-target.invariant k (let ended : length targets ≤ c.loop-target.target-index = c.loop-target-test.false in omega arith));
      },
      λ _. refl,
    )

use Rattle.std.proofs.Common.{subst}
use Rattle.cmh_merge.specs.Queues.{waiting}
use Rattle.cmh_history3.proofs.Queueing.{rise_distinct}
use Rattle.cmh_history3.specs.Says.{AreUnderWay}
use Rattle.cmh_history3.proofs.Following.{they_follow}
use Rattle.cmh_history3.proofs.next.follows.Goals as goal

pub are_under_way-requires : goal.are_under_way-requires
are_under_way-requires c = rise_distinct c.sites.result.now c.sites.ensures.ascending

pub returns-clause-follow : goal.returns-clause-follow
returns-clause-follow c = λ yes segments end.
    let links = subst (λ sites. AreUnderWay sites c.args.next.now (waiting c.args.under_way)) c.sites.ensures.value (c.are_under_way.ensures.0 yes) in
    they_follow c.args.topology.now c.sites.ensures.well_formed c.args.controllers.now c.args.under_way c.args.epoch c.args.next.now c.requires.set c.requires.epoch c.in_ok-are_said.ensures.fits
    (record { states = c.in_ok-are_said.ensures.said.0 c.if-not-branch.false; links = links }) (c.in_ok-are_said.ensures.turn c.if-not-branch.false) segments end
